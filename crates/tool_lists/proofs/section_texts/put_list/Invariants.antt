use Rattle.std.proofs.Common.{◌≡◌, ◌++◌, drop}
use Rattle.tool_lists.specs.SectionTexts.{section_lines}
use Rattle.tool_lists.proofs.section_texts.put_list.Given as goal

-- what was put, and the lines of what is left, are the lines of all
abbrev pub invariant-loop-header : goal.invariant-loop-header
invariant-loop-header l = record {
  told : l.out.items ++ section_lines l.format l.number (drop l.header-index l.headers) ≡ l.fn.out.items ++ section_lines l.format 1 l.headers;
}
