use Rattle.std.proofs.Common.{◌≡◌, ◌++◌, flat_map, take}
use Rattle.pdb_list.specs.Texts.{section_text}
use Rattle.pdb_list.proofs.sections.put_list.Given as goal

-- the lines of the headers so far were put
abbrev pub invariant-loop-header : goal.invariant-loop-header
invariant-loop-header l = l.out.items ≡ l.fn.out.items ++ flat_map section_text (take l.header-index l.headers)
