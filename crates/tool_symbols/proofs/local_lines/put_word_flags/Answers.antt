use Rattle.std.specs.Prelude.{codes}
use Rattle.tool_symbols.proofs.LocalWords.{both, optimized_out}
use Rattle.tool_fields.proofs.Results.{appended}
use Rattle.tool_symbols.proofs.local_lines.put_word_flags.Goals as goal

pub returns-in-256 : goal.returns-in-256
returns-in-256 c =
    rw (c.in-256.is, optimized_out)
    (appended c.extend_from_slice-in-256.result c.extend_from_slice-in-256.new.self.items c.args.out.now.items (codes "optimizedout") c.extend_from_slice-in-256.ensures.items)

pub returns-in-257 : goal.returns-in-257
returns-in-257 c =
    rw (c.in-257.is, both)
    (appended c.extend_from_slice-in-257.result c.extend_from_slice-in-257.new.self.items c.args.out.now.items (codes "param+optimizedout") c.extend_from_slice-in-257.ensures.items)
