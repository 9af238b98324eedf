use Rattle.std.proofs.Common.{◌∙◌, sym, true≢false}
use Rattle.pdb_file.proofs.Known.{known_at_first, steady_at_first}
use Rattle.tool_program.proofs.key_line.key_line.Goals as goal

pub returns-clause-line : goal.returns-clause-line
returns-clause-line g c = λ G known size.
    let here = known_at_first _ _ _ _ _ G c.new-source.ensures c.new-file.ensures known size in
    let line = rw here.1 at (c.line_of.ensures.line here.0) in
    line size

pub returns-clause-stopped : goal.returns-clause-stopped
returns-clause-stopped g c = λ G known size.
    let here = known_at_first _ _ _ _ _ G c.new-source.ensures c.new-file.ensures known size in
    let stopped = rw here.1 at (c.line_of.ensures.stopped here.0) in
    stopped size

pub returns-clause-steady : goal.returns-clause-steady
returns-clause-steady g c = λ steady G known size read.
    absurd (true≢false (sym (steady_at_first _ _ _ _ _ G c.new-source.ensures steady known size) ∙ c.line_of.ensures.steady read))
