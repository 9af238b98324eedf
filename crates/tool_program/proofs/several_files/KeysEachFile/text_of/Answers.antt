use Rattle.std.proofs.Common.{ap, Err, Some, true, sym, ◌∙◌}
use Rattle.pdb_file.specs.FileBytes.{bytes_by}
use Rattle.tool_arguments.specs.Operands.{operand_view}
use Rattle.tool_program.proofs.Passed.{line_stopped}
use Rattle.tool_program.proofs.several_files.KeysEachFile.text_of.Goals as goal

pub returns-in_err-text : goal.returns-in_err-text
returns-in_err-text g c = λ known.
    let stopped = rw c.as_bytes-word.ensures.value at c.in_err-text.ensures.stopped in
    line_stopped (bytes_by g.H.File.ReadAt.known (λ bytes. Some bytes)) (bytes_by g.H.File.ReadAt.is_steady (λ bytes. true)) c.in_ok-bytes.bytes _ c.args.self.now.format (operand_view c.args.name) c.from_residual-in_err-text.result c.in_err-text.field-0.0 (c.in_ok-bytes.ensures known) c.from_residual-in_err-text.ensures.1
    (λ file is size x m n same. stopped file is (size ∙ sym c.size.ensures) x m n (ap Err (sym same))) (λ steady file is size same. c.in_err-text.ensures.steady steady file is (size ∙ sym c.size.ensures) (ap Err same))
