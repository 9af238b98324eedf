use Rattle.std.proofs.Common.{List, ℕ, Result, sym, ap, subst, arith}
use Rattle.pdb_base.specs.declared.error.Error.{Error}
use Rattle.pdb_base.specs.Refusal.{Answers}
use Rattle.pdb_modules.specs.ModuleStream.{ModuleBytes}
use Rattle.pdb_modules.proofs.ProgramAnswers.{checksums_behind}
use Rattle.pdb_modules.proofs.module_info.ModuleInfo.checksums.Goals as goal

pub returns-in_ok-lines_data-in-0 : goal.returns-in_ok-lines_data-in-0
returns-in_ok-lines_data-in-0 c =
    let same = checksums_behind c.args.self.now c.in_ok-lines_data-in-0.field-0.now (omega (arith, c.in-0.is, ap (λ (m : ModuleBytes). m.lines_size) c.self.view_is)) c.in_ok-lines_data-in-0.ensures.bytes in
    record { part = subst (λ (r : Result (List ℕ) Error). Answers (λ s. s.now) c.last_checksums.result r) (sym same) c.last_checksums.ensures.part }
