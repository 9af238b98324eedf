use Rattle.std.proofs.Common.{◌≡◌, ◌≢◌, Ok, ap, sym, ◌∙◌}
use Rattle.pdb.specs.Error.TheVariants.{OutOfMemory}
use Rattle.pdb.specs.Refusal.{◌>>=◌}
use Rattle.pdb.specs.Modules.{modules_in}
use Rattle.pdb.specs.Source.{MayFail}
use Rattle.pdb_list.specs.Chosen.{IsListOf}
use Rattle.pdb_list.specs.CommandTexts.{command_text, of_module_text}
use Rattle.pdb_list.specs.Texts.{error_text}
use Rattle.pdb_list.specs.Unfailed.{Unfailed}
use Rattle.pdb_list.proofs.ModuleLists.{text_refused}
use Rattle.pdb_list.proofs.Refused.{refused_for, unfailed_steadily}
use Rattle.pdb_list.proofs.engine.write_rest.Goals.{else-stops_unread-via-then-stops_unread+else-has_failed, else-stops_unread-via-else-stops_unread}
use Rattle.pdb_list.proofs.engine.write_rest.Goals as goal

pub returns-in-Err-clause-wrote : goal.returns-in-Err-clause-wrote
returns-in-Err-clause-wrote g c = λ known steady.
    let old = c.args.pdb.now in
    let new = c.debug_information-found.new.self in
    let on = c.in-Err.ensures.continues in
    let e = c.in-Err.e in
    let k = c.in-Some-module_index.field-0 in
    let first = c.in-Some.first.now in
    let unfailed : Unfailed old new = elim c.else-stops_unread.branch [
      | else-stops_unread-via-then-stops_unread+else-has_failed w ↦ w.has_failed.ensures.unfailed w.if-has_failed.false old (sym c.failures-failures.ensures.failures)
      | else-stops_unread-via-else-stops_unread w ↦ unfailed_steadily old new (steady w.if-stops_unread.false)
    ] in
    let said : e ≢ OutOfMemory → command_text new.file first ≡ error_text e = λ n.
    rw on.file (c.in-Some-module_index.ensures.text old.file
    ∙ text_refused old.file k (of_module_text first) e (ap (λ r. r >>= modules_in) (refused_for (MayFail old new) e _ unfailed (c.in-Err.ensures.answer (on.known known).1) n))) in
    let wrote = rw on.file at (c.write_refused.ensures.wrote (on.known known) (λ h. (on.steady (steady h)).0) first said) in
    rw c.in-Some.ensures.cases.0 wrote

pub returns-in-Ok-modules-clause-wrote : goal.returns-in-Ok-modules-clause-wrote
returns-in-Ok-modules-clause-wrote g c = λ known steady.
    let new = c.debug_information-found.new.self in
    let on = c.in-Ok.ensures.continues in
    let kept : IsListOf new.file c.new.result =
    rw on.file (ap (λ r. r >>= modules_in) (c.in-Ok.ensures.answer (on.known known).1) ∙ c.in-Ok-modules.ensures.left ∙ ap Ok (sym c.new.ensures)) in
    rw on.file at (c.write_texts-in-Ok-modules.ensures.wrote (on.known known) (λ h. (on.steady (steady h)).0) kept)

pub returns-clause-wrote : goal.returns-clause-wrote
returns-clause-wrote g c = λ known steady.
    let old = c.args.pdb.now in
    let new = c.debug_information-found.new.self in
    let on = c.in-Ok.ensures.continues in
    let e = c.in-Err-modules.e in
    let k = c.in-Some-module_index.field-0 in
    let first = c.in-Some.first.now in
    let said : e ≢ OutOfMemory → command_text new.file first ≡ error_text e = λ n.
    rw on.file (c.in-Some-module_index.ensures.text old.file
    ∙ text_refused old.file k (of_module_text first) e (ap (λ r. r >>= modules_in) (c.in-Ok.ensures.answer (on.known known).1) ∙ c.in-Err-modules.ensures.left.0)) in
    let wrote = rw on.file at (c.write_refused-in-Err-modules.ensures.wrote (on.known known) (λ h. (on.steady (steady h)).0) first said) in
    rw c.in-Some.ensures.cases.0 wrote
