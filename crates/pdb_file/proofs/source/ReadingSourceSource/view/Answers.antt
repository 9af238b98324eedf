use Rattle.std.proofs.Common.{◌+◌, Err, refl, sym, ap, subst, ◌∙◌, true, false, true≢false, arith}
use Rattle.pdb_file.specs.HeldBytes.{IsOf, Seen, has_all, knows}
use Rattle.pdb_file.proofs.Files.{of_told}
use Rattle.pdb_file.proofs.Viewing.{goes_on, inside_told, read_fails, viewed_inside, viewed_past}
use Rattle.pdb_file.proofs.source.ReadingSourceSource.view.Goals as goal

-- ---- slices that don't lie in the file

pub returns-then-not-all_inside-clause-bytes : goal.returns-then-not-all_inside-clause-bytes
returns-then-not-all_inside-clause-bytes g c = λ told.
    let size = c.size.ensures.size ∙ ap (λ s. s.kept.size) c.self.view_is in
    viewed_past c.args.self.now.file c.args.self.now.kept c.args.slices.now told (rw size at (sym c.all_inside.ensures ∙ c.if-not-all_inside.true))

pub returns-then-not-all_inside-clause-past : goal.returns-then-not-all_inside-clause-past
returns-then-not-all_inside-clause-past g c = λ told.
    let size = c.size.ensures.size ∙ ap (λ s. s.kept.size) c.self.view_is in
    (λ _. inside_told c.args.self.now.file c.args.self.now.kept c.args.slices.now false told (rw size at (sym c.all_inside.ensures ∙ c.if-not-all_inside.true)), λ _. refl)

pub returns-then-not-all_inside-clause-spent : goal.returns-then-not-all_inside-clause-spent
returns-then-not-all_inside-clause-spent g c = λ told spent all.
    let size = c.size.ensures.size ∙ ap (λ s. s.kept.size) c.self.view_is in
    absurd (true≢false (sym all ∙ inside_told c.args.self.now.file c.args.self.now.kept c.args.slices.now false told (rw size at (sym c.all_inside.ensures ∙ c.if-not-all_inside.true))))

pub returns-then-spent-clause-past : goal.returns-then-spent-clause-past
returns-then-spent-clause-past g c = λ told.
    let size = c.size.ensures.size ∙ ap (λ s. s.kept.size) c.self.view_is in
    (λ h. absurd cc, λ none. absurd (true≢false (sym (inside_told c.args.self.now.file c.args.self.now.kept c.args.slices.now true told (rw size at (sym c.all_inside.ensures ∙ c.if-not-all_inside.false))) ∙ none)))

-- ---- slices that do

pub returns-in-Ok-clause-continues : goal.returns-in-Ok-clause-continues
returns-in-Ok-clause-continues g c =
    let read = c.read_slices.ensures in
    goes_on c.args.self.now c.read_slices.new.self (ap (λ s. s.file) read.others) (omega (arith, ap (λ s. s.failures) read.others)) (λ h. (ap (λ s. s.steady) read.others ∙ h, ap (λ s. s.failures) read.others)) (ap (λ s. s.known) read.others) (read.kept c.args.self.now.file) read.known

pub returns-in-Ok-clause-bytes : goal.returns-in-Ok-clause-bytes
returns-in-Ok-clause-bytes g c = λ told.
    let read = c.read_slices.ensures in
    let size = c.size.ensures.size ∙ ap (λ s. s.kept.size) c.self.view_is ∙ sym read.size in
    let file = ap (λ s. s.file) read.others in
    let told' = rw file at told in
    viewed_inside c.args.self.now.file c.read_slices.new.self.kept c.args.slices.now _ told' (rw size at (sym c.all_inside.ensures ∙ c.if-not-all_inside.false)) (c.in-Ok.ensures.bytes c.args.self.now.file (of_told _ _ told'))

pub returns-in-Ok-clause-past : goal.returns-in-Ok-clause-past
returns-in-Ok-clause-past g c = λ told.
    let read = c.read_slices.ensures in
    let size = c.size.ensures.size ∙ ap (λ s. s.kept.size) c.self.view_is ∙ sym read.size in
    let told' = rw (ap (λ s. s.file) read.others) at told in
    (λ h. absurd cc, λ none. absurd (true≢false (sym (inside_told c.args.self.now.file c.read_slices.new.self.kept c.args.slices.now true told' (rw size at (sym c.all_inside.ensures ∙ c.if-not-all_inside.false))) ∙ none)))

pub returns-in-Err-Memory-clause-continues : goal.returns-in-Err-Memory-clause-continues
returns-in-Err-Memory-clause-continues g c =
    let read = c.read_slices.ensures in
    goes_on c.args.self.now c.read_slices.new.self (ap (λ s. s.file) read.others) (omega (arith, ap (λ s. s.failures) read.others)) (λ h. (ap (λ s. s.steady) read.others ∙ h, ap (λ s. s.failures) read.others)) (ap (λ s. s.known) read.others) (read.kept c.args.self.now.file) read.known

pub returns-in-Err-Memory-clause-past : goal.returns-in-Err-Memory-clause-past
returns-in-Err-Memory-clause-past g c = λ told.
    let read = c.read_slices.ensures in
    let size = c.size.ensures.size ∙ ap (λ s. s.kept.size) c.self.view_is ∙ sym read.size in
    let told' = rw (ap (λ s. s.file) read.others) at told in
    (λ h. absurd cc, λ none. absurd (true≢false (sym (inside_told c.args.self.now.file c.read_slices.new.self.kept c.args.slices.now true told' (rw size at (sym c.all_inside.ensures ∙ c.if-not-all_inside.false))) ∙ none)))

-- ---- a read that failed

pub returns-in-Err-Read-clause-continues : goal.returns-in-Err-Read-clause-continues
returns-in-Err-Read-clause-continues g c =
    let read = c.read_slices.ensures in
    let old = c.args.self.now in
    let inside = c.self-2.inside in
    let seen = c.self-2.view_is in
    let new : Seen = record { file = g.F.Meant.file inside.file.now; kept = inside.held; failures = inside.failures + 1; steady = inside.steady; known = knows (g.R.ReadAt.known inside.input.now) (g.F.Meant.file inside.file.now) } in
    let failed = c.in-Err-Read.is ∙ ap Err c.in-Err-Read.field-0-is in
    goes_on old new (ap (λ s. s.file) seen ∙ ap (λ s. s.file) read.others) (omega (arith, ap (λ s. s.failures) seen, ap (λ s. s.failures) read.others))
    (λ h. absurd (read_fails c.read_slices.result failed (read.steady h))) (ap (λ s. s.known) seen ∙ ap (λ s. s.known) read.others)
    (λ h. read.kept old.file (subst (IsOf old.file) (ap (λ s. s.kept) seen) h)) (λ h is. subst (IsOf old.file) (sym (ap (λ s. s.kept) seen)) (read.known h is))

pub returns-in-Err-Read-clause-past : goal.returns-in-Err-Read-clause-past
returns-in-Err-Read-clause-past g c = λ told.
    let read = c.read_slices.ensures in
    let inside = c.self-2.inside in
    let seen = c.self-2.view_is in
    let size = c.size.ensures.size ∙ ap (λ s. s.kept.size) c.self.view_is ∙ sym read.size ∙ sym (ap (λ s. s.kept.size) seen) in
    let told' = ap (λ F. has_all F inside.held) (sym (ap (λ s. s.file) seen ∙ ap (λ s. s.file) read.others)) ∙ told in
    (λ h. absurd cc, λ none. absurd (true≢false (sym (inside_told c.args.self.now.file inside.held c.args.slices.now true told' (rw size at (sym c.all_inside.ensures ∙ c.if-not-all_inside.false))) ∙ none)))

pub returns-in-Ok-clause-lent : goal.returns-in-Ok-clause-lent
returns-in-Ok-clause-lent g c = λ s i d one lt some stands inside room. c.in-Ok.ensures.lent s i d one lt some stands
