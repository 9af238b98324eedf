use Rattle.std.proofs.Common.{◌≡◌, true, sym, ap, subst, ◌∙◌, true≢false}
use Rattle.std.specs.List.{All, list_all}
use Rattle.pdb_file.specs.HeldBytes.{IsAllHeld, IsOf, is_inside_of}
use Rattle.pdb_file.proofs.Files.{knows_is, wholly}
use Rattle.pdb_file.proofs.Viewing.{known_in, on_ok, one_held}
use Rattle.pdb_file.proofs.source.ReadingSource.read_slices.Goals as goal
use Rattle.pdb_file.proofs.source.ReadingSource.read_slices.Goals.{then-not-are_held+in_ok-fetch, else-not-are_held}

pub returns-in_err-fetch-clause-known : goal.returns-in_err-fetch-clause-known
returns-in_err-fetch-clause-known g c = λ known is.
    let there = knows_is (g.R.ReadAt.known c.self.inside.input.now) c.args.self.now.file (known_in (g.R.ReadAt.known c.self.inside.input.now) (g.F.Meant.file c.self.inside.file.now) c.self.inside.held c.self.inside.failures c.self.inside.steady c.args.self.now c.self.view_is known) in
    c.fetch.ensures.told c.args.self.now.file there (rw (ap (λ s. s.kept) c.self.view_is) is)

pub returns-in_err-fetch-clause-once : goal.returns-in_err-fetch-clause-once
returns-in_err-fetch-clause-once g c = λ all.
    let before = subst (λ k. All (IsAllHeld k) c.args.slices.now) (sym (ap (λ s. s.kept) c.self.view_is)) all in
    absurd (true≢false (sym (c.are_held.ensures.1 before) ∙ c.if-not-are_held.true))

pub returns-clause-known : goal.returns-clause-known
returns-clause-known g c = λ known is.
    let there = knows_is (g.R.ReadAt.known c.self.inside.input.now) c.args.self.now.file (known_in (g.R.ReadAt.known c.self.inside.input.now) (g.F.Meant.file c.self.inside.file.now) c.self.inside.held c.self.inside.failures c.self.inside.steady c.args.self.now c.self.view_is known) in
    let was : IsOf c.args.self.now.file c.self.inside.held = rw (ap (λ s. s.kept) c.self.view_is) is in
    elim c.if-not-are_held.branch [
      | then-not-are_held+in_ok-fetch w ↦ rw w.self-inside-is (w.fetch.ensures.told c.args.self.now.file there was)
      | else-not-are_held w ↦ rw w.self-inside-is was
    ]

pub returns-clause-held : goal.returns-clause-held
returns-clause-held g c =
    let all : All (IsAllHeld c.if-not-are_held.self-inside.held) c.args.slices.now = elim c.if-not-are_held.branch [
      | then-not-are_held+in_ok-fetch w ↦ rw w.self-inside-is w.in_ok-fetch.ensures.held
      | else-not-are_held w ↦ rw w.self-inside-is (c.are_held.ensures.0 w.if-not-are_held.false)
    ] in
    on_ok c.view_held.result (All (IsAllHeld c.if-not-are_held.self-inside.held) c.args.slices.now) all

pub returns-clause-once : goal.returns-clause-once
returns-clause-once g c = λ all.
    let same = ap (λ s. s.kept) c.self.view_is in
    let before = subst (λ k. All (IsAllHeld k) c.args.slices.now) (sym same) all in
    elim c.if-not-are_held.branch [
      | then-not-are_held+in_ok-fetch w ↦ absurd (true≢false (sym (c.are_held.ensures.1 before) ∙ w.if-not-are_held.true))
      | else-not-are_held w ↦
          let whole = wholly c.self.inside.held c.args.slices.now (rw same c.requires.inside) before in
          (rw w.self-inside-is same, c.view_held.ensures.whole (rw w.self-inside-is whole))
    ]

pub returns-clause-steady : goal.returns-clause-steady
returns-clause-steady g c = λ steady.
    let same = ap (λ s. s.kept) c.self.view_is in
    let inside : list_all (is_inside_of c.self.inside.held.size) c.args.slices.now ≡ true = rw same c.requires.inside in
    c.view_held.ensures.whole (elim c.if-not-are_held.branch [
      | then-not-are_held+in_ok-fetch w ↦ rw w.self-inside-is (wholly w.fetch.new.held c.args.slices.now (rw w.fetch.ensures.size inside) w.in_ok-fetch.ensures.held)
      | else-not-are_held w ↦ rw w.self-inside-is (wholly c.self.inside.held c.args.slices.now inside (c.are_held.ensures.0 w.if-not-are_held.false))
    ])

pub returns-clause-lent : goal.returns-clause-lent
returns-clause-lent g c = λ s i d one lt some stands.
    let same = ap (λ s. s.kept) c.self.view_is in
    let before = subst (λ k. All (IsAllHeld k) c.args.slices.now) (sym same) (one_held c.args.self.now.kept c.args.slices.now s i d one lt stands) in
    elim c.if-not-are_held.branch [
      | then-not-are_held+in_ok-fetch w ↦ absurd (true≢false (sym (c.are_held.ensures.1 before) ∙ w.if-not-are_held.true))
      | else-not-are_held w ↦ c.view_held.ensures.lent s i d one (rw (w.self-inside-is, same) lt) some (rw (w.self-inside-is, same) stands)
    ]
