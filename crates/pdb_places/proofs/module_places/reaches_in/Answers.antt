use Rattle.std.proofs.Common.{◌≡◌, ◌≤◌, ℕ, List, length, vec_len, ◌==◌, get_or, sym, ap, ◌∙◌, arith}
use Rattle.pdb_places.specs.declared.range.CodeRange.{CodeRange}
use Rattle.pdb_places.specs.Covering.{covers}
use Rattle.pdb_places.specs.ModulePlaces.{none_listed}
use Rattle.pdb_places.proofs.ContributionPieces.{reached, not_reached, none_kept}
use Rattle.pdb_places.proofs.module_places.reaches_in.Goals as goal

pub returns-in-Some-get : goal.returns-in-Some-get
returns-in-Some-get c = λ cs table listed.
    let h = c.in-Some-get.ensures.lookup in
    let d = c.in-Some-get.range.now in
    let k = c.in-Some.number in
    let found = reached c.args.from c.args.place 0 cs c.args.table.now.listed.items k listed (sym (table.ranges.finds c.args.from) ∙ sym c.in-Some.ensures) in
    let same : k ≡ found.place = omega (arith, found.number) in
    c.covers.ensures
    ∙ (ap (covers c.args.place) (h.4 (omega arith) d
    ∙ (ap (λ (l : List CodeRange). get_or l k d) c.deref.ensures.value
    ∙ ap (λ (i : ℕ). get_or c.args.table.now.listed.items i d) same))
    ∙ found.is (none_listed cs) d)

pub returns-in-None-get : goal.returns-in-None-get
returns-in-None-get c = λ cs table listed.
    let k = c.in-Some.number in
    let found = reached c.args.from c.args.place 0 cs c.args.table.now.listed.items k listed (sym (table.ranges.finds c.args.from) ∙ sym c.in-Some.ensures) in
    let short : length c.deref.result.now ≤ k = c.in-None-get.ensures.lookup.3 in
    let many = ap (λ (l : List CodeRange). length l) c.deref.ensures.value in
    absurd (omega (arith, short, many, found.number, found.there))

pub returns-in-None : goal.returns-in-None
returns-in-None c = λ cs table listed.
    let many : vec_len c.args.table.now.listed ≡ length c.args.table.now.listed.items = omega (arith, c.args.table.now.listed.ok.0) in
    c.is_empty.ensures
    ∙ (ap (λ (n : ℕ). n == 0) many
    ∙ (sym (none_kept 0 cs c.args.table.now.listed.items listed)
    ∙ sym (not_reached c.args.from c.args.place 0 (none_listed cs) cs (sym (table.ranges.finds c.args.from) ∙ sym c.in-None.ensures))))
