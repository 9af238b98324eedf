use Rattle.std.proofs.Common.{◌≡◌, ◌-◌, ℕ, refl, sym, subst, ap, ◌∙◌, arith}
use Rattle.pdb_places.specs.AddressPlaces.{Pair, pair_in, moved}
use Rattle.pdb_places.specs.Behind.{IsBehindLast}
use Rattle.pdb_places.proofs.TablePairs.{moved_nowhere, moved_last}
use Rattle.pdb_places.proofs.pairs.translate.Goals as goal

pub returns-then-behind-eq0-clause-moved : goal.returns-then-behind-eq0-clause-moved
returns-then-behind-eq0-clause-moved c =
    sym (moved_nowhere c.args.address c.args.table.now (subst (λ (n : ℕ). IsBehindLast c.args.address c.args.table.now n) c.if-behind-eq0.true c.behind_last-behind.ensures.behind))

-- a pair of these numbers
is_pair : (from to : ℕ) (p : Pair) → from ≡ p.from → to ≡ p.to → record { from = from; to = to } ≡ p
is_pair from to p h k = rw (h, k) refl

pub returns-clause-moved : goal.returns-clause-moved
returns-clause-moved c =
    c.moved.ensures
    ∙ (ap (moved c.args.address) (is_pair c.from_of-from.result c.to_of-to.result (pair_in c.args.table.now (c.behind_last-behind.result - 1)) c.from_of-from.ensures c.to_of-to.ensures)
    ∙ sym (moved_last c.args.address c.args.table.now c.behind_last-behind.result (omega (arith, c.if-behind-eq0.false)) c.behind_last-behind.ensures.behind))
