use Rattle.std.proofs.Common.{◌≡◌, Bool, true, false, not, List, ℕ, refl, subst}
use Rattle.std.specs.Option.{option_map}
use Rattle.pdb.specs.Views.{symbol_of}
use Rattle.pdb_places.specs.PublicPlaces.{IsPublicAt}
use Rattle.pdb_places.specs.PublicTable.{shown_public}
use Rattle.pdb_places.proofs.PublicPlaces.{farther, is_public}
use Rattle.pdb_places.proofs.publics.is_farther.Goals as goal

not_true : (b : Bool) → not b ≡ true → b ≡ false
not_true true e = absurd cc
not_true false e = refl

pub returns-in-Some-clause-nearest : goal.returns-in-Some-clause-nearest
returns-in-Some-clause-nearest c = λ t.
    let at = subst (λ (b : List ℕ). IsPublicAt b c.in-Some.at) c.raw_bytes.ensures c.in-Some.ensures in
    farther (option_map shown_public c.args.best) (symbol_of c.args.symbol.now) c.in-Some.at c.args.place at
    (λ p e. c.gets_nearer.ensures p e (not_true c.gets_nearer.result t))

pub returns-in-Some-clause-public : goal.returns-in-Some-clause-public
returns-in-Some-clause-public c = λ t.
    let at = subst (λ (b : List ℕ). IsPublicAt b c.in-Some.at) c.raw_bytes.ensures c.in-Some.ensures in
    is_public (symbol_of c.args.symbol.now) c.in-Some.at at
