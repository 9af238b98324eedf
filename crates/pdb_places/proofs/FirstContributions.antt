-- The module at a place is that of the first contribution which has it, by positions.
use Rattle.std.proofs.Common.{◌≡◌, ℕ, zero, suc, ◌+◌, ◌<◌, Bool, true, false, cond, ◌&&◌, List, [], ◌∷◌, length, get_or, Some, None, refl, ap, ◌∙◌, arith}
use Rattle.std.specs.Prelude.{nat_le, nat_lt, ◌==◌, find}
use Rattle.std.specs.Option.{option_map}
use Rattle.std.proofs.lemmas.Bool.{eq-eqb, eqb-true, le-leb, leb-true, lt-ltb, ltb-true}
use Rattle.pdb.specs.PdbInternalSectionOffset.{PdbInternalSectionOffset}
use Rattle.pdb.specs.DBISectionContribution.{DBISectionContribution}
use Rattle.pdb_places.specs.ModulePlaces.{HasPlace, IsFirstContribution, contributes, module_of, module_among}

three : (a b c : Bool) → a ≡ true → b ≡ true → c ≡ true → (a && (b && c)) ≡ true
three true true c h k l = l
three true false c h k l = absurd cc
three false b c h k l = absurd cc

each : (a b c : Bool) → (a && (b && c)) ≡ true → (a ≡ true) × (b ≡ true) × (c ≡ true)
each true true c h = (refl, refl, h)
each true false c h = absurd cc
each false b c h = absurd cc

never : (b : Bool) → (b ≡ true → ⊥) → b ≡ false
never true h = absurd (h refl)
never false h = refl

has : (q : PdbInternalSectionOffset) (c : DBISectionContribution) → HasPlace q c → contributes q c ≡ true
has q c h =
    three (c.offset.section == q.section) (nat_le c.offset.offset q.offset) (nat_lt q.offset (c.offset.offset + c.size))
    (eq-eqb c.offset.section q.section h.section) (le-leb c.offset.offset q.offset h.from) (lt-ltb q.offset (c.offset.offset + c.size) h.before)

is_had : (q : PdbInternalSectionOffset) (c : DBISectionContribution) → contributes q c ≡ true → HasPlace q c
is_had q c h =
    let e = each (c.offset.section == q.section) (nat_le c.offset.offset q.offset) (nat_lt q.offset (c.offset.offset + c.size)) h in
    record { section = eqb-true c.offset.section q.section e.0; from = leb-true c.offset.offset q.offset e.1; before = ltb-true q.offset (c.offset.offset + c.size) e.2 }

not_had : (q : PdbInternalSectionOffset) (c : DBISectionContribution) → (HasPlace q c → ⊥) → contributes q c ≡ false
not_had q c h = never (contributes q c) (λ e. h (is_had q c e))

first_at : (q : PdbInternalSectionOffset) (cs : List DBISectionContribution) (k : ℕ) (c : DBISectionContribution) → k < length cs → get_or cs k c ≡ c → HasPlace q c → ((j : ℕ) → j < k → HasPlace q (get_or cs j c) → ⊥) → module_among q cs ≡ Some (module_of c)
first_at q [] k c l is h before = absurd (omega (arith, l))
first_at q (x ∷ cs) zero c l is h before =
    ap (λ (y : DBISectionContribution). option_map module_of (cond (contributes q y) (Some y) (find (contributes q) cs))) is
    ∙ ap (λ (b : Bool). option_map module_of (cond b (Some c) (find (contributes q) cs))) (has q c h)
first_at q (x ∷ cs) (suc k) c l is h before =
    ap (λ (b : Bool). option_map module_of (cond b (Some x) (find (contributes q) cs))) (not_had q x (before 0 (omega arith)))
    ∙ first_at q cs k c (omega (arith, l)) is h (λ j m. before (suc j) (omega (arith, m)))

pub first_contributes : (q : PdbInternalSectionOffset) (cs : List DBISectionContribution) (k : ℕ) (c : DBISectionContribution) → IsFirstContribution q cs k c → module_among q cs ≡ Some c.«module»
first_contributes q cs k c f = first_at q cs k c f.there f.is f.has f.first

pub none_contributes : (q : PdbInternalSectionOffset) (cs : List DBISectionContribution) → ((k : ℕ) (d : DBISectionContribution) → k < length cs → HasPlace q (get_or cs k d) → ⊥) → module_among q cs ≡ None
none_contributes q [] h = refl
none_contributes q (x ∷ cs) h =
    ap (λ (b : Bool). option_map module_of (cond b (Some x) (find (contributes q) cs))) (not_had q x (h 0 x (omega arith)))
    ∙ none_contributes q cs (λ k d l. h (suc k) d (omega (arith, l)))
