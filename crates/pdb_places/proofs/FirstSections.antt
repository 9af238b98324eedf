-- The section that is chosen for an address is the first one that has it, by positions.
use Rattle.std.proofs.Common.{◌≡◌, ℕ, zero, suc, ◌+◌, ◌-◌, ◌<◌, Bool, true, false, cond, ◌&&◌, List, [], ◌∷◌, length, get_or, None, refl, sym, ap, ◌∙◌, arith}
use Rattle.std.specs.Prelude.{nat_le, nat_lt}
use Rattle.std.proofs.lemmas.Bool.{le-leb, leb-true, lt-ltb, ltb-true}
use Rattle.pdb.specs.ImageSectionHeader.{ImageSectionHeader}
use Rattle.pdb_places.specs.AddressPlaces.{Holds, IsFirstHolding, holds, numbered, place_from}

both : (a b : Bool) → a ≡ true → b ≡ true → (a && b) ≡ true
both true b h k = k
both false b h k = absurd cc

each : (a b : Bool) → (a && b) ≡ true → (a ≡ true) × (b ≡ true)
each true b h = (refl, h)
each false b h = absurd cc

never : (b : Bool) → (b ≡ true → ⊥) → b ≡ false
never true h = absurd (h refl)
never false h = refl

pub held : (r : ℕ) (h : ImageSectionHeader) → Holds r h → holds r h ≡ true
held r h k = both (nat_le h.virtual_address r) (nat_lt r (h.virtual_address + h.virtual_size)) (le-leb h.virtual_address r k.from) (lt-ltb r (h.virtual_address + h.virtual_size) k.before)

pub is_held : (r : ℕ) (h : ImageSectionHeader) → holds r h ≡ true → Holds r h
is_held r h k =
    let e = each (nat_le h.virtual_address r) (nat_lt r (h.virtual_address + h.virtual_size)) k in
    record { from = leb-true h.virtual_address r e.0; before = ltb-true r (h.virtual_address + h.virtual_size) e.1 }

pub not_held : (r : ℕ) (h : ImageSectionHeader) → (Holds r h → ⊥) → holds r h ≡ false
not_held r h no_one = never (holds r h) (λ e. no_one (is_held r h e))

first_from : (r n : ℕ) (hs : List ImageSectionHeader) (k : ℕ) (h : ImageSectionHeader) → k < length hs → get_or hs k h ≡ h → Holds r h → ((j : ℕ) → j < k → Holds r (get_or hs j h) → ⊥) → place_from r n hs ≡ numbered (n + k) (r - h.virtual_address)
first_from r n [] k h there is has before = absurd (omega (arith, there))
first_from r n (x ∷ hs) zero h there is has before =
    let same : n + 0 ≡ n = omega arith in
    ap (λ (y : ImageSectionHeader). cond (holds r y) (numbered n (r - y.virtual_address)) (place_from r (n + 1) hs)) is
    ∙ (ap (λ (b : Bool). cond b (numbered n (r - h.virtual_address)) (place_from r (n + 1) hs)) (held r h has)
    ∙ ap (λ (m : ℕ). numbered m (r - h.virtual_address)) (sym same))
first_from r n (x ∷ hs) (suc k) h there is has before =
    let same : n + 1 + k ≡ n + suc k = omega arith in
    ap (λ (b : Bool). cond b (numbered n (r - x.virtual_address)) (place_from r (n + 1) hs)) (not_held r x (before 0 (omega arith)))
    ∙ (first_from r (n + 1) hs k h (omega (arith, there)) is has (λ j l. before (suc j) (omega (arith, l)))
    ∙ ap (λ (m : ℕ). numbered m (r - h.virtual_address)) same)

pub first_counts : (r : ℕ) (hs : List ImageSectionHeader) (k : ℕ) (h : ImageSectionHeader) → IsFirstHolding r hs k h → place_from r 1 hs ≡ numbered (k + 1) (r - h.virtual_address)
first_counts r hs k h f =
    let same : 1 + k ≡ k + 1 = omega arith in
    first_from r 1 hs k h f.there f.is f.holds f.first ∙ ap (λ (m : ℕ). numbered m (r - h.virtual_address)) same

none_from : (r n : ℕ) (hs : List ImageSectionHeader) → ((k : ℕ) (d : ImageSectionHeader) → k < length hs → Holds r (get_or hs k d) → ⊥) → place_from r n hs ≡ None
none_from r n [] h = refl
none_from r n (x ∷ hs) h =
    ap (λ (b : Bool). cond b (numbered n (r - x.virtual_address)) (place_from r (n + 1) hs)) (not_held r x (h 0 x (omega arith)))
    ∙ none_from r (n + 1) hs (λ k d l. h (suc k) d (omega (arith, l)))

pub none_counts : (r : ℕ) (hs : List ImageSectionHeader) → ((k : ℕ) (d : ImageSectionHeader) → k < length hs → Holds r (get_or hs k d) → ⊥) → place_from r 1 hs ≡ None
none_counts r hs h = none_from r 1 hs h
