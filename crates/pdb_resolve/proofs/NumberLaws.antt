-- The number of the first module of a name leads to that module.
use Rattle.std.proofs.Common.{◌≡◌, ℕ, zero, suc, ◌+◌, ◌<◌, Bool, true, false, true≢false, cond, List, [], ◌∷◌, length, drop, get_or, Option, Some, None, sym, ap, ◌∙◌, refl, arith}
use Rattle.std.specs.Prelude.{slice_get, is_some, IsSome}
use Rattle.std.specs.Bool.{Decides}
use Rattle.std.proofs.lemmas.List.{drop_more}
use Rattle.std.proofs.lemmas.Slice.Eq.{bytes_eq-Decides}
use Rattle.std.specs.Str.{bytes_eq}
use Rattle.pdb.specs.Modules.{ModuleEntry}
use Rattle.pdb_resolve.specs.AcrossModules.{module_named}
use Rattle.pdb_resolve.specs.ModuleNumbers.{number_from}

-- it is counted from k, and the module of that place is the first of the name
abbrev LeadsTo : List ModuleEntry → ℕ → ℕ → Option ModuleEntry → Type 0
LeadsTo ms k n first = (i : ℕ) × ((n ≡ k + i) × (slice_get ms i ≡ first))

leads_on : (m : ModuleEntry) (ms : List ModuleEntry) (k n : ℕ) (first rest : Option ModuleEntry) (later : Option ℕ) (b : Bool) → first ≡ cond b (Some m) rest
    → (later ≡ Some n → LeadsTo ms (k + 1) n rest) → cond b (Some k) later ≡ Some n → LeadsTo (m ∷ ms) k n first
leads_on m ms k n first rest later true is more h = let same : k ≡ n = cc in (zero, (omega (arith, same), sym is))
leads_on m ms k n first rest later false is more h = let (i, at) = more h in (suc i, (omega (arith, at.0), at.1 ∙ sym is))

pub leads : (ms : List ModuleEntry) (name : List ℕ) (k n : ℕ) → number_from k ms name ≡ Some n → LeadsTo ms k n (module_named ms name)
leads [] name k n h = absurd cc
leads (m ∷ ms) name k n h = leads_on m ms k n _ (module_named ms name) (number_from (k + 1) ms name) (bytes_eq m.module_name name) refl (leads ms name (k + 1) n) h

nowhere_on : (m : ModuleEntry) (k : ℕ) (rest : Option ModuleEntry) (later : Option ℕ) (b : Bool) → (later ≡ None → rest ≡ None) → cond b (Some k) later ≡ None → cond b (Some m) rest ≡ None
nowhere_on m k rest later true more h = absurd cc
nowhere_on m k rest later false more h = more h

pub leads_nowhere : (ms : List ModuleEntry) (name : List ℕ) (k : ℕ) → number_from k ms name ≡ None → module_named ms name ≡ None
leads_nowhere [] name k h = refl
leads_nowhere (m ∷ ms) name k h = nowhere_on m k (module_named ms name) (number_from (k + 1) ms name) (bytes_eq m.module_name name) (leads_nowhere ms name (k + 1)) h

-- ---- modules of some names alone

-- a module of another name is passed by
pub passed_by : (ms : List ModuleEntry) (i : ℕ) (d : ModuleEntry) (q : List ℕ) → i < length ms → bytes_eq (get_or ms i d).module_name q ≡ false → number_from i (drop i ms) q ≡ number_from (i + 1) (drop (i + 1) ms) q
passed_by ms i d q lt other =
    ap (λ (l : List ModuleEntry). number_from i l q) (drop_more ms i d lt) ∙ ap (λ (b : Bool). cond b (Some i) (number_from (i + 1) (drop (i + 1) ms) q)) other

other_by : (names : List ℕ → Option ℕ) (name q : List ℕ) → is_some (names name) ≡ false → IsSome (names q) → (b : Bool) → Decides b (name ≡ q) → b ≡ false
other_by names name q none some true d = absurd (true≢false (sym some ∙ (ap (λ (n : List ℕ). is_some (names n)) (sym (d.0 refl)) ∙ none)))
other_by names name q none some false d = refl

-- and a name that is none of those is another one
pub another_name : (names : List ℕ → Option ℕ) (name q : List ℕ) → is_some (names name) ≡ false → IsSome (names q) → bytes_eq name q ≡ false
another_name names name q none some = other_by names name q none some (bytes_eq name q) (bytes_eq-Decides name q)
