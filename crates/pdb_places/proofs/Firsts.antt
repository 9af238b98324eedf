-- What is computed is the first listed range that covers a place.
use Rattle.std.proofs.Common.{◌≡◌, ℕ, zero, suc, ◌<◌, Bool, cond, List, [], ◌∷◌, length, get_or, Some, None, ap, ◌∙◌, arith}
use Rattle.pdb.specs.PdbInternalSectionOffset.{PdbInternalSectionOffset}
use Rattle.pdb_places.specs.declared.range.CodeRange.{CodeRange}
use Rattle.pdb_places.specs.Covering.{Covers, IsFirst, covers, first_covering}
use Rattle.pdb_places.proofs.Coverings.{never, is_covered, covered_is}
use Rattle.pdb_places.proofs.Halves.{none_covers}

first_at : (q : PdbInternalSectionOffset) (rs : List CodeRange) (k : ℕ) (r : CodeRange) → k < length rs → get_or rs k r ≡ r → Covers q r → ((j : ℕ) → j < k → Covers q (get_or rs j r) → ⊥) → first_covering q rs ≡ Some r.payload
first_at q [] k r l is c before = absurd (omega arith)
first_at q (x ∷ rs) zero r l is c before =
    ap (λ (y : CodeRange). cond (covers q y) (Some y.payload) (first_covering q rs)) is
    ∙ ap (λ (b : Bool). cond b (Some r.payload) (first_covering q rs)) (covered_is q r c)
first_at q (x ∷ rs) (suc k) r l is c before =
    ap (λ (b : Bool). cond b (Some x.payload) (first_covering q rs)) (never (covers q x) (λ e. before 0 (omega arith) (is_covered q x e)))
    ∙ first_at q rs k r (omega arith) is c (λ j m. before (suc j) (omega arith))

pub first_found : (q : PdbInternalSectionOffset) (rs : List CodeRange) (k : ℕ) (r : CodeRange) → IsFirst q rs k r → first_covering q rs ≡ Some r.payload
first_found q rs k r f = first_at q rs k r f.there f.is f.covers f.first

pub none_found : (q : PdbInternalSectionOffset) (rs : List CodeRange) → ((k : ℕ) (d : CodeRange) → k < length rs → Covers q (get_or rs k d) → ⊥) → first_covering q rs ≡ None
none_found q rs h = none_covers q rs (λ k d l. never (covers q (get_or rs k d)) (λ e. h k d l (is_covered q (get_or rs k d) e)))
