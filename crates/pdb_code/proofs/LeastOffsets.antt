-- The least offset of pieces of code in a section.
use Rattle.std.proofs.Common.{◌≡◌, ℕ, ◌==◌, Bool, true, false, cond, List, [], ◌∷◌, ◌++◌, map, Option, Some, None, refl, sym, ap, ◌∙◌, arith}
use Rattle.std.specs.Prelude.{nat_lt}
use Rattle.std.specs.BTreeMap.{BTreeMap}
use Rattle.pdb.specs.PdbInternalSectionOffset.{PdbInternalSectionOffset}
use Rattle.pdb_places.specs.declared.range.CodeRange.{CodeRange}
use Rattle.pdb_places.specs.Pieces.{Code, AreRangesOf, code_parts, range_parts}
use Rattle.pdb_code.specs.ModuleCode.{least_in, lesser}
use Rattle.pdb_code.specs.Kept.{AreLeastIn, AreLeastOf, least_among}

-- the lesser of two before and behind a third
lesser_swaps : (a b : ℕ) (o : Option ℕ) → lesser a (Some (lesser b o)) ≡ lesser b (Some (lesser a o))
lesser_swaps a b None = grind (arith, nat_lt)
lesser_swaps a b (Some k) = grind (arith, nat_lt)

abbrev pub with_one : Bool → ℕ → Option ℕ → Option ℕ
with_one true n o = Some (lesser n o)
with_one false n o = o

swapped : (b d : Bool) (n k : ℕ) (o : Option ℕ) → with_one b n (with_one d k o) ≡ with_one d k (with_one b n o)
swapped true true n k o = ap Some (lesser_swaps n k o)
swapped true false n k o = refl
swapped false true n k o = refl
swapped false false n k o = refl

as_cond : (b : Bool) (n : ℕ) (o : Option ℕ) → cond b (Some (lesser n o)) o ≡ with_one b n o
as_cond true n o = refl
as_cond false n o = refl

-- of ranges with one more at their end
pub least_more : (s : ℕ) (rs : List CodeRange) (r : CodeRange) → least_among s (rs ++ r ∷ []) ≡ with_one (r.place.section == s) r.place.offset (least_among s rs)
least_more s [] r = as_cond (r.place.section == s) r.place.offset None
least_more s (x ∷ rs) r =
    ap (λ (o : Option ℕ). cond (x.place.section == s) (Some (lesser x.place.offset o)) o) (least_more s rs r)
    ∙ (as_cond (x.place.section == s) x.place.offset (with_one (r.place.section == s) r.place.offset (least_among s rs))
    ∙ (swapped (x.place.section == s) (r.place.section == s) x.place.offset r.place.offset (least_among s rs)
    ∙ ap (with_one (r.place.section == s) r.place.offset) (sym (as_cond (x.place.section == s) x.place.offset (least_among s rs)))))

pub lowered_as : (b : Bool) (n : ℕ) (o : Option ℕ) → cond b (Some (lesser n o)) o ≡ with_one b n o
lowered_as b n o = as_cond b n o

-- ranges of pieces have the pieces' least offsets
pub least_same : (s : ℕ) (cs : List Code) (rs : List CodeRange) → AreRangesOf cs rs → least_among s rs ≡ least_in s cs
least_same s [] [] e = refl
least_same s [] (r ∷ rs) e = absurd cc
least_same s (c ∷ cs) [] e = absurd cc
least_same s (c ∷ cs) (r ∷ rs) e =
    let head : range_parts r ≡ code_parts c = cc in
    let tail : map range_parts rs ≡ map code_parts cs = cc in
    let place : r.place ≡ c.place = ap (λ x. x.1.0) head in
    ap (λ (p : PdbInternalSectionOffset). cond (p.section == s) (Some (lesser p.offset (least_among s rs))) (least_among s rs)) place
    ∙ ap (λ (o : Option ℕ). cond (c.place.section == s) (Some (lesser c.place.offset o)) o) (least_same s cs rs tail)

pub least_kept : (cs : List Code) (rs items : List CodeRange) (least : BTreeMap ℕ ℕ) → AreRangesOf cs items → rs ≡ items → AreLeastOf rs least → AreLeastIn cs least
least_kept cs rs items least e same h = λ s. h s ∙ (ap (least_among s) same ∙ least_same s cs items e)
