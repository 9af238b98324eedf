use Rattle.std.proofs.Common.{◌≡◌, ℕ, zero, suc, ◌/◌, ◌<◌, List, [], ◌∷◌, ◌++◌, length, get_or, Ok, refl, ap, sym, ◌∙◌, inl, inr, arith, length-append}
use Rattle.std.proofs.lemmas.Bool.{cases_lt}
use Rattle.std.proofs.lemmas.List.{get_or_append_left}
use Rattle.std.proofs.Math.Seq.{get_or-append_seam}
use Rattle.pdb_base.proofs.Places.{bind_ok}
use Rattle.pdb_base.specs.Refusal.{◌>>=◌}
use Rattle.pdb_dbi.specs.Names.{Name, name_at, names_up_to, names_of}
use Rattle.pdb_dbi.proofs.laws.names_are_those_of_the_pairs.Goals as goal

-- the first n names are those of the first n pairs
abbrev Listed : List ℕ → List ℕ → ℕ → List Name → Type 0
Listed part pairs n names = (length names ≡ n) × ((k : ℕ) (none : Name) → k < length names → name_at part pairs k ≡ Ok (get_or names k none))

one_more : (part pairs : List ℕ) (n : ℕ) (before : List Name) (last : Name) → Listed part pairs n before → name_at part pairs n ≡ Ok last → Listed part pairs (suc n) (before ++ last ∷ [])
one_more part pairs n before last listed at = (
  omega (arith, listed.0, length-append before (last ∷ [])),
  λ k none lt. elim (cases_lt k (length before)) [
    | inl h ↦ listed.1 k none h ∙ ap Ok (sym (get_or_append_left before (last ∷ []) none k h))
    | inr h ↦ (let here : k ≡ length before = omega (arith, lt, h, length-append before (last ∷ [])) in
        rw (here, listed.0) (at ∙ ap Ok (sym (rw listed.0 at (get_or-append_seam before last [] none)))))
  ],
)

listed_up_to : (part pairs : List ℕ) (n : ℕ) (names : List Name) → names_up_to part pairs n ≡ Ok names → Listed part pairs n names
listed_up_to part pairs zero names e = let none_there : [] ≡ names = cc in rw (← none_there) (refl, λ k none lt. absurd (omega (arith, lt)))
listed_up_to part pairs (suc n) names e =
    let (before, e1, rest1) = bind_ok (names_up_to part pairs n) (λ before. name_at part pairs n >>= λ last. Ok (before ++ last ∷ [])) names e in
    let (last, e2, rest2) = bind_ok (name_at part pairs n) (λ last. Ok (before ++ last ∷ [])) names rest1 in
    let is : before ++ last ∷ [] ≡ names = cc in
    rw (← is) (one_more part pairs n before last (listed_up_to part pairs n before e1) e2)

pub returns : goal.returns
unfolding names_of
returns c b part pairs offset size names has_part has_pairs has_names = listed_up_to part pairs (length pairs / 8) names (rw (has_part, has_pairs) at has_names)
