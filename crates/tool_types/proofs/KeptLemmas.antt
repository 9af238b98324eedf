-- The ends of lines that are kept.
use Rattle.std.proofs.Common.{◌≡◌, ◌≤◌, ℕ, List, Option, Some, None, length, replicate, slice_set, refl, ap, sym, subst, ◌∙◌, arith}
use Rattle.std.specs.List.{All}
use Rattle.std.proofs.lemmas.List.{length-replicate, length-set}
use Rattle.std.proofs.lemmas.List.Elements.{All-replicate, All-set}
use Rattle.std.proofs.lemmas.Option.{none-some}
use Rattle.std.specs.Option.{unwrap_or}
use Rattle.pdb_base.specs.declared.index.TypeIndex.{TypeIndex}
use Rattle.tool_types.specs.KeptEnds.{HasText, number_of_type}
use Rattle.tool_types.specs.LineNames.{Names, typed_end, typed_text}
use Rattle.tool_types.specs.declared.line_names.LineEnd.{LineEnd}

abbrev nothing : Option LineEnd
nothing = None

pub no_more : (n : ℕ) → n ≤ 1024 → 1024 ≤ n → n ≡ 1024
no_more n h k = omega arith

pub vacant_size : (rows : List (Option LineEnd)) → rows ≡ replicate 1024 None → length rows ≡ 1024
vacant_size rows e = ap (λ (xs : List (Option LineEnd)). length xs) e ∙ length-replicate 1024 nothing

no_end : (text : ℕ → List ℕ) → HasText text None
no_end text x e = absurd (none-some x e)

pub vacant_ends : (text : ℕ → List ℕ) (rows : List (Option LineEnd)) → rows ≡ replicate 1024 None → All (HasText text) rows
vacant_ends text rows e = subst (λ (xs : List (Option LineEnd)). All (HasText text) xs) (sym e) (All-replicate (HasText text) 1024 nothing (no_end text))

-- an end that is kept too
pub one_more_end : (text : ℕ → List ℕ) (rows : List (Option LineEnd)) (slot index : ℕ) (end : LineEnd) → end.index ≡ index → end.text.items ≡ text index → All (HasText text) rows → All (HasText text) (slice_set rows slot (Some end))
one_more_end text rows slot index end at is all =
    let own : end.text.items ≡ text end.index = is ∙ ap text (sym at) in
    All-set (HasText text) rows slot (Some end) (λ x e. subst (λ (y : LineEnd). y.text.items ≡ text y.index) (ap (λ (o : Option LineEnd). unwrap_or o end) e) own) all

pub as_many_ends : (rows : List (Option LineEnd)) (slot : ℕ) (end : LineEnd) → length rows ≡ 1024 → length (slice_set rows slot (Some end)) ≡ 1024
as_many_ends rows slot end size = length-set rows slot (Some end) ∙ size

-- lines without a type end as those of index 0 do
pub end_by_number : (names : Names) (index : Option TypeIndex) → typed_end names (Some (record { 0 = number_of_type index })) ≡ typed_end names index
unfolding typed_text
end_by_number names None = refl
end_by_number names (Some i) = refl
