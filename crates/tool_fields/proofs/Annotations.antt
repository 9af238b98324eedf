-- The annotations of an inlined call are the last bytes of its record.
use Rattle.std.proofs.Common.{◌≡◌, ℕ, ◌+◌, Bool, true, false, cond, ◌⊎◌, inl, inr, List, [], ◌∷◌, drop, Option, Some, None, refl, ap, subst, ◌∙◌}
use Rattle.std.specs.Prelude.{◌==◌, nat_lt}
use Rattle.pdb_base.specs.Layouts.{number, StandsGiven, width_given}
use Rattle.pdb_symbols.specs.Data.{Data, InlineSiteSays}
use Rattle.pdb_symbols.specs.Data.Data.{InlineSite}
use Rattle.pdb_symbols.specs.FormTable.{Laid, laid}
use Rattle.pdb_symbols.specs.Forms.{IsForm, Is, kind_at}
use Rattle.pdb_symbols.specs.Kinds.{is_in, row, older_rows, middle_rows, newer_rows}
use Rattle.tool_fields.specs.ValueTexts.{annotations_place}

abbrev annotations_said : Data → List ℕ
annotations_said (InlineSite s) = s.annotations
annotations_said d = []

abbrev IsSite : Data → Type 0
IsSite (InlineSite s) = Unit {0}
IsSite d = ⊥

-- records of the form say no inlined call; or one, whose annotations are the last bytes
abbrev NeverSite : Laid → Type 0
NeverSite l = (kind : ℕ) (s : l.Parts) → IsSite (l.says kind s) → ⊥

abbrev Ends : Laid → Type 0
Ends l = (kind : ℕ) (b : List ℕ) (s : l.Parts) (x : InlineSiteSays) → l.layout.Stands kind b 2 s → InlineSite x ≡ l.says kind s → x.annotations ≡ drop (annotations_place kind) b

never_ends : (l : Laid) → NeverSite l → Ends l
never_ends l never kind b s x h e = absurd (never kind s (subst IsSite e tt))

-- ---- tables of kinds, whatever names their forms

abbrev found_in : {F : Type 0} → List (List ℕ × F) → ℕ → Option F
found_in [] kind = None
found_in ((kinds, f) ∷ rows) kind = cond (is_in kinds kind) (Some f) (found_in rows kind)

abbrev AllEnd : {F : Type 0} → (F → Laid) → List (List ℕ × F) → Type 0
AllEnd laid_as [] = Unit {0}
AllEnd laid_as ((kinds, f) ∷ rows) = (NeverSite (laid_as f) ⊎ Ends (laid_as f)) × AllEnd laid_as rows

abbrev EndsIf : {F : Type 0} → (F → Laid) → Option F → Type 0
EndsIf laid_as None = Unit {0}
EndsIf laid_as (Some f) = Ends (laid_as f)

one_of : {F : Type 0} (laid_as : F → Laid) (t : Bool) (x y : Option F) → EndsIf laid_as x → EndsIf laid_as y → EndsIf laid_as (cond t x y)
one_of laid_as true x y h k = h
one_of laid_as false x y h k = k

row_ends : (l : Laid) → NeverSite l ⊎ Ends l → Ends l
row_ends l (inl never) = never_ends l never
row_ends l (inr ends) = ends

rows_end : {F : Type 0} (laid_as : F → Laid) (rows : List (List ℕ × F)) (n : ℕ) → AllEnd laid_as rows → EndsIf laid_as (found_in rows n)
rows_end laid_as [] n h = tt
rows_end laid_as ((kinds, f) ∷ rows) n h = one_of laid_as (is_in kinds n) (Some f) (found_in rows n) (row_ends (laid_as f) h.0) (rows_end laid_as rows n h.1)

-- ---- the table

site_place : (t : Bool) (kind : ℕ) (b : List ℕ) (p : ℕ) (count : Option ℕ) → StandsGiven t (number 4) kind b p count → 14 + width_given (number 4) kind b p count ≡ cond t 18 14
site_place t kind b p None h = rw h refl
site_place t kind b p (Some n) h = rw h.0 refl

older_end : AllEnd laid older_rows
older_end = (inl (λ kind s h. h), (inl (λ kind s h. h), (inl (λ kind s h. h), (inl (λ kind s h. h), (inl (λ kind s h. h), (inl (λ kind s h. h), (inl (λ kind s h. h), (inl (λ kind s h. h), (inl (λ kind s h. h), (inl (λ kind s h. h), (inl (λ kind s h. h), (inl (λ kind s h. h), (inl (λ kind s h. h), (inl (λ kind s h. h), (inl (λ kind s h. h), (inl (λ kind s h. h), (inl (λ kind s h. h), tt)))))))))))))))))

middle_end : AllEnd laid middle_rows
middle_end = (inl (λ kind s h. h), (inl (λ kind s h. h), (inl (λ kind s h. h), (inl (λ kind s h. h), (inl (λ kind s h. h), (inl (λ kind s h. h), (inl (λ kind s h. h), (inl (λ kind s h. h), (inl (λ kind s h. h), (inl (λ kind s h. h), (inl (λ kind s h. h), (inl (λ kind s h. h), (inl (λ kind s h. h), tt)))))))))))))

newer_end : AllEnd laid newer_rows
newer_end = (
  inl (λ kind s h. h),
  (
    inl (λ kind s h. h),
    (
      inl (λ kind s h. h),
      (
        inl (λ kind s h. h),
        (
          inl (λ kind s h. h),
          (
            inl (λ kind s h. h),
            (
              inl (λ kind s h. h),
              (
                inl (λ kind s h. h),
                (
                  inl (λ kind s h. h),
                  (
                    inl (λ kind s h. h),
                    (
                      inl (λ kind s h. h),
                      (
                        inl (λ kind s h. h),
                        (
                          inl (λ kind s h. h),
                          (
                            inr (λ kind b s x h e. ap annotations_said e ∙ h.1.1 ∙ ap (λ (p : ℕ). drop p b) (site_place (kind == 0x115d) kind b 14 s.1.0 h.1.0)),
                            (inl (λ kind s h. h), (inl (λ kind s h. h), (inl (λ kind s h. h), tt))),
                          ),
                        ),
                      ),
                    ),
                  ),
                ),
              ),
            ),
          ),
        ),
      ),
    ),
  ),
)

kinds_end : (n : ℕ) → EndsIf laid (row n)
kinds_end n = one_of laid (nat_lt n 0x1100) _ _ (rows_end laid older_rows n older_end) (one_of laid (nat_lt n 0x1114) _ _ (rows_end laid middle_rows n middle_end) (rows_end laid newer_rows n newer_end))

pub annotations_are : (b : List ℕ) (s : InlineSiteSays) → Is b (InlineSite s) → s.annotations ≡ drop (annotations_place (kind_at b)) b
annotations_are b s is = by (row (kind_at b)) (kinds_end (kind_at b)) is
  where
    by : (o : Option _) → EndsIf laid o → IsForm o (kind_at b) b (InlineSite s) → s.annotations ≡ drop (annotations_place (kind_at b)) b
    by None ends is = absurd is
    by (Some f) ends is = ends (kind_at b) b is.0 s is.1 is.2
