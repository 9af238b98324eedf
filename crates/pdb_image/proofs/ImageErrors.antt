-- Why an image can't be read: the errors of what is read of it, and the facts on places.
use Rattle.std.proofs.Common.{◌≡◌, ℕ, ◌+◌, ◌-◌, ◌*◌, ◌<◌, ◌≢◌, Bool, true, false, cond, List, length, take, drop, Option, Some, None, Result, Ok, Err, refl, sym, ap, ◌∙◌, subst, arith, inl, inr}
use Rattle.std.specs.Prelude.{◌==◌, ◌||◌, ◌&&◌, ◌⊎◌, not, nat_eq, nat_lt, nat_le, codes}
use Rattle.std.specs.List.{starts_with}
use Rattle.std.proofs.lemmas.Bool.{and_parts, eqb-false, leb-false, leb-true, ltb-false, ltb-true, not-false, not-true, or_cases, true≢false}
use Rattle.pdb_base.specs.Fields.{number}
use Rattle.pdb_image.specs.declared.error.ImageError.{ImageError}
use Rattle.pdb_image.specs.declared.error.ImageError.TheVariants.{UnexpectedEof, UnknownOptionalHeader}
use Rattle.pdb_image.specs.declared.debug.DebugDirectory.{DebugDirectory}
use Rattle.pdb_image.specs.declared.header.Format.{Format}
use Rattle.pdb_image.specs.declared.header.Format.TheVariants.{Pe32, Pe32Plus}
use Rattle.pdb_image.specs.declared.header.OptionalHeader.{OptionalHeader}
use Rattle.pdb_image.specs.Parts.{◌>>=◌, bytes_at}
use Rattle.pdb_image.specs.Headers.{file_header_at, file_header_of, fixed_size, format_at, is_image, optional_fields, optional_header_at, signature_in}
use Rattle.pdb_image.specs.Debug.{Reference, code_view_in, code_view_of, directory_of, entries_at, has_address, offset_in, or_end, record_at, reference_of, section_of, there}
use Rattle.pdb_image.specs.Images.{image_of, named_by, pdb_of, said_of}
use Rattle.pdb_image.specs.ImagePlaces.{IsCodeView, IsOptional, IsPlace, IsSigned, Stand, address, entries}
use Rattle.pdb_image.specs.ImageRefusals.{Begins, IsRefused, NoEntries, NoOptional, NoPdb, NoRecord, NoReference, Unsigned}
use Rattle.pdb_image.specs.ImageRefusals.Unsigned.{OtherFront, ShortFront, CutSignature, OtherSignature}
use Rattle.pdb_image.specs.ImageRefusals.NoOptional.{NoFormat, OtherFormat, CutOptional}
use Rattle.pdb_image.specs.ImageRefusals.NoEntries.{NoSection, CutEntries}
use Rattle.pdb_image.specs.ImageRefusals.NoReference.{NoFour, OlderRecord, OtherRecord, CutRecord}
use Rattle.pdb_image.specs.ImageRefusals.NoRecord.{NotThere, Refused}
use Rattle.pdb_image.specs.ImageRefusals.NoPdb.{CutSections, NoPlace, NoneNamed}
use Rattle.pdb_image.specs.ImageRefusals.IsRefused.{InFront, InHeader, InOptional, Behind}
use Rattle.pdb_image.proofs.FirstOf.{is_first, none_passes}
use Rattle.pdb_image.proofs.ImageStages.{begins_is, behind_header, behind_optional, bound, code_view_is, format_case, header_of, header_is, held, is_begun, is_held, holds_is, neither, optional_is, optional_of, past, place_is, section_is, signed_is}

-- ---- tests and errors

-- a test that is an error, or what is behind it
stopped : {A : Type 0} (t : Bool) (x e : ImageError) (r : Result A ImageError) → cond t (Err x) r ≡ Err e → ((t ≡ true) × (x ≡ e)) ⊎ ((t ≡ false) × (r ≡ Err e))
stopped true x e r h = inl (refl, cc)
stopped false x e r h = inr (refl, h)

-- an error of what is read first, or of what is read behind it
broken : {A B : Type 0} (r : Result A ImageError) (f : A → Result B ImageError) (e : ImageError) → (r >>= f) ≡ Err e → (r ≡ Err e) ⊎ ((x : A) × (r ≡ Ok x) × (f x ≡ Err e))
broken (Ok x) f e h = inr (x, refl, h)
broken (Err d) f e h = inl (let same : d ≡ e = cc in ap Err same)

not_ok : {A : Type 0} (x : A) (e : ImageError) → Ok x ≡ Err e → ⊥
not_ok x e h = cc

-- ---- the signature

front_not : (b : List ℕ) → not (is_image b) ≡ true → Begins b → ⊥
front_not b e h = true≢false (sym (is_begun b h.0 h.1) ∙ not-true (is_image b) e)

unsigned : (b : List ℕ) (e : ImageError) → signature_in b ≡ Err e → Unsigned b e
unfolding signature_in
unsigned b e h = elim (stopped (not (is_image b)) _ e _ h) [
  | inl p ↦ subst (Unsigned b) p.1 (OtherFront (front_not b p.0))
  | inr p ↦ (
      let begins = begins_is b (not-false (is_image b) p.0) in
      elim (stopped (nat_lt (length b) 64) _ e _ p.1) [
        | inl q ↦ subst (Unsigned b) q.1 (ShortFront begins (ltb-true (length b) 64 q.0))
        | inr q ↦ (
            let front = ltb-false (length b) 64 q.0 in
            elim (stopped (nat_lt (length b) (number b 60 4 + 4)) _ e _ q.1) [
              | inl r ↦ subst (Unsigned b) r.1 (CutSignature begins front (ltb-true (length b) (number b 60 4 + 4) r.0))
              | inr r ↦ elim (stopped (not (number b (number b 60 4) 4 == 0x4550)) _ e _ r.1) [
                | inl s ↦ subst (Unsigned b) s.1 (OtherSignature begins front (ltb-false (length b) (number b 60 4 + 4) r.0) (eqb-false (number b (number b 60 4) 4) 0x4550 (not-true _ s.0)))
                | inr s ↦ absurd (not_ok _ e s.1)
              ]
            ])
      ])
]

-- ---- the optional header

short_or_past : (s m l q : ℕ) → (nat_lt s m || nat_lt l q) ≡ true → (s < m) ⊎ (l < q)
short_or_past s m l q e = elim (or_cases (nat_lt s m) (nat_lt l q) e) [ inl a ↦ inl (ltb-true s m a) | inr b ↦ inr (ltb-true l q b) ]

other_format : (b : List ℕ) (o : ℕ) (e : ImageError) (t u : Bool) → (number b o 2 == 0x10b) ≡ t → (number b o 2 == 0x20b) ≡ u → cond t (Ok Pe32) (cond u (Ok Pe32Plus) (Err UnknownOptionalHeader)) ≡ Err e
    → (UnknownOptionalHeader ≡ e) × (number b o 2 ≢ 0x10b) × (number b o 2 ≢ 0x20b)
other_format b o e true u first second h = absurd (not_ok Pe32 e h)
other_format b o e false true first second h = absurd (not_ok Pe32Plus e h)
other_format b o e false false first second h = (cc, eqb-false (number b o 2) 0x10b first, eqb-false (number b o 2) 0x20b second)

no_fields : (b : List ℕ) (o s : ℕ) (e : ImageError) (f : Format) → format_at b o s ≡ Ok f → optional_fields b o s f ≡ Err e → NoOptional b o s e
unfolding format_at optional_fields
no_fields b o s e f is h =
    let p = past (nat_lt s 2 || nat_lt (length b) (o + 2)) UnexpectedEof _ f is in
    let two = neither (nat_lt s 2) (nat_lt (length b) (o + 2)) p.0 in
    let format = format_case b o f (number b o 2 == 0x10b) (number b o 2 == 0x20b) refl refl p.1 in
    elim (stopped (nat_lt s (fixed_size f) || nat_lt (length b) (o + s)) _ e _ h) [
      | inl q ↦ subst (NoOptional b o s) q.1 (CutOptional f (ltb-false s 2 two.0) (ltb-false (length b) (o + 2) two.1) format (short_or_past s (fixed_size f) (length b) (o + s) q.0))
      | inr q ↦ absurd (not_ok _ e q.1)
    ]

no_format : (b : List ℕ) (o s : ℕ) (e : ImageError) → format_at b o s ≡ Err e → NoOptional b o s e
unfolding format_at
no_format b o s e h = elim (stopped (nat_lt s 2 || nat_lt (length b) (o + 2)) _ e _ h) [
  | inl p ↦ subst (NoOptional b o s) p.1 (NoFormat (short_or_past s 2 (length b) (o + 2) p.0))
  | inr p ↦ (
      let two = neither (nat_lt s 2) (nat_lt (length b) (o + 2)) p.0 in
      let other = other_format b o e (number b o 2 == 0x10b) (number b o 2 == 0x20b) refl refl p.1 in
      subst (NoOptional b o s) other.0 (OtherFormat (ltb-false s 2 two.0) (ltb-false (length b) (o + 2) two.1) other.1 other.2))
]

no_optional : (b : List ℕ) (o s : ℕ) (e : ImageError) → optional_header_at b o s ≡ Err e → NoOptional b o s e
unfolding optional_header_at
no_optional b o s e h = elim (broken (format_at b o s) (optional_fields b o s) e h) [
  | inl p ↦ no_format b o s e p
  | inr p ↦ no_fields b o s e p.0 p.1 p.2
]

-- ---- the record

no_reference : (r : List ℕ) (e : ImageError) → reference_of r ≡ Err e → NoReference r e
unfolding reference_of
no_reference r e h = elim (stopped (nat_lt (length r) 4) _ e _ h) [
  | inl p ↦ subst (NoReference r) p.1 (NoFour (ltb-true (length r) 4 p.0))
  | inr p ↦ (
      let four = ltb-false (length r) 4 p.0 in
      elim (stopped (starts_with nat_eq r (codes "NB10")) _ e _ p.1) [
        | inl q ↦ subst (NoReference r) q.1 (OlderRecord four q.0)
        | inr q ↦ elim (stopped (not (starts_with nat_eq r (codes "RSDS"))) _ e _ q.1) [
          | inl s ↦ subst (NoReference r) s.1 (OtherRecord four q.0 (not-true _ s.0))
          | inr s ↦ elim (stopped (nat_lt (length r) 24) _ e _ s.1) [
            | inl t ↦ subst (NoReference r) t.1 (CutRecord (not-false _ s.0) (ltb-true (length r) 24 t.0))
            | inr t ↦ absurd (not_ok _ e t.1)
          ]
        ]
      ])
]

-- ---- sections and entries

no_place_of : (o : Option ℕ) (e : ImageError) → or_end o ≡ Err e → (o ≡ None) × (UnexpectedEof ≡ e)
no_place_of None e h = (refl, cc)
no_place_of (Some i) e h = absurd (not_ok i e h)

cut_entries : (b : List ℕ) (t n : ℕ) (d : DebugDirectory) (e : ImageError) (i : ℕ) → or_end (section_of b t n d.address) ≡ Ok i → there b (28 * d.entries) (offset_in b t d.address i) ≡ Err e → NoEntries b t n d.address d.entries e
unfolding section_of
cut_entries b t n d e i found h =
    let first = is_first (has_address b t d.address) 0 n i (section_is (section_of b t n d.address) i found) in
    let is : IsPlace b t n d.address (offset_in b t d.address i) = record {
      section = i;
      below = omega (arith, first.below);
      holds = holds_is b t d.address i first.passes;
      first = λ j lt held. true≢false (sym (is_held b t d.address j held) ∙ first.first j (omega arith) lt);
      is = refl;
    } in
    elim (stopped (nat_lt (length b) (offset_in b t d.address i + 28 * d.entries)) _ e _ h) [
      | inl p ↦ subst (NoEntries b t n d.address d.entries) p.1 (CutEntries (offset_in b t d.address i) is (ltb-true (length b) (offset_in b t d.address i + 28 * d.entries) p.0))
      | inr p ↦ absurd (not_ok _ e p.1)
    ]

no_entries : (b : List ℕ) (t n : ℕ) (d : DebugDirectory) (e : ImageError) → entries_at b t n d ≡ Err e → NoEntries b t n d.address d.entries e
unfolding entries_at section_of
no_entries b t n d e h = elim (broken (or_end (section_of b t n d.address)) (λ i. there b (28 * d.entries) (offset_in b t d.address i)) e h) [
  | inl p ↦ (
      let none = no_place_of (section_of b t n d.address) e p in
      subst (NoEntries b t n d.address d.entries) none.1 (NoSection (λ i lt held. true≢false (sym (is_held b t d.address i held) ∙ none_passes (has_address b t d.address) 0 n none.0 i (omega arith) (omega (arith, lt))))))
  | inr p ↦ cut_entries b t n d e p.0 p.1 p.2
]

missing : {A : Type 0} (t : Bool) (u : A) (x e : ImageError) → cond t (Ok u) (Err x) ≡ Err e → (t ≡ false) × (x ≡ e)
missing true u x e h = absurd (not_ok u e h)
missing false u x e h = (refl, cc)

named_err : (x : Option (List ℕ)) (bytes : List ℕ) (e : ImageError) → Some bytes ≡ x → named_by x ≡ Err e → reference_of bytes ≡ Err e
named_err x bytes e is h = elim (broken (reference_of bytes) (λ (r : Reference). Ok (Some r)) e (ap named_by is ∙ h)) [ inl p ↦ p | inr p ↦ absurd (not_ok _ e p.2) ]

abbrev fine : Option (List ℕ) → Result (Option (List ℕ)) ImageError
fine x = Ok x

same_bytes : (bytes : List ℕ) (x : Option (List ℕ)) → fine (Some bytes) ≡ fine x → Some bytes ≡ x
same_bytes bytes x e = cc

module _ (b : List ℕ) (p k : ℕ) where
  not_there : (i : ℕ) (e : ImageError) → IsCodeView b p k i → bytes_at b (number b (p + 28 * i + 24) 4) (number b (p + 28 * i + 16) 4) ≡ Err e → NoRecord b p k e
  unfolding bytes_at
  not_there i e is h =
      let m = missing (nat_le (number b (p + 28 * i + 24) 4 + number b (p + 28 * i + 16) 4) (length b)) _ UnexpectedEof e h in
      subst (NoRecord b p k) m.1 (NotThere i is (leb-false (number b (p + 28 * i + 24) 4 + number b (p + 28 * i + 16) 4) (length b) m.0))

  refused_record : (i : ℕ) (e : ImageError) (bytes : List ℕ) → IsCodeView b p k i → bytes_at b (number b (p + 28 * i + 24) 4) (number b (p + 28 * i + 16) 4) ≡ Ok bytes → reference_of bytes ≡ Err e → NoRecord b p k e
  unfolding bytes_at
  refused_record i e bytes is h refused =
      let m = number b (p + 28 * i + 16) 4 in
      let q = number b (p + 28 * i + 24) 4 in
      let whole = held (nat_le (q + m) (length b)) UnexpectedEof (take m (drop q b)) bytes h in
      Refused i e is (leb-true (q + m) (length b) whole.0) (subst (λ (r : List ℕ). NoReference r e) (sym whole.1) (no_reference bytes e refused))

  no_record : (o : Option ℕ) (e : ImageError) → code_view_of b p k ≡ o → (record_at b p o >>= named_by) ≡ Err e → NoRecord b p k e
  no_record None e is h = absurd (not_ok _ e h)
  no_record (Some i) e is h =
      let q = number b (p + 28 * i + 24) 4 in
      let m = number b (p + 28 * i + 16) 4 in
      let view = code_view_is b p k i is in
      elim (broken (bytes_at b q m >>= (λ (s : List ℕ). Ok (Some s))) named_by e h) [
        | inl r ↦ elim (broken (bytes_at b q m) (λ (s : List ℕ). Ok (Some s)) e r) [ inl s ↦ not_there i e view s | inr s ↦ absurd (not_ok _ e s.2) ]
        | inr r ↦ (
            let read = bound (bytes_at b q m) (λ (s : List ℕ). Ok (Some s)) r.0 r.1 in
            refused_record i e read.0 view read.1 (named_err r.0 read.0 e (same_bytes read.0 r.0 read.2) r.2))
      ]

-- ---- the directory

record Unplaced (b : List ℕ) (t n : ℕ) (d : DebugDirectory) (e : ImageError) : Type 0 where
  sections : Stand b t (40 * n)
  some : 0 < d.entries
  none : NoEntries b t n d.address d.entries e

record Unnamed (b : List ℕ) (t n : ℕ) (d : DebugDirectory) (e : ImageError) : Type 0 where
  sections : Stand b t (40 * n)
  some : 0 < d.entries
  place : ℕ
  is : IsPlace b t n d.address place
  inside : Stand b place (28 * d.entries)
  none : NoRecord b place d.entries e

abbrev Outcome : List ℕ → ℕ → ℕ → DebugDirectory → ImageError → Type 0
Outcome b t n d e = ((length b < t + 40 * n) × (UnexpectedEof ≡ e)) ⊎ (Unplaced b t n d e ⊎ Unnamed b t n d e)

module _ (b : List ℕ) (t n : ℕ) (d : DebugDirectory) (e : ImageError) where
  abbrev record_of : ℕ → Result (Option (List ℕ)) ImageError
  record_of p = record_at b p (code_view_of b p d.entries)

  unnamed : Stand b t (40 * n) → 0 < d.entries → (p : ℕ) → entries_at b t n d ≡ Ok p → (record_of p >>= named_by) ≡ Err e → Outcome b t n d e
  unnamed sections some p placed h =
      let at = place_is b t n d p placed in
      inr (inr (record { sections = sections; some = some; place = p; is = at.0; inside = at.1; none = no_record b p d.entries (code_view_of b p d.entries) e refl h }))

  by_tests : (u z : Bool) → nat_lt (length b) (t + 40 * n) ≡ u → (d.entries == 0) ≡ z → (cond u (Err UnexpectedEof) (cond z (Ok None) (entries_at b t n d >>= record_of)) >>= named_by) ≡ Err e → Outcome b t n d e
  by_tests true z past_end empty h = inl (ltb-true (length b) (t + 40 * n) past_end, cc)
  by_tests false true past_end empty h = absurd (not_ok _ e h)
  by_tests false false past_end empty h =
      let sections = ltb-false (length b) (t + 40 * n) past_end in
      let some : 0 < d.entries = let ne = eqb-false d.entries 0 empty in omega (arith, ne) in
      elim (broken (entries_at b t n d >>= record_of) named_by e h) [
        | inl r ↦ elim (broken (entries_at b t n d) record_of e r) [
          | inl s ↦ inr (inl (record { sections = sections; some = some; none = no_entries b t n d e s }))
          | inr s ↦ unnamed sections some s.0 s.1 (ap (λ (x : Result (Option (List ℕ)) ImageError). x >>= named_by) s.2)
        ]
        | inr r ↦ (
            let placed = bound (entries_at b t n d) record_of r.0 r.1 in
            unnamed sections some placed.0 placed.1 (ap (λ (x : Result (Option (List ℕ)) ImageError). x >>= named_by) placed.2 ∙ r.2))
      ]

  no_directory : (code_view_in b t n d >>= named_by) ≡ Err e → Outcome b t n d e
  unfolding code_view_in
  no_directory h = by_tests (nat_lt (length b) (t + 40 * n)) (d.entries == 0) refl refl h

-- ---- the PDB

module _ (b : List ℕ) (o s n : ℕ) (f : Format) (e : ImageError) where
  by_outcome : (v : Bool) → (nat_lt 6 (number b (o + fixed_size f - 4) 4) && nat_le (fixed_size f + 56) s) ≡ v
      → Outcome b (o + s) n (cond v (record { address = address b o f; entries = entries b o f }) (record { address = 0; entries = 0 })) e → NoPdb b o s n f e
  by_outcome v is (inl (cut, same)) = subst (NoPdb b o s n f) same (CutSections cut)
  by_outcome false is (inr (inl h)) = absurd (omega (arith, h.some))
  by_outcome false is (inr (inr h)) = absurd (omega (arith, h.some))
  by_outcome true is (inr (inl h)) =
      let p = and_parts (nat_lt 6 (number b (o + fixed_size f - 4) 4)) (nat_le (fixed_size f + 56) s) is in
      NoPlace e h.sections (ltb-true 6 (number b (o + fixed_size f - 4) 4) p.0, leb-true (fixed_size f + 56) s p.1) h.some h.none
  by_outcome true is (inr (inr h)) =
      let p = and_parts (nat_lt 6 (number b (o + fixed_size f - 4) 4)) (nat_le (fixed_size f + 56) s) is in
      NoneNamed h.place e h.sections (ltb-true 6 (number b (o + fixed_size f - 4) 4) p.0, leb-true (fixed_size f + 56) s p.1) h.is h.inside h.none

  no_pdb : pdb_of b n (optional_of b o s f) ≡ Err e → NoPdb b o s n f e
  unfolding pdb_of
  no_pdb h = by_outcome (nat_lt 6 (number b (o + fixed_size f - 4) 4) && nat_le (fixed_size f + 56) s) refl (no_directory b (o + s) n (directory_of b (optional_of b o s f)) e h)

-- ---- the image

no_header : (b : List ℕ) (at : ℕ) (e : ImageError) → IsSigned b at → file_header_at b at ≡ Err e → IsRefused b e
unfolding file_header_at
no_header b at e signed h = elim (stopped (nat_lt (length b) (at + 24)) _ e _ h) [
  | inl p ↦ subst (IsRefused b) p.1 (InHeader at signed (ltb-true (length b) (at + 24) p.0))
  | inr p ↦ absurd (not_ok _ e p.1)
]

no_front : (b : List ℕ) (e : ImageError) → file_header_of b ≡ Err e → IsRefused b e
unfolding file_header_of
no_front b e h = elim (broken (signature_in b) (file_header_at b) e h) [
  | inl p ↦ InFront e (unsigned b e p)
  | inr p ↦ no_header b p.0 e (signed_is b p.0 p.1) p.2
]

behind : (b : List ℕ) (at : ℕ) (f : Format) (h : OptionalHeader) (e : ImageError) → IsSigned b at → Stand b at 24 → IsOptional b (at + 24) (number b (at + 20) 2) f
    → h ≡ optional_of b (at + 24) (number b (at + 20) 2) f → behind_optional b (header_of b at) h ≡ Err e → IsRefused b e
behind b at f h e signed header optional is refused =
    let r : behind_optional b (header_of b at) (optional_of b (at + 24) (number b (at + 20) 2) f) ≡ Err e = sym (ap (behind_optional b (header_of b at)) is) ∙ refused in
    elim (broken (pdb_of b (number b (at + 6) 2) (optional_of b (at + 24) (number b (at + 20) 2) f)) (λ pdb. Ok (said_of (header_of b at) (optional_of b (at + 24) (number b (at + 20) 2) f) pdb)) e r) [
      | inl p ↦ Behind at f e signed header optional (no_pdb b (at + 24) (number b (at + 20) 2) (number b (at + 6) 2) f e p)
      | inr p ↦ absurd (not_ok _ e p.2)
    ]

in_optional : (b : List ℕ) (at : ℕ) (e : ImageError) → IsSigned b at → Stand b at 24 → behind_header b (header_of b at) ≡ Err e → IsRefused b e
in_optional b at e signed header h = elim (broken (optional_header_at b (at + 24) (number b (at + 20) 2)) (behind_optional b (header_of b at)) e h) [
  | inl p ↦ InOptional at e signed header (no_optional b (at + 24) (number b (at + 20) 2) e p)
  | inr p ↦ (
      let is = optional_is b (at + 24) (number b (at + 20) 2) p.0 p.1 in
      behind b at is.0 p.0 e signed header is.1 is.2 p.2)
]

pub image_refused : (b : List ℕ) (e : ImageError) → image_of b ≡ Err e → IsRefused b e
unfolding image_of
image_refused b e h = elim (broken (file_header_of b) (behind_header b) e h) [
  | inl p ↦ no_front b e p
  | inr p ↦ (
      let is = header_is b p.0 p.1 in
      in_optional b is.0 e is.1 is.2 (sym (ap (behind_header b) is.3) ∙ p.2))
]
