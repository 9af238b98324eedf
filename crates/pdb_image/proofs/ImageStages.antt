-- What is read of an image, and the facts on places that it is read by.
use Rattle.std.proofs.Common.{◌≡◌, ℕ, ◌+◌, ◌-◌, ◌*◌, ◌<◌, ◌≢◌, Bool, true, false, cond, List, [], ◌∷◌, length, take, drop, Option, Some, None, Result, Ok, Err, refl, sym, ap, ◌∙◌, subst, arith, inl, inr}
use Rattle.std.specs.Prelude.{◌==◌, ◌||◌, ◌&&◌, ◌⊎◌, not, nat_eq, nat_lt, nat_le, slice_index, codes}
use Rattle.std.specs.List.{starts_with}
use Rattle.std.proofs.lemmas.Bool.{and_from, and_parts, cases_Bool, eq-eqb, eqb-false, eqb-true, le-leb, le-ltb, leb-true, lt-ltb, ltb-false, ltb-true, ne_eqb, not-false, true≢false}
use Rattle.pdb_base.specs.Fields.{number}
use Rattle.pdb_image.specs.declared.error.ImageError.{ImageError}
use Rattle.pdb_image.specs.declared.error.ImageError.TheVariants.{UnexpectedEof, UnknownOptionalHeader}
use Rattle.pdb_image.specs.declared.debug.DebugDirectory.{DebugDirectory}
use Rattle.pdb_image.specs.declared.header.FileHeader.{FileHeader}
use Rattle.pdb_image.specs.declared.header.Format.{Format}
use Rattle.pdb_image.specs.declared.header.Format.TheVariants.{Pe32, Pe32Plus}
use Rattle.pdb_image.specs.declared.header.OptionalHeader.{OptionalHeader}
use Rattle.pdb_image.specs.Parts.{◌>>=◌, bytes_at}
use Rattle.pdb_image.specs.Headers.{base_at, file_header_at, file_header_of, fixed_size, format_at, is_image, optional_fields, optional_header_at, signature_in}
use Rattle.pdb_image.specs.Debug.{Reference, code_view_in, code_view_of, directory_of, entries_at, has_address, offset_in, or_end, record_at, reference_fields, reference_of, section_of, there}
use Rattle.pdb_image.specs.Images.{Said, image_of, named_by, pdb_of, said_of}
use Rattle.pdb_image.specs.ImagePlaces.{Holds, IsCodeView, IsFormat, IsImage, IsNamed, IsOptional, IsPlace, IsReference, IsSigned, Names, SaysPdb, Stand, address, entries}
use Rattle.pdb_image.proofs.FirstOf.{finds_first, finds_none, is_first, none_passes}

-- ---- tests and errors

pub past : {A : Type 0} (t : Bool) (x : ImageError) (r : Result A ImageError) (v : A) → cond t (Err x) r ≡ Ok v → (t ≡ false) × (r ≡ Ok v)
past true x r v e = absurd cc
past false x r v e = (refl, e)

pub bound : {A B : Type 0} (r : Result A ImageError) (f : A → Result B ImageError) (v : B) → (r >>= f) ≡ Ok v → (x : A) × (r ≡ Ok x) × (f x ≡ Ok v)
bound (Ok x) f v e = (x, refl, e)
bound (Err e) f v h = absurd cc

pub neither : (a b : Bool) → (a || b) ≡ false → (a ≡ false) × (b ≡ false)
neither true b e = absurd cc
neither false b e = (refl, e)

nor : (a b : Bool) → a ≡ false → b ≡ false → (a || b) ≡ false
nor a b e f = rw (e, f) refl

pub held : {A : Type 0} (t : Bool) (x : ImageError) (u v : A) → cond t (Ok u) (Err x) ≡ Ok v → (t ≡ true) × (u ≡ v)
held true x u v e = (refl, cc)
held false x u v e = absurd cc

-- ---- the signature

pub begins_is : (b : List ℕ) → is_image b ≡ true → (slice_index b 0 ≡ 0x4d) × (slice_index b 1 ≡ 0x5a)
begins_is [] e = absurd cc
begins_is (x ∷ []) e = absurd (let p = and_parts (nat_eq 0x4d x) false e in cc)
begins_is (x ∷ (y ∷ ys)) e =
    let p = and_parts (nat_eq 0x4d x) (nat_eq 0x5a y && true) e in
    let q = and_parts (nat_eq 0x5a y) true p.1 in
    (sym (eqb-true 0x4d x p.0), sym (eqb-true 0x5a y q.0))

pub is_begun : (b : List ℕ) → slice_index b 0 ≡ 0x4d → slice_index b 1 ≡ 0x5a → is_image b ≡ true
is_begun [] m z = absurd (omega (arith, m))
is_begun (x ∷ []) m z = absurd (omega (arith, z))
is_begun (x ∷ (y ∷ ys)) m z = rw (eq-eqb 0x4d x (sym m), eq-eqb 0x5a y (sym z)) refl

pub signed_is : (b : List ℕ) (e : ℕ) → signature_in b ≡ Ok e → IsSigned b e
unfolding signature_in
signed_is b e h =
    let p1 = past (not (is_image b)) _ _ e h in
    let p2 = past (nat_lt (length b) 64) _ _ e p1.1 in
    let p3 = past (nat_lt (length b) (number b 60 4 + 4)) _ _ e p2.1 in
    let p4 = past (not (number b (number b 60 4) 4 == 0x4550)) _ _ e p3.1 in
    let at : number b 60 4 ≡ e = cc in
    record {
      begins = begins_is b (not-false (is_image b) p1.0);
      front = ltb-false (length b) 64 p2.0;
      at = sym at;
      there = rw (← at) (ltb-false (length b) (number b 60 4 + 4) p3.0);
      signature = rw (← at) (eqb-true (number b (number b 60 4) 4) 0x4550 (not-false _ p4.0));
    }

pub is_signed : (b : List ℕ) (e : ℕ) → IsSigned b e → signature_in b ≡ Ok e
unfolding signature_in
is_signed b e h =
    let at = h.at in
    let t1 : is_image b ≡ true = is_begun b h.begins.0 h.begins.1 in
    let t2 : nat_lt (length b) 64 ≡ false = le-ltb (length b) 64 h.front in
    let t3 : nat_lt (length b) (number b 60 4 + 4) ≡ false = le-ltb (length b) (number b 60 4 + 4) (rw at at h.there) in
    let t4 : nat_eq (number b (number b 60 4) 4) 0x4550 ≡ true = eq-eqb (number b (number b 60 4) 4) 0x4550 (rw at at h.signature) in
    rw (t1, t2, t3, t4) (ap Ok (sym at))

-- ---- headers

abbrev pub header_of : List ℕ → ℕ → FileHeader
header_of b e = record { at = e; machine = number b (e + 4) 2; sections = number b (e + 6) 2; time_stamp = number b (e + 8) 4; optional_size = number b (e + 20) 2 }

pub header_is : (b : List ℕ) (f : FileHeader) → file_header_of b ≡ Ok f → (e : ℕ) × IsSigned b e × Stand b e 24 × (f ≡ header_of b e)
unfolding file_header_of file_header_at
header_is b f h =
    let (e, signed, rest) = bound (signature_in b) (file_header_at b) f h in
    let p = past (nat_lt (length b) (e + 24)) _ _ f rest in
    (e, signed_is b e signed, ltb-false (length b) (e + 24) p.0, cc)

is_header : (b : List ℕ) (e : ℕ) → IsSigned b e → Stand b e 24 → file_header_of b ≡ Ok (header_of b e)
unfolding file_header_of file_header_at
is_header b e signed there = rw (is_signed b e signed, le-ltb (length b) (e + 24) there) refl

pub format_case : (b : List ℕ) (o : ℕ) (f : Format) (t u : Bool) → (number b o 2 == 0x10b) ≡ t → (number b o 2 == 0x20b) ≡ u → cond t (Ok Pe32) (cond u (Ok Pe32Plus) (Err UnknownOptionalHeader)) ≡ Ok f → IsFormat b o f
format_case b o Pe32 true u first second e = eqb-true (number b o 2) 0x10b first
format_case b o Pe32Plus true u first second e = absurd cc
format_case b o Pe32 false true first second e = absurd cc
format_case b o Pe32Plus false true first second e = eqb-true (number b o 2) 0x20b second
format_case b o f false false first second e = absurd cc

abbrev format_by : Bool → Bool → Result Format ImageError
format_by t u = cond t (Ok Pe32) (cond u (Ok Pe32Plus) (Err UnknownOptionalHeader))

pub is_format : (b : List ℕ) (o : ℕ) (f : Format) → IsFormat b o f → format_by (number b o 2 == 0x10b) (number b o 2 == 0x20b) ≡ Ok f
is_format b o Pe32 e = rw e refl
is_format b o Pe32Plus e = rw e refl

abbrev pub optional_of : List ℕ → ℕ → ℕ → Format → OptionalHeader
optional_of b o s f = record { at = o; size = s; fixed = fixed_size f; base = base_at b o f; size_of_image = number b (o + 56) 4; directories = number b (o + fixed_size f - 4) 4 }

pub optional_is : (b : List ℕ) (o s : ℕ) (h : OptionalHeader) → optional_header_at b o s ≡ Ok h → (f : Format) × IsOptional b o s f × (h ≡ optional_of b o s f)
unfolding optional_header_at format_at optional_fields
optional_is b o s h e =
    let (f, format, fields) = bound (format_at b o s) (optional_fields b o s) h e in
    let p = past (nat_lt s 2 || nat_lt (length b) (o + 2)) _ _ f format in
    let two = neither (nat_lt s 2) (nat_lt (length b) (o + 2)) p.0 in
    let q = past (nat_lt s (fixed_size f) || nat_lt (length b) (o + s)) _ _ h fields in
    let long = neither (nat_lt s (fixed_size f)) (nat_lt (length b) (o + s)) q.0 in (
      f,
      record {
        two = ltb-false s 2 two.0;
        begins = ltb-false (length b) (o + 2) two.1;
        format = format_case b o f (number b o 2 == 0x10b) (number b o 2 == 0x20b) refl refl p.1;
        long = ltb-false s (fixed_size f) long.0;
        there = ltb-false (length b) (o + s) long.1;
      },
      cc,
    )

is_optional : (b : List ℕ) (o s : ℕ) (f : Format) → IsOptional b o s f → optional_header_at b o s ≡ Ok (optional_of b o s f)
unfolding optional_header_at format_at optional_fields
is_optional b o s f h =
    let first = nor (nat_lt s 2) (nat_lt (length b) (o + 2)) (le-ltb s 2 h.two) (le-ltb (length b) (o + 2) h.begins) in
    let second = nor (nat_lt s (fixed_size f)) (nat_lt (length b) (o + s)) (le-ltb s (fixed_size f) h.long) (le-ltb (length b) (o + s) h.there) in
    rw (first, is_format b o f h.format, second) refl

-- ---- the record

no_other : (r : List ℕ) → starts_with nat_eq r (codes "RSDS") ≡ true → starts_with nat_eq r (codes "NB10") ≡ false
no_other [] e = absurd cc
no_other (x ∷ xs) e =
    let p = and_parts (nat_eq 0x52 x) (starts_with nat_eq xs (codes "SDS")) e in
    let first : x ≡ 0x52 = sym (eqb-true 0x52 x p.0) in
    rw first refl

abbrev reference_by : List ℕ → ℕ → List ℕ → Reference
reference_by g a p = record { guid = g; age = a; path = p }

reference_is : (r : List ℕ) (y : Reference) → reference_of r ≡ Ok y → IsReference r y
unfolding reference_of
reference_is r y h =
    let p1 = past (nat_lt (length r) 4) _ _ y h in
    let p2 = past (starts_with nat_eq r (codes "NB10")) _ _ y p1.1 in
    let p3 = past (not (starts_with nat_eq r (codes "RSDS"))) _ _ y p2.1 in
    let p4 = past (nat_lt (length r) 24) _ _ y p3.1 in
    let is : reference_fields r ≡ y = cc in
    record {
      begins = not-false (starts_with nat_eq r (codes "RSDS")) p3.0;
      there = ltb-false (length r) 24 p4.0;
      guid = sym (ap (λ (z : Reference). z.guid) is);
      age = sym (ap (λ (z : Reference). z.age) is);
      path = sym (ap (λ (z : Reference). z.path) is);
    }

reference_same : (g h : List ℕ) (a c : ℕ) (p q : List ℕ) → g ≡ h → a ≡ c → p ≡ q → reference_by g a p ≡ reference_by h c q
reference_same g h a c p q e f k = rw (e, f, k) refl

is_reference : (r : List ℕ) (y : Reference) → IsReference r y → reference_of r ≡ Ok y
unfolding reference_of
is_reference r y h =
    let begins = h.begins in
    let other = no_other r h.begins in
    let four : nat_lt (length r) 4 ≡ false = le-ltb (length r) 4 (omega (arith, h.there)) in
    let long : nat_lt (length r) 24 ≡ false = le-ltb (length r) 24 h.there in
    let same : y ≡ reference_fields r = reference_same y.guid _ y.age _ y.path _ h.guid h.age h.path in
    rw (four, other, begins, long) (ap Ok (sym same))

-- ---- entries

module _ (b : List ℕ) (p k : ℕ) where
  test : ℕ → Bool
  test i = number b (p + 28 * i + 12) 4 == 2

  pub code_view_is : (i : ℕ) → code_view_of b p k ≡ Some i → IsCodeView b p k i
  unfolding code_view_of test
  code_view_is i e =
      let found = is_first test 0 k i e in
      record {
        below = omega (arith, found.below);
        type = eqb-true (number b (p + 28 * i + 12) 4) 2 found.passes;
        first = λ j lt. eqb-false (number b (p + 28 * j + 12) 4) 2 (found.first j (omega arith) lt);
      }

  is_code_view : (i : ℕ) → IsCodeView b p k i → code_view_of b p k ≡ Some i
  unfolding code_view_of test
  is_code_view i h = finds_first test 0 k i (record {
    low = omega arith;
    below = omega (arith, h.below);
    passes = eq-eqb (number b (p + 28 * i + 12) 4) 2 h.type;
    first = λ j a lt. ne_eqb (number b (p + 28 * j + 12) 4) 2 (h.first j lt);
  })

  no_code_view : code_view_of b p k ≡ None → (j : ℕ) → j < k → number b (p + 28 * j + 12) 4 ≢ 2
  unfolding code_view_of test
  no_code_view e j lt = eqb-false (number b (p + 28 * j + 12) 4) 2 (none_passes test 0 k e j (omega arith) (omega (arith, lt)))

  is_no_code_view : ((j : ℕ) → j < k → number b (p + 28 * j + 12) 4 ≢ 2) → code_view_of b p k ≡ None
  unfolding code_view_of test
  is_no_code_view h = finds_none test 0 k (λ j a lt. ne_eqb (number b (p + 28 * j + 12) 4) 2 (h j (omega (arith, lt))))

  names_by : (pdb : Option Reference) (entry : Option ℕ) → code_view_of b p k ≡ entry → (record_at b p entry >>= named_by) ≡ Ok pdb → Names b p k pdb
  unfolding bytes_at
  names_by None None none e = no_code_view none
  names_by (Some y) None none e = absurd cc
  names_by pdb (Some i) is e =
      let m = number b (p + 28 * i + 16) 4 in
      let q = number b (p + 28 * i + 24) 4 in
      let (o, r1, r2) = bound (bytes_at b q m >>= (λ (s : List ℕ). Ok (Some s))) named_by pdb e in
      let (bytes, r3, r4) = bound (bytes_at b q m) (λ (s : List ℕ). Ok (Some s)) o r1 in
      let whole = held (nat_le (q + m) (length b)) UnexpectedEof (take m (drop q b)) bytes r3 in
      let same : o ≡ Some bytes = cc in
      let (y, r5, r6) = bound (reference_of bytes) (λ (r : Reference). Ok (Some r)) pdb (rw same at r2) in
      let names : Some y ≡ pdb = cc in
      let reference : IsReference (take m (drop q b)) y = subst (λ (r : List ℕ). IsReference r y) (sym whole.1) (reference_is bytes y r5) in
      let named : IsNamed b p k y = record { entry = i; code_view = code_view_is i is; there = leb-true (q + m) (length b) whole.0; reference = reference } in
      subst (Names b p k) names named

  is_names : (pdb : Option Reference) → Names b p k pdb → (record_at b p (code_view_of b p k) >>= named_by) ≡ Ok pdb
  unfolding bytes_at
  is_names None h = let none = is_no_code_view h in rw none refl
  is_names (Some y) h =
      let i = h.entry in
      let m = number b (p + 28 * h.entry + 16) 4 in
      let q = number b (p + 28 * h.entry + 24) 4 in
      let found = is_code_view h.entry h.code_view in
      let inside : nat_le (q + m) (length b) ≡ true = le-leb (q + m) (length b) h.there in
      let named = is_reference (take m (drop q b)) y h.reference in
      rw (found, inside, named) refl

-- ---- sections

pub holds_is : (b : List ℕ) (t r i : ℕ) → has_address b t r i ≡ true → Holds b r (t + 40 * i)
holds_is b t r i e =
    let p = and_parts (nat_le (number b (t + 40 * i + 12) 4) r) (nat_lt r (number b (t + 40 * i + 12) 4 + number b (t + 40 * i + 16) 4)) e in
    (leb-true (number b (t + 40 * i + 12) 4) r p.0, ltb-true r (number b (t + 40 * i + 12) 4 + number b (t + 40 * i + 16) 4) p.1)

pub is_held : (b : List ℕ) (t r i : ℕ) → Holds b r (t + 40 * i) → has_address b t r i ≡ true
is_held b t r i h = and_from (nat_le (number b (t + 40 * i + 12) 4) r) (nat_lt r (number b (t + 40 * i + 12) 4 + number b (t + 40 * i + 16) 4)) (le-leb (number b (t + 40 * i + 12) 4) r h.0) (lt-ltb r (number b (t + 40 * i + 12) 4 + number b (t + 40 * i + 16) 4) h.1)

pub not_held : (b : List ℕ) (t r i : ℕ) → (Holds b r (t + 40 * i) → ⊥) → has_address b t r i ≡ false
not_held b t r i h = elim (cases_Bool (has_address b t r i)) [ inl so ↦ absurd (h (holds_is b t r i so)) | inr not_so ↦ not_so ]

pub section_is : (o : Option ℕ) (i : ℕ) → or_end o ≡ Ok i → o ≡ Some i
section_is None i e = absurd cc
section_is (Some j) i e = cc

module _ (b : List ℕ) (t n : ℕ) (d : DebugDirectory) where
  pub place_is : (p : ℕ) → entries_at b t n d ≡ Ok p → IsPlace b t n d.address p × Stand b p (28 * d.entries)
  unfolding entries_at section_of
  place_is p e =
      let (i, found, rest) = bound (or_end (section_of b t n d.address)) (λ i. there b (28 * d.entries) (offset_in b t d.address i)) p e in
      let first = is_first (has_address b t d.address) 0 n i (section_is (section_of b t n d.address) i found) in
      let inside = past (nat_lt (length b) (offset_in b t d.address i + 28 * d.entries)) UnexpectedEof (Ok (offset_in b t d.address i)) p rest in
      let is : offset_in b t d.address i ≡ p = cc in (
        record {
          section = i;
          below = omega (arith, first.below);
          holds = holds_is b t d.address i first.passes;
          first = λ j lt h. true≢false (sym (is_held b t d.address j h) ∙ first.first j (omega arith) lt);
          is = sym is;
        },
        rw (← is) (ltb-false (length b) (offset_in b t d.address i + 28 * d.entries) inside.0),
      )

  is_place : (p : ℕ) → IsPlace b t n d.address p → Stand b p (28 * d.entries) → entries_at b t n d ≡ Ok p
  unfolding entries_at section_of
  is_place p h inside =
      let is = h.is in
      let found = finds_first (has_address b t d.address) 0 n h.section (record { low = omega arith; below = omega (arith, h.below); passes = is_held b t d.address h.section h.holds; first = λ j a lt. not_held b t d.address j (h.first j lt) }) in
      let fits : nat_lt (length b) (offset_in b t d.address h.section + 28 * d.entries) ≡ false = le-ltb (length b) (offset_in b t d.address h.section + 28 * d.entries) (rw is at inside) in
      rw (found, fits) (ap Ok (sym is))

-- ---- the directory

-- the entries stand at a place, and name what they name
record Opened (b : List ℕ) (t n : ℕ) (d : DebugDirectory) (pdb : Option Reference) : Type 0 where
  some : 0 < d.entries
  place : ℕ
  is : IsPlace b t n d.address place
  inside : Stand b place (28 * d.entries)
  names : Names b place d.entries pdb

abbrev Either : List ℕ → ℕ → ℕ → DebugDirectory → Option Reference → Type 0
Either b t n d pdb = ((d.entries ≡ 0) × (pdb ≡ None)) ⊎ Opened b t n d pdb

module _ (b : List ℕ) (t n : ℕ) (d : DebugDirectory) (pdb : Option Reference) where
  by_entries : (z : Bool) (c : Option (List ℕ)) → (d.entries == 0) ≡ z → cond z (Ok None) (entries_at b t n d >>= λ p. record_at b p (code_view_of b p d.entries)) ≡ Ok c → named_by c ≡ Ok pdb → Either b t n d pdb
  by_entries true c z e named =
      let none : c ≡ None = cc in
      let named_none = rw none at named in
      inl (eqb-true d.entries 0 z, cc)
  by_entries false c z e named =
      let (p, placed, read) = bound (entries_at b t n d) (λ p. record_at b p (code_view_of b p d.entries)) c e in
      let (is, inside) = place_is b t n d p placed in
      let some : 0 < d.entries = let ne = eqb-false d.entries 0 z in omega (arith, ne) in
      let both : (record_at b p (code_view_of b p d.entries) >>= named_by) ≡ Ok pdb = rw read named in
      inr (record { some = some; place = p; is = is; inside = inside; names = names_by b p d.entries pdb (code_view_of b p d.entries) refl both })

  directory_is : (code_view_in b t n d >>= named_by) ≡ Ok pdb → Stand b t (40 * n) × Either b t n d pdb
  unfolding code_view_in
  directory_is e =
      let (c, read, named) = bound (code_view_in b t n d) named_by pdb e in
      let p = past (nat_lt (length b) (t + 40 * n)) UnexpectedEof _ c read in
      (ltb-false (length b) (t + 40 * n) p.0, by_entries (d.entries == 0) c refl p.1 named)

  is_directory : Stand b t (40 * n) → Either b t n d pdb → (code_view_in b t n d >>= named_by) ≡ Ok pdb
  unfolding code_view_in
  is_directory inside (inl (none, nothing)) = rw (le-ltb (length b) (t + 40 * n) inside, none) (ap Ok (sym nothing))
  is_directory inside (inr h) =
      let some = h.some in
      let ne : nat_eq d.entries 0 ≡ false = ne_eqb d.entries 0 (λ q. omega (arith, some, q)) in
      let placed = is_place b t n d h.place h.is h.inside in
      rw (le-ltb (length b) (t + 40 * n) inside, ne, placed) (is_names b h.place d.entries pdb h.names)

-- ---- the PDB

module _ (b : List ℕ) (o s n : ℕ) (f : Format) (pdb : Option Reference) where
  abbrev whole : DebugDirectory
  whole = record { address = address b o f; entries = entries b o f }

  abbrev empty : DebugDirectory
  empty = record { address = 0; entries = 0 }

  says_pdb : (v : Bool) → (nat_lt 6 (number b (o + fixed_size f - 4) 4) && nat_le (fixed_size f + 56) s) ≡ v → Either b (o + s) n (cond v whole empty) pdb → SaysPdb b o s n f pdb
  says_pdb false not_so (inl (none, is)) = inl (λ h. absurd (true≢false (sym (and_from _ _ (lt-ltb 6 (number b (o + fixed_size f - 4) 4) h.0) (le-leb (fixed_size f + 56) s h.1)) ∙ not_so)), is)
  says_pdb false not_so (inr h) = absurd (omega (arith, h.some))
  says_pdb true so (inl (none, is)) = inl (λ h. none, is)
  says_pdb true so (inr h) =
      let p = and_parts (nat_lt 6 (number b (o + fixed_size f - 4) 4)) (nat_le (fixed_size f + 56) s) so in
      inr (record { directory = (ltb-true 6 (number b (o + fixed_size f - 4) 4) p.0, leb-true (fixed_size f + 56) s p.1); some = h.some; place = h.place; is = h.is; there = h.inside; names = h.names })

  pdb_said : (v : Bool) → (nat_lt 6 (number b (o + fixed_size f - 4) 4) && nat_le (fixed_size f + 56) s) ≡ v → SaysPdb b o s n f pdb → Either b (o + s) n (cond v whole empty) pdb
  pdb_said false not_so (inl (none, is)) = inl (refl, is)
  pdb_said true so (inl (none, is)) =
      let p = and_parts (nat_lt 6 (number b (o + fixed_size f - 4) 4)) (nat_le (fixed_size f + 56) s) so in
      inl (none (ltb-true 6 (number b (o + fixed_size f - 4) 4) p.0, leb-true (fixed_size f + 56) s p.1), is)
  pdb_said true so (inr h) = inr (record { some = h.some; place = h.place; is = h.is; inside = h.there; names = h.names })
  pdb_said false not_so (inr h) = absurd (true≢false (sym (and_from _ _ (lt-ltb 6 (number b (o + fixed_size f - 4) 4) h.directory.0) (le-leb (fixed_size f + 56) s h.directory.1)) ∙ not_so))

  pdb_is : pdb_of b n (optional_of b o s f) ≡ Ok pdb → Stand b (o + s) (40 * n) × SaysPdb b o s n f pdb
  unfolding pdb_of
  pdb_is e =
      let (there, either) = directory_is b (o + s) n (directory_of b (optional_of b o s f)) pdb e in
      (there, says_pdb (nat_lt 6 (number b (o + fixed_size f - 4) 4) && nat_le (fixed_size f + 56) s) refl either)

  is_pdb : Stand b (o + s) (40 * n) → SaysPdb b o s n f pdb → pdb_of b n (optional_of b o s f) ≡ Ok pdb
  unfolding pdb_of
  is_pdb there h = is_directory b (o + s) n (directory_of b (optional_of b o s f)) pdb there (pdb_said (nat_lt 6 (number b (o + fixed_size f - 4) 4) && nat_le (fixed_size f + 56) s) refl h)

-- ---- the image

abbrev said_by : ℕ → ℕ → ℕ → ℕ → Option Reference → Said
said_by machine base stamp size pdb = record { machine = machine; base = base; time_stamp = stamp; size = size; pdb = pdb }

said_same : (m1 m2 b1 b2 t1 t2 s1 s2 : ℕ) (pdb : Option Reference) → m1 ≡ m2 → b1 ≡ b2 → t1 ≡ t2 → s1 ≡ s2 → said_by m1 b1 t1 s1 pdb ≡ said_by m2 b2 t2 s2 pdb
said_same m1 m2 b1 b2 t1 t2 s1 s2 pdb m a t s = rw (m, a, t, s) refl

-- behind the file header
abbrev pub behind_header : List ℕ → FileHeader → Result Said ImageError
behind_header b f = optional_header_at b (f.at + 24) f.optional_size >>= λ h. pdb_of b f.sections h >>= λ pdb. Ok (said_of f h pdb)

-- behind the optional header
abbrev pub behind_optional : List ℕ → FileHeader → OptionalHeader → Result Said ImageError
behind_optional b f h = pdb_of b f.sections h >>= λ pdb. Ok (said_of f h pdb)

image_parts : (b : List ℕ) (x : Said) (at : ℕ) (format : Format) → IsSigned b at → Stand b at 24 → IsOptional b (at + 24) (number b (at + 20) 2) format → behind_optional b (header_of b at) (optional_of b (at + 24) (number b (at + 20) 2) format) ≡ Ok x → IsImage b x
image_parts b x at format signed header optional e =
    let (pdb, read, is) = bound (pdb_of b (number b (at + 6) 2) (optional_of b (at + 24) (number b (at + 20) 2) format)) (λ pdb. Ok (said_of (header_of b at) (optional_of b (at + 24) (number b (at + 20) 2) format) pdb)) x e in
    let (sections, says) = pdb_is b (at + 24) (number b (at + 20) 2) (number b (at + 6) 2) format pdb read in
    let said : said_of (header_of b at) (optional_of b (at + 24) (number b (at + 20) 2) format) pdb ≡ x = cc in
    record {
      signature = at;
      format = format;
      signed = signed;
      header = header;
      optional = optional;
      sections = sections;
      machine = sym (ap (λ (y : Said). y.machine) said);
      time_stamp = sym (ap (λ (y : Said). y.time_stamp) said);
      base = sym (ap (λ (y : Said). y.base) said);
      size = sym (ap (λ (y : Said). y.size) said);
      pdb = subst (SaysPdb b (at + 24) (number b (at + 20) 2) (number b (at + 6) 2) format) (ap (λ (y : Said). y.pdb) said) says;
    }

by_optional : (b : List ℕ) (x : Said) (at : ℕ) (format : Format) (h : OptionalHeader) → IsSigned b at → Stand b at 24 → IsOptional b (at + 24) (number b (at + 20) 2) format → h ≡ optional_of b (at + 24) (number b (at + 20) 2) format → behind_optional b (header_of b at) h ≡ Ok x → IsImage b x
by_optional b x at format h signed header optional is e = image_parts b x at format signed header optional (sym (ap (behind_optional b (header_of b at)) is) ∙ e)

image_rest : (b : List ℕ) (x : Said) (at : ℕ) → IsSigned b at → Stand b at 24 → behind_header b (header_of b at) ≡ Ok x → IsImage b x
image_rest b x at signed header e =
    let (h, read, rest) = bound (optional_header_at b (at + 24) (number b (at + 20) 2)) (behind_optional b (header_of b at)) x e in
    let (format, optional, same) = optional_is b (at + 24) (number b (at + 20) 2) h read in
    by_optional b x at format h signed header optional same rest

by_header : (b : List ℕ) (x : Said) (f : FileHeader) (at : ℕ) → IsSigned b at → Stand b at 24 → f ≡ header_of b at → behind_header b f ≡ Ok x → IsImage b x
by_header b x f at signed header is e = image_rest b x at signed header (sym (ap (behind_header b) is) ∙ e)

pub image_is : (b : List ℕ) (x : Said) → image_of b ≡ Ok x → IsImage b x
unfolding image_of
image_is b x e =
    let (f, read, rest) = bound (file_header_of b) (behind_header b) x e in
    let (at, signed, header, is) = header_is b f read in
    by_header b x f at signed header is rest

pub is_image_of : (b : List ℕ) (x : Said) → IsImage b x → image_of b ≡ Ok x
unfolding image_of
is_image_of b x h =
    let header = is_header b h.signature h.signed h.header in
    let optional = is_optional b (h.signature + 24) (number b (h.signature + 20) 2) h.format h.optional in
    let pdb = is_pdb b (h.signature + 24) (number b (h.signature + 20) 2) (number b (h.signature + 6) 2) h.format x.pdb h.sections h.pdb in
    let same : x ≡ said_of (header_of b h.signature) (optional_of b (h.signature + 24) (number b (h.signature + 20) 2) h.format) x.pdb =
    said_same x.machine _ x.base _ x.time_stamp _ x.size _ x.pdb h.machine h.base h.time_stamp h.size in
    rw (header, optional, pdb) (ap Ok (sym same))
