-- Layouts: the parts of a record one behind another, each at the sum of the widths before it.
use Rattle.std.specs.Prelude.{ℕ, zero, suc, ℤ, ◌+◌, ◌≡◌, Bool, true, false, List, [], ◌∷◌, length, drop, Result, Ok, Err, Option, Some, None, if◌then◌else◌}
use Rattle.std.specs.Int.{w32}
use Rattle.pdb_base.specs.declared.error.Error.{Error}
use Rattle.pdb_base.specs.declared.variant.Variant.{Variant as Value}
use Rattle.pdb_base.specs.Cursor.{Cursor, Reads}
use Rattle.pdb_base.specs.Refusal.{◌>>=◌}
use Rattle.pdb_base.specs.Fields.{number_at, bytes_at, signed_at, cstring_at, variant_at, variant_width}
use Rattle.pdb_base.specs.Places.{IsNumber, IsSlice, IsSigned, IsCString, IsVariant}

-- a part, by the record's kind, its bytes and a place: what is read there, what stands there, how wide it is
pub record Part (A : Type 0) : Type 1 where
  pub at : ℕ → List ℕ → ℕ → Result A Error
  pub Stands : ℕ → List ℕ → ℕ → A → Type 0
  pub width : ℕ → List ℕ → ℕ → A → ℕ

-- a read of a part, seen by view, as in `Reads`
abbrev pub ReadsPart : {A B : Type 0} → (A → B) → Part B → ℕ → Cursor → Cursor → Result A Error → Type 0
ReadsPart view p kind old new result = Reads view old new result (p.at kind old.bytes old.place) (p.width kind old.bytes old.place)

-- ---- parts of parts

-- a part, and right behind it one that may depend on what the first says
abbrev pub behind : {A B : Type 0} → Part A → (A → Part B) → Part (A × B)
behind p q = record {
  at = λ kind b i. p.at kind b i >>= (λ x. (q x).at kind b (i + p.width kind b i x) >>= (λ y. Ok (x, y)));
  Stands = λ kind b i s. p.Stands kind b i s.0 × (q s.0).Stands kind b (i + p.width kind b i s.0) s.1;
  width = λ kind b i s. p.width kind b i s.0 + (q s.0).width kind b (i + p.width kind b i s.0) s.1;
}

-- a part, and another right behind it
infixr 5 ◌▷◌
abbrev pub ◌▷◌ : {A B : Type 0} → Part A → Part B → Part (A × B)
p ▷ q = behind p (λ _. q)

-- what a part says by another name, and how wide it was
abbrev pub width_read : {A : Type 0} → Part A → ℕ → List ℕ → ℕ → Result A Error → ℕ
width_read p kind b i (Ok x) = p.width kind b i x
width_read p kind b i (Err e) = 0

abbrev pub saying : {A B : Type 0} → (A → B) → Part A → Part B
saying {A} f p = record {
  at = λ kind b i. p.at kind b i >>= (λ x. Ok (f x));
  Stands = λ kind b i y. (x : A) × p.Stands kind b i x × (y ≡ f x);
  width = λ kind b i y. width_read p kind b i (p.at kind b i);
}

-- what is read of parts that are read together, whatever the kind
unfoldable pub together_at : {A : Type 0} → Part A → List ℕ → ℕ → Result A Error
together_at p b i = p.at 0 b i

-- parts that are read together, whatever the kind
abbrev pub together : {A : Type 0} → Part A → Part A
together p = record {
  at = λ kind b i. together_at p b i;
  Stands = λ kind b i x. p.Stands 0 b i x;
  width = λ kind b i x. p.width 0 b i x;
}

-- what is read of parts that are read together, by the kind
unfoldable pub grouped_at : {A : Type 0} → Part A → ℕ → List ℕ → ℕ → Result A Error
grouped_at p kind b i = p.at kind b i

-- parts that are read together, by the kind
abbrev pub grouped : {A : Type 0} → Part A → Part A
grouped p = record {
  at = λ kind b i. grouped_at p kind b i;
  Stands = λ kind b i x. p.Stands kind b i x;
  width = λ kind b i x. p.width kind b i x;
}

-- a part that depends on the record's kind
abbrev pub by_kind : {A : Type 0} → (ℕ → Part A) → Part A
by_kind f = record {
  at = λ kind b i. (f kind).at kind b i;
  Stands = λ kind b i x. (f kind).Stands kind b i x;
  width = λ kind b i x. (f kind).width kind b i x;
}

-- what stands where a part is given, or not
abbrev pub StandsGiven : {A : Type 0} → Bool → Part A → ℕ → List ℕ → ℕ → Option A → Type 0
StandsGiven t p kind b i None = t ≡ false
StandsGiven t p kind b i (Some x) = (t ≡ true) × p.Stands kind b i x

abbrev pub width_given : {A : Type 0} → Part A → ℕ → List ℕ → ℕ → Option A → ℕ
width_given p kind b i None = 0
width_given p kind b i (Some x) = p.width kind b i x

-- a part that is there only if the test holds
abbrev pub given : {A : Type 0} → Bool → Part A → Part (Option A)
given t p = record {
  at = λ kind b i. if t then p.at kind b i >>= (λ x. Ok (Some x)) else Ok None;
  Stands = λ kind b i o. StandsGiven t p kind b i o;
  width = λ kind b i o. width_given p kind b i o;
}

-- ---- a part so many times

abbrev pub list_at : {A : Type 0} → Part A → ℕ → ℕ → List ℕ → ℕ → Result (List A) Error
list_at p zero kind b i = Ok []
list_at p (suc n) kind b i = p.at kind b i >>= (λ x. list_at p n kind b (i + p.width kind b i x) >>= (λ xs. Ok (x ∷ xs)))

abbrev pub StandAll : {A : Type 0} → Part A → ℕ → List ℕ → ℕ → List A → Type 0
StandAll p kind b i [] = Unit {0}
StandAll p kind b i (x ∷ xs) = p.Stands kind b i x × StandAll p kind b (i + p.width kind b i x) xs

abbrev pub width_all : {A : Type 0} → Part A → ℕ → List ℕ → ℕ → List A → ℕ
width_all p kind b i [] = 0
width_all p kind b i (x ∷ xs) = p.width kind b i x + width_all p kind b (i + p.width kind b i x) xs

abbrev pub times : {A : Type 0} → ℕ → Part A → Part (List A)
times {A} n p = record {
  at = λ kind b i. list_at p n kind b i;
  Stands = λ kind b i xs. (length xs ≡ n) × StandAll p kind b i xs;
  width = λ kind b i xs. width_all p kind b i xs;
}

-- ---- plain parts

-- no part at all
abbrev pub nothing : Part (Unit {0})
nothing = record { at = λ kind b i. Ok tt; Stands = λ kind b i x. Unit {0}; width = λ kind b i x. 0 }

abbrev pub number : ℕ → Part ℕ
number w = record { at = λ kind b i. number_at b i w; Stands = λ kind b i n. IsNumber b i w n; width = λ kind b i n. w }

-- a number that says something else
abbrev pub number_as : {A : Type 0} → ℕ → (ℕ → A) → Part A
number_as {A} w f = record { at = λ kind b i. number_at b i w >>= (λ n. Ok (f n)); Stands = λ kind b i x. (n : ℕ) × IsNumber b i w n × (x ≡ f n); width = λ kind b i x. w }

-- a signed number of four bytes
abbrev pub signed : Part ℤ
signed = record { at = λ kind b i. signed_at b i w32; Stands = λ kind b i x. IsSigned b i w32 x; width = λ kind b i x. 4 }

abbrev pub variant : Part Value
variant = record { at = λ kind b i. variant_at b i; Stands = λ kind b i v. IsVariant b i v; width = λ kind b i v. variant_width b i }

-- a name before a zero byte
abbrev pub cstring : Part (List ℕ)
cstring = record { at = λ kind b i. cstring_at b i; Stands = λ kind b i s. IsCString b i s; width = λ kind b i s. length s + 1 }

-- so many bytes
abbrev pub slice : ℕ → Part (List ℕ)
slice n = record { at = λ kind b i. bytes_at b i n; Stands = λ kind b i s. IsSlice b i n s; width = λ kind b i s. n }

-- the bytes that are left
abbrev pub rest : Part (List ℕ)
rest = record { at = λ kind b i. Ok (drop i b); Stands = λ kind b i s. s ≡ drop i b; width = λ kind b i s. length s }
