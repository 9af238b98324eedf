-- What is read of a part at a place is what stands there, and it is refused only at the end.
use Rattle.std.proofs.Common.{◌≡◌, ℕ, ◌+◌, Bool, true, false, List, length, take, drop, Option, Some, None, Result, Ok, Err, refl, sym, ap, ◌∙◌, arith, MatchBool, cond, length-drop}
use Rattle.std.proofs.Math.Seq.{take-length}
use Rattle.std.specs.Prelude.{nat_lt, IfOk}
use Rattle.pdb_base.specs.declared.error.Error.{Error}
use Rattle.pdb_base.specs.Cursor.{Cursor, Reads}
use Rattle.pdb_base.proofs.Numbers.{bytes_there}
use Rattle.std.proofs.lemmas.Bool.Decides.{nat_tests}
use Rattle.pdb_base.specs.declared.index.PdbInternalSectionOffset.{PdbInternalSectionOffset}
use Rattle.pdb_base.specs.Refusal.{◌>>=◌}
use Rattle.pdb_base.specs.Fields.{bytes_at, cstring_at, pascal_at}
use Rattle.pdb_base.specs.Places.{IsCString, IsPascal}
use Rattle.pdb_base.proofs.Places.{bind_ok, OnlyEof, bind_eof, ok_eof, number_is, is_number, number_eof, pascal_is, is_pascal, pascal_eof, cstring_is, is_cstring, cstring_eof}
use Rattle.pdb_base.proofs.Layouts.{Tells, Ends}
use Rattle.pdb_symbols.specs.Parts.{IsOffset, IsName, IsOptionalName, offset_at, name_at, optional_name_at, offset, name, optional_name}

pub offset_is : (b : List ℕ) (p : ℕ) (o : PdbInternalSectionOffset) → offset_at b p ≡ Ok o → IsOffset b p o
unfolding offset_at
offset_is b p o e =
    let (offset, at_offset, e1) = bind_ok _ _ _ e in
    let (section, at_section, e2) = bind_ok _ _ _ e1 in
    let same : ◌≡◌ {A = PdbInternalSectionOffset} (record { offset = offset; section = section }) o = cc in
    rw (← same) (record { offset = number_is b p 4 offset at_offset; section = number_is b (p + 4) 2 section at_section })

pub is_offset : (b : List ℕ) (p : ℕ) (o : PdbInternalSectionOffset) → IsOffset b p o → offset_at b p ≡ Ok o
unfolding offset_at
is_offset b p o h = rw (is_number b p 4 o.offset h.offset, is_number b (p + 4) 2 o.section h.section) refl

pub offset_eof : (b : List ℕ) (p : ℕ) → OnlyEof (offset_at b p)
unfolding offset_at
offset_eof b p = bind_eof _ _ (number_eof b p 4) (λ _. bind_eof _ _ (number_eof b (p + 4) 2) (λ _. ok_eof _))

name_is_at : (t : Bool) (b : List ℕ) (p : ℕ) (s : List ℕ) → cond t (pascal_at b p) (cstring_at b p) ≡ Ok s → MatchBool t (IsPascal b p s) (IsCString b p s)
name_is_at true b p s e = pascal_is b p s e
name_is_at false b p s e = cstring_is b p s e

is_name_at : (t : Bool) (b : List ℕ) (p : ℕ) (s : List ℕ) → MatchBool t (IsPascal b p s) (IsCString b p s) → cond t (pascal_at b p) (cstring_at b p) ≡ Ok s
is_name_at true b p s h = is_pascal b p s h
is_name_at false b p s h = is_cstring b p s h

name_eof_at : (t : Bool) (b : List ℕ) (p : ℕ) → OnlyEof (cond t (pascal_at b p) (cstring_at b p))
name_eof_at true b p = pascal_eof b p
name_eof_at false b p = cstring_eof b p

pub name_is : (kind : ℕ) (b : List ℕ) (p : ℕ) (s : List ℕ) → name_at kind b p ≡ Ok s → IsName kind b p s
unfolding name_at
name_is kind b p s e = name_is_at (nat_lt kind 0x1100) b p s e

pub is_name : (kind : ℕ) (b : List ℕ) (p : ℕ) (s : List ℕ) → IsName kind b p s → name_at kind b p ≡ Ok s
unfolding name_at
is_name kind b p s h = is_name_at (nat_lt kind 0x1100) b p s h

pub name_eof : (kind : ℕ) (b : List ℕ) (p : ℕ) → OnlyEof (name_at kind b p)
unfolding name_at
name_eof kind b p = name_eof_at (nat_lt kind 0x1100) b p

optional_is_at : (t : Bool) (kind : ℕ) (b : List ℕ) (p : ℕ) (s : Option (List ℕ)) → nat_lt kind 0x1100 ≡ t → cond t (Ok None) (cstring_at b p >>= (λ name. Ok (Some name))) ≡ Ok s → IsOptionalName kind b p s
optional_is_at true kind b p None h e = grind (arith, nat_tests)
optional_is_at true kind b p (Some s) h e = absurd cc
optional_is_at false kind b p s h e =
    let (name, at, same) = bind_ok (cstring_at b p) (λ name. Ok (Some name)) s e in
    let q : Some name ≡ s = cc in
    rw (← q) (grind (arith, nat_tests), cstring_is b p name at)

pub optional_name_is : (kind : ℕ) (b : List ℕ) (p : ℕ) (s : Option (List ℕ)) → optional_name_at kind b p ≡ Ok s → IsOptionalName kind b p s
unfolding optional_name_at
optional_name_is kind b p s e = optional_is_at (nat_lt kind 0x1100) kind b p s refl e

pub is_optional_name : (kind : ℕ) (b : List ℕ) (p : ℕ) (s : Option (List ℕ)) → IsOptionalName kind b p s → optional_name_at kind b p ≡ Ok s
unfolding optional_name_at
is_optional_name kind b p None h = let t : nat_lt kind 0x1100 ≡ true = grind (arith, nat_tests) in rw t refl
is_optional_name kind b p (Some s) h =
    let low = h.0 in
    let t : nat_lt kind 0x1100 ≡ false = grind (arith, nat_tests) in
    rw (t, is_cstring b p s h.1) refl

optional_eof_at : (t : Bool) (b : List ℕ) (p : ℕ) → OnlyEof (cond t (Ok None) (cstring_at b p >>= (λ name. Ok (Some name))))
optional_eof_at true b p = ok_eof None
optional_eof_at false b p = bind_eof _ _ (cstring_eof b p) (λ _. ok_eof _)

pub optional_name_eof : (kind : ℕ) (b : List ℕ) (p : ℕ) → OnlyEof (optional_name_at kind b p)
unfolding optional_name_at
optional_name_eof kind b p = optional_eof_at (nat_lt kind 0x1100) b p

-- ---- the same as parts of layouts

pub offset_tells : Tells offset
offset_tells = record { is = λ kind b i x e. offset_is b i x e; reads = λ kind b i x h. is_offset b i x h }

pub name_tells : Tells name
name_tells = record { is = λ kind b i x e. name_is kind b i x e; reads = λ kind b i x h. is_name kind b i x h }

pub optional_name_tells : Tells optional_name
optional_name_tells = record { is = λ kind b i x e. optional_name_is kind b i x e; reads = λ kind b i x h. is_optional_name kind b i x h }

pub offset_ends : Ends offset
offset_ends = record { eof = λ kind b i. offset_eof b i }

pub name_ends : Ends name
name_ends = record { eof = λ kind b i. name_eof kind b i }

pub optional_name_ends : Ends optional_name
optional_name_ends = record { eof = λ kind b i. optional_name_eof kind b i }

-- ---- the bytes that are left

rest_there : (b : List ℕ) (p n : ℕ) → n + p ≡ length b → bytes_at b p n ≡ Ok (drop p b)
rest_there b p n h =
    let all : take (length (drop p b)) (drop p b) ≡ drop p b = take-length (drop p b) in
    let size : length (drop p b) ≡ n = simp length-drop (omega arith) in
    bytes_there b p n (omega arith) ∙ ap Ok (rw size at all)

pub rest_taken : {X : Type 0} (view : X → List ℕ) (old new : Cursor) (n : ℕ) (r : Result X Error) → n + old.place ≡ length old.bytes → Reads view old new r (bytes_at old.bytes old.place n) (λ _. n) → IfOk r (λ s. length (view s) ≡ n) → Reads view old new r (Ok (drop old.place old.bytes)) (λ s. length s)
rest_taken view old new n (Ok x) room read size =
    let there = rest_there old.bytes old.place n room in
    (sym there ∙ read.0, read.1, rw size read.2)
rest_taken view old new n (Err e) room read size =
    let there = rest_there old.bytes old.place n room in
    let refused = read.0 in
    absurd cc
