-- What stands at the offsets of a record of a global symbol is what the record says.
use Rattle.std.proofs.Common.{◌≡◌, ◌≤◌, ℕ, Bool, true, false, List, length, Result, Ok, Err, refl, ap, ◌∙◌, arith, leb}
use Rattle.std.specs.Prelude.{codes}
use Rattle.pdb.specs.Error.{Error}
use Rattle.pdb.specs.Fields.{number_at, cstring_at}
use Rattle.pdb.specs.Forms.{kind_at, record_at, fields_at}
use Rattle.pdb_symbols.specs.FormTable.{read_of}
use Rattle.pdb_symbols.specs.Kinds.{row}
use Rattle.pdb_symbols.specs.Parts.{offset_at, name_at}
use Rattle.tool_search.specs.FindTexts.{Finding, global_line}
use Rattle.tool_search.specs.PlacedRecords.{data_placed, placed_at, public_placed}

less : (m n l : ℕ) → m ≤ n → leb m l ≡ false → leb n l ≡ false
less m n l h e = grind arith

-- ---- public symbols

public_by : (x86 : Bool) (f : Finding) (b : List ℕ) (s t u : Bool) (name : Result (List ℕ) Error) → leb 6 (length b) ≡ s → leb 10 (length b) ≡ t → leb 12 (length b) ≡ u → cstring_at b 12 ≡ name → global_line x86 f (fields_at (row 0x110e) 0x110e b) ≡ public_placed x86 f (placed_at b)
unfolding read_of offset_at number_at name_at
public_by x86 f b false t u name p q r n = let z = less 6 12 (length b) (omega arith) p in rw (p, z) refl
public_by x86 f b true false u name p q r n = let z = less 10 12 (length b) (omega arith) q in rw (p, q, z) refl
public_by x86 f b true true false name p q r n = rw (p, q, r) refl
public_by x86 f b true true true (Ok name) p q r n = rw (p, q, r, n) refl
public_by x86 f b true true true (Err e) p q r n = rw (p, q, r, n) refl

pub public_read : (x86 : Bool) (f : Finding) (b : List ℕ) → kind_at b ≡ 0x110e → global_line x86 f (record_at b) ≡ public_placed x86 f (placed_at b)
public_read x86 f b e = ap (λ (k : ℕ). global_line x86 f (fields_at (row k) k b)) e ∙ public_by x86 f b _ _ _ _ refl refl refl refl

-- ---- data

data_by : (x86 : Bool) (f : Finding) (b : List ℕ) (s t u : Bool) (name : Result (List ℕ) Error) → leb 6 (length b) ≡ s → leb 10 (length b) ≡ t → leb 12 (length b) ≡ u → cstring_at b 12 ≡ name → global_line x86 f (fields_at (row 0x110d) 0x110d b) ≡ data_placed (codes "data") f (placed_at b)
unfolding read_of offset_at number_at name_at
data_by x86 f b false t u name p q r n = let z = less 6 12 (length b) (omega arith) p in rw (p, z) refl
data_by x86 f b true false u name p q r n = let z = less 10 12 (length b) (omega arith) q in rw (p, q, z) refl
data_by x86 f b true true false name p q r n = rw (p, q, r) refl
data_by x86 f b true true true (Ok name) p q r n = rw (p, q, r, n) refl
data_by x86 f b true true true (Err e) p q r n = rw (p, q, r, n) refl

pub data_read : (x86 : Bool) (f : Finding) (b : List ℕ) → kind_at b ≡ 0x110d → global_line x86 f (record_at b) ≡ data_placed (codes "data") f (placed_at b)
data_read x86 f b e = ap (λ (k : ℕ). global_line x86 f (fields_at (row k) k b)) e ∙ data_by x86 f b _ _ _ _ refl refl refl refl

-- ---- data of threads

thread_by : (x86 : Bool) (f : Finding) (b : List ℕ) (s t u : Bool) (name : Result (List ℕ) Error) → leb 6 (length b) ≡ s → leb 10 (length b) ≡ t → leb 12 (length b) ≡ u → cstring_at b 12 ≡ name → global_line x86 f (fields_at (row 0x1113) 0x1113 b) ≡ data_placed (codes "thread") f (placed_at b)
unfolding read_of offset_at number_at name_at
thread_by x86 f b false t u name p q r n = let z = less 6 12 (length b) (omega arith) p in rw (p, z) refl
thread_by x86 f b true false u name p q r n = let z = less 10 12 (length b) (omega arith) q in rw (p, q, z) refl
thread_by x86 f b true true false name p q r n = rw (p, q, r) refl
thread_by x86 f b true true true (Ok name) p q r n = rw (p, q, r, n) refl
thread_by x86 f b true true true (Err e) p q r n = rw (p, q, r, n) refl

pub thread_read : (x86 : Bool) (f : Finding) (b : List ℕ) → kind_at b ≡ 0x1113 → global_line x86 f (record_at b) ≡ data_placed (codes "thread") f (placed_at b)
thread_read x86 f b e = ap (λ (k : ℕ). global_line x86 f (fields_at (row k) k b)) e ∙ thread_by x86 f b _ _ _ _ refl refl refl refl
