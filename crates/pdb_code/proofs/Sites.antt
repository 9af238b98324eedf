-- A site's record says the function and the annotations that stand in it.
use Rattle.std.proofs.Common.{◌≡◌, ◌≤◌, ℕ, Bool, true, false, cond, List, length, drop, None, refl, ap, ◌∙◌, arith, leb}
use Rattle.pdb.specs.Fields.{number, number_at}
use Rattle.pdb.specs.Forms.{kind_at, record_at, fields_at}
use Rattle.pdb.specs.SymbolList.{Entry}
use Rattle.pdb_base.specs.Layouts.{together_at}
use Rattle.pdb_symbols.specs.Kinds.{row}
use Rattle.pdb_symbols.specs.FormTable.{read_of}
use Rattle.pdb_code.specs.ModuleCode.{other_of, other_of_role, procedure_of, procedure_of_role, role}
use Rattle.pdb_code.specs.ModuleCode.Role.{at_site, passed}
use Rattle.pdb_code.specs.Kept.{site_if, site_of, site_role}

less : (m n l : ℕ) → m ≤ n → leb m l ≡ false → leb n l ≡ false
less m n l h e = grind arith

-- without a count of invocations
site_by : (b : List ℕ) (s t u : Bool) → leb 6 (length b) ≡ s → leb 10 (length b) ≡ t → leb 14 (length b) ≡ u → role (fields_at (row 0x114d) 0x114d b) ≡ site_role 14 b
unfolding read_of together_at number_at
site_by b false t u p q r = let z = less 6 14 (length b) (omega arith) p in rw (p, z) refl
site_by b true false u p q r = let z = less 10 14 (length b) (omega arith) q in rw (p, q, z) refl
site_by b true true false p q r = rw (p, q, r) refl
site_by b true true true p q r = rw (p, q, r) refl

pub site_read : (b : List ℕ) → kind_at b ≡ 0x114d → role (record_at b) ≡ site_role 14 b
site_read b e = ap (λ (k : ℕ). role (fields_at (row k) k b)) e ∙ site_by b _ _ _ refl refl refl

-- with one
counted_by : (b : List ℕ) (s t u v : Bool) → leb 6 (length b) ≡ s → leb 10 (length b) ≡ t → leb 14 (length b) ≡ u → leb 18 (length b) ≡ v → role (fields_at (row 0x115d) 0x115d b) ≡ site_role 18 b
unfolding read_of together_at number_at
counted_by b false t u v p q r w = let z = less 6 18 (length b) (omega arith) p in rw (p, z) refl
counted_by b true false u v p q r w = let z = less 10 18 (length b) (omega arith) q in rw (p, q, z) refl
counted_by b true true false v p q r w = let z = less 14 18 (length b) (omega arith) r in rw (p, q, r, z) refl
counted_by b true true true false p q r w = rw (p, q, r, w) refl
counted_by b true true true true p q r w = rw (p, q, r, w) refl

pub counted_site_read : (b : List ℕ) → kind_at b ≡ 0x115d → role (record_at b) ≡ site_role 18 b
counted_site_read b e = ap (λ (k : ℕ). role (fields_at (row k) k b)) e ∙ counted_by b _ _ _ _ refl refl refl refl

-- ---- a site is no other code

module _ (s : Entry) (from : ℕ) (is : role (record_at s.bytes) ≡ site_role from s.bytes) where
  none_by : (t : Bool) → (procedure_of_role s.index (cond t (at_site (number s.bytes 10 4) (drop from s.bytes)) passed) ≡ None) × (other_of_role s.index (cond t (at_site (number s.bytes 10 4) (drop from s.bytes)) passed) ≡ None)
  none_by true = (refl, refl)
  none_by false = (refl, refl)

  pub site_no_procedure : procedure_of s ≡ None
  site_no_procedure = ap (procedure_of_role s.index) is ∙ (none_by (leb from (length s.bytes))).0

  pub site_no_other : other_of s ≡ None
  site_no_other = ap (other_of_role s.index) is ∙ (none_by (leb from (length s.bytes))).1

  pub site_is : site_of s ≡ site_if s (site_role from s.bytes)
  site_is = ap (site_if s) is
