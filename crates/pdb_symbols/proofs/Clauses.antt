-- The clauses of parsing, from what is read.
use Rattle.std.proofs.Common.{◌≡◌, ℕ, List, [], ◌∷◌, None, true, Result, Ok, Err, ◌⊎◌, inl, inr, ap, subst}
use Rattle.std.specs.Prelude.{◌↔◌, IfOk, IfErr, IsOkAnd, IsErrOf, IsTrue}
use Rattle.pdb_base.specs.declared.error.Error.{Error}
use Rattle.pdb_base.specs.declared.error.Error.TheVariants.{UnimplementedSymbolKind, UnexpectedNumericPrefix, IoError, OutOfMemory}
use Rattle.pdb_base.specs.Refusal.{Fails, Gives}
use Rattle.pdb_symbols.specs.declared.data.SymbolData.{SymbolData}
use Rattle.pdb_symbols.specs.Kinds.{is_in, row}
use Rattle.pdb_symbols.specs.Data.{Data, shown}
use Rattle.pdb_symbols.specs.Forms.{kind_at, Is, IsUnlistedPrefix, Refusal, TakesMemory, record_at}
use Rattle.pdb_symbols.specs.Memory.{Parses}
use Rattle.pdb_symbols.specs.Scopes.{starts_of, ends_of, StartsScope, EndsScope}
use Rattle.pdb_symbols.proofs.ScopeLaws.{starts_are, ends_are, wants_are}
use Rattle.pdb_symbols.proofs.Records.{record_is, is_record, record_refused, no_row, unlisted}

-- what parsing a record answers
abbrev pub Parsed : Result SymbolData Error → List ℕ → Type 0
Parsed r b = Parses (TakesMemory (row (kind_at b))) shown r (record_at b)

kind_refusal : (b : List ℕ) (e : Error) (k : ℕ) → e ≡ UnimplementedSymbolKind k → Refusal b e → (row (kind_at b) ≡ None) × (k ≡ kind_at b)
kind_refusal b e k q (inl h) = absurd cc
kind_refusal b e k q (inr (inl h)) = let p = h.1 in (h.0, cc)
kind_refusal b e k q (inr (inr h)) = let p = h.2 in absurd cc

prefix_refusal : (b : List ℕ) (e : Error) (n : ℕ) → e ≡ UnexpectedNumericPrefix n → Refusal b e → IsUnlistedPrefix b n
prefix_refusal b e n q (inl h) = absurd cc
prefix_refusal b e n q (inr (inl h)) = let p = h.1 in absurd cc
prefix_refusal b e n q (inr (inr h)) = let p = h.2 in let same : h.0 ≡ n = cc in subst (λ m. IsUnlistedPrefix b m) same h.1

-- no record is refused by its source
pub fails_of : (b : List ℕ) (e : Error) → record_at b ≡ Err e → Fails ⊥ e (record_at b)
fails_of b IoError h = not_by_source (record_refused b IoError h)
  where
    not_by_source : Refusal b IoError → ⊥
    not_by_source (inl p) = absurd cc
    not_by_source (inr (inl p)) = let q = p.1 in absurd cc
    not_by_source (inr (inr p)) = let q = p.2 in absurd cc
fails_of b OutOfMemory h = tt
fails_of b e h = h

wanted : (b : List ℕ) (e : Error) → e ≡ OutOfMemory → Fails ⊥ e (record_at b)
wanted b e q = rw q tt

pub reads_of : (r : Result SymbolData Error) (b : List ℕ) → Parsed r b → Gives shown ⊥ r (record_at b)
reads_of (Ok x) b h = h
reads_of (Err e) b (inl h) = fails_of b e h.0
reads_of (Err e) b (inr h) = wanted b e h.1

pub found_of : (r : Result SymbolData Error) (b : List ℕ) → Parsed r b → IfOk r (λ d. Is b (shown d))
found_of (Ok x) b h = record_is b (shown x) h
found_of (Err e) b h = tt

pub only_of : (r : Result SymbolData Error) (b : List ℕ) → Parsed r b → (d : Data) → Is b d → IsOkAnd r (λ s. shown s ≡ d) ⊎ IsErrOf r OutOfMemory
only_of (Ok x) b h d says = let e = is_record b d says in inl cc
only_of (Err e) b (inl h) d says = let q = is_record b d says in let p = h.0 in absurd cc
only_of (Err e) b (inr h) d says = inr (ap Err h.1)

no_memory : (b : List ℕ) → row (kind_at b) ≡ None → TakesMemory (row (kind_at b)) → ⊥
no_memory b h w = subst TakesMemory h w

pub kind_clause : (r : Result SymbolData Error) (b : List ℕ) → Parsed r b → (k : ℕ) → IsErrOf r (UnimplementedSymbolKind k) ↔ ((row (kind_at b) ≡ None) × (k ≡ kind_at b))
kind_clause (Ok x) b h k = (λ q. absurd cc, λ p. let q = no_row b p.0 in absurd cc)
kind_clause (Err e) b (inl h) k = (λ q. kind_refusal b e k (cc) (record_refused b e h.0), λ p. let q = no_row b p.0 in let t = h.0 in let s = p.1 in cc)
kind_clause (Err e) b (inr h) k = (λ q. let t = h.1 in absurd cc, λ p. absurd (no_memory b p.0 h.0))

pub prefix_clause : (r : Result SymbolData Error) (b : List ℕ) → Parsed r b → (n : ℕ) → IsErrOf r (UnexpectedNumericPrefix n) ↔ IsUnlistedPrefix b n
prefix_clause (Ok x) b h n = (λ q. absurd cc, λ p. let q = unlisted b n p in absurd cc)
prefix_clause (Err e) b (inl h) n = (λ q. prefix_refusal b e n (cc) (record_refused b e h.0), λ p. let q = unlisted b n p in let t = h.0 in cc)
prefix_clause (Err e) b (inr h) n = (λ q. let t = h.1 in absurd cc, λ p. absurd (subst TakesMemory p.constant h.0))

pub refused_of : (r : Result SymbolData Error) (b : List ℕ) → Parsed r b → IfErr r (λ e. (e ≡ OutOfMemory) ⊎ Refusal b e)
refused_of (Ok x) b h = tt
refused_of (Err e) b (inl h) = inr (record_refused b e h.0)
refused_of (Err e) b (inr h) = inl h.1

pub memory_of : (r : Result SymbolData Error) (b : List ℕ) → Parsed r b → IfErr r (λ e. e ≡ OutOfMemory → IsTrue (is_in (0x110a ∷ 0x1005 ∷ 0x1117 ∷ 0x1014 ∷ []) (kind_at b)))
memory_of (Ok x) b h = tt
memory_of (Err e) b (inl h) = λ q. absurd (h.1 q)
memory_of (Err e) b (inr h) = λ q. wants_are (kind_at b) h.0

-- what a record says starts a scope, or ends one, by its kind
pub record_starts : (b : List ℕ) (d : Data) → record_at b ≡ Ok d → StartsScope d → starts_of (kind_at b) ≡ true
record_starts b d e h = starts_are b d (record_is b d e) h

pub record_ends : (b : List ℕ) (d : Data) → record_at b ≡ Ok d → EndsScope d → ends_of (kind_at b) ≡ true
record_ends b d e h = ends_are b d (record_is b d e) h
