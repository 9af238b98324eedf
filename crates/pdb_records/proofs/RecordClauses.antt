-- The clauses of parsing, from what is read.
use Rattle.std.proofs.Common.{◌≡◌, ℕ, List, None, Result, Ok, Err, inl, inr}
use Rattle.std.specs.Prelude.{◌↔◌, IfOk, IfErr, IsOkAnd, IsErrOf}
use Rattle.pdb_base.specs.declared.error.Error.{Error}
use Rattle.pdb_base.specs.declared.error.Error.TheVariants.{UnimplementedSymbolKind}
use Rattle.pdb_base.specs.Refusal.{Answers}
use Rattle.pdb_symbols.specs.Forms.{kind_at}
use Rattle.pdb_records.specs.declared.record.Record.{Record}
use Rattle.pdb_records.specs.RecordRows.{record_row}
use Rattle.pdb_records.specs.RecordSays.{Says}
use Rattle.pdb_records.specs.RecordReading.{SaysOf, RecordRefusal, further_at}
use Rattle.pdb_records.specs.RecordViews.{shown_record}
use Rattle.pdb_records.proofs.RecordReadings.{further_says, says_further, further_refused, no_further_row}

abbrev pub Read : Result Record Error → List ℕ → Type 0
Read r b = Answers shown_record r (further_at b)

pub found_of : (r : Result Record Error) (b : List ℕ) → Read r b → IfOk r (λ x. SaysOf b (shown_record x))
found_of (Ok x) b h = further_says b (shown_record x) h
found_of (Err e) b h = tt

pub only_of : (r : Result Record Error) (b : List ℕ) → Read r b → (d : Says) → SaysOf b d → IsOkAnd r (λ x. shown_record x ≡ d)
only_of (Ok x) b h d says = let e = says_further b d says in cc
only_of (Err e) b h d says = let q = says_further b d says in let p = h.0 in absurd cc

kind_refusal : (b : List ℕ) (e : Error) (k : ℕ) → e ≡ UnimplementedSymbolKind k → RecordRefusal b e → (record_row (kind_at b) ≡ None) × (k ≡ kind_at b)
kind_refusal b e k q (inl h) = absurd cc
kind_refusal b e k q (inr h) = let p = h.1 in (h.0, cc)

pub kind_clause : (r : Result Record Error) (b : List ℕ) → Read r b → (k : ℕ) → IsErrOf r (UnimplementedSymbolKind k) ↔ ((record_row (kind_at b) ≡ None) × (k ≡ kind_at b))
kind_clause (Ok x) b h k = (λ q. absurd cc, λ p. let q = no_further_row b p.0 in absurd cc)
kind_clause (Err e) b h k = (λ q. kind_refusal b e k (cc) (further_refused b e h.0), λ p. let q = no_further_row b p.0 in let t = h.0 in let s = p.1 in cc)

pub refused_of : (r : Result Record Error) (b : List ℕ) → Read r b → IfErr r (λ e. RecordRefusal b e)
refused_of (Ok x) b h = tt
refused_of (Err e) b h = further_refused b e h.0
