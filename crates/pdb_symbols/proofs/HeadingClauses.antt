-- The clauses of what heads a record, from what is read.
use Rattle.std.proofs.Common.{◌≡◌, List, ℕ, [], ◌∷◌, Result, Ok, Err, inl, inr}
use Rattle.std.specs.Prelude.{IfErr, IsTrue}
use Rattle.pdb_base.specs.declared.error.Error.{Error}
use Rattle.pdb_base.specs.declared.error.Error.TheVariants.{IoError, OutOfMemory}
use Rattle.pdb_base.specs.Refusal.{◌>>=◌, Fails, Gives}
use Rattle.pdb_symbols.specs.declared.heading.Heading.{Heading}
use Rattle.pdb_symbols.specs.Data.{Data}
use Rattle.pdb_symbols.specs.Forms.{kind_at, TakesMemory, record_at}
use Rattle.pdb_symbols.specs.Headings.{title_of, heading_at, shown_heading}
use Rattle.pdb_symbols.specs.Kinds.{is_in, row}
use Rattle.pdb_symbols.specs.Memory.{Parses}
use Rattle.pdb_symbols.proofs.Clauses.{fails_of}
use Rattle.pdb_symbols.proofs.ScopeLaws.{wants_are}

-- what reading a heading answers
abbrev pub Headed : Result Heading Error → List ℕ → Type 0
Headed r b = Parses (TakesMemory (row (kind_at b))) shown_heading r (heading_at b)

refused_alike : (r : Result Data Error) (e : Error) → (r >>= (λ d. Ok (title_of d))) ≡ Err e → r ≡ Err e
refused_alike (Ok d) e h = absurd cc
refused_alike (Err x) e h = cc

pub heading_reads : (r : Result Heading Error) (b : List ℕ) → Headed r b → Gives shown_heading ⊥ r (heading_at b)
heading_reads (Ok x) b h = h
heading_reads (Err e) b (inl h) = refusal e h.0
  where
    refusal : (e : Error) → heading_at b ≡ Err e → Fails ⊥ e (heading_at b)
    refusal IoError q = fails_of b IoError (refused_alike (record_at b) IoError q)
    refusal OutOfMemory q = tt
    refusal e q = q
heading_reads (Err e) b (inr h) = rw h.1 tt

pub heading_memory : (r : Result Heading Error) (b : List ℕ) → Headed r b → IfErr r (λ e. e ≡ OutOfMemory → IsTrue (is_in (0x110a ∷ 0x1005 ∷ 0x1117 ∷ 0x1014 ∷ []) (kind_at b)))
heading_memory (Ok x) b h = tt
heading_memory (Err e) b (inl h) = λ q. absurd (h.1 q)
heading_memory (Err e) b (inr h) = λ q. wants_are (kind_at b) h.0
