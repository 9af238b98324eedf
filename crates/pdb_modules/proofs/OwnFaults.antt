-- Faults of blocks of lines: they are the bytes' own, neither out of memory nor a failure of the source.
use Rattle.std.proofs.Common.{◌≡◌, ◌≢◌, ℕ, ◌+◌, ◌-◌, ◌*◌, Bool, true, false, cond, List, [], ◌∷◌, length, take, drop, Option, Some, None, Result, Ok, Err, sym, ◌∙◌}
use Rattle.std.specs.Prelude.{nat_le, nat_lt}
use Rattle.std.specs.Option.{ForSome}
use Rattle.pdb_base.specs.declared.error.Error.{Error}
use Rattle.pdb_base.specs.declared.error.Error.TheVariants.{UnexpectedEof, InvalidStreamLength, IoError, OutOfMemory}
use Rattle.pdb_base.specs.declared.error.Part.TheVariants.{LinesBlock}
use Rattle.pdb_base.specs.Fields.{number, bytes_at}
use Rattle.pdb_base.specs.Reading.{refusal}
use Rattle.pdb_base.specs.Refusal.{◌>>=◌}
use Rattle.pdb_base.specs.Tiling.{end_of, tiling, listing}
use Rattle.pdb_modules.specs.declared.line_program.Listed.{Listed}
use Rattle.pdb_modules.specs.Blocks.{entry_width, block_in, block_behind, block_at, blocks, blocks_from}
use Rattle.pdb_modules.specs.Lines.{first_of, program_fault, lines_of}
use Rattle.pdb_modules.specs.KeptRows.{subsection_of}
use Rattle.pdb_modules.specs.LineProgram.{listed_subsections}
use Rattle.pdb_modules.proofs.Faults.{fault_of_lines}

-- a fault that the bytes have by themselves
abbrev pub IsOwn : Error → Type 0
IsOwn e = (e ≢ OutOfMemory) × (e ≢ IoError)

-- whatever refuses a reading is such a one
abbrev pub RefusedOwn : {A : Type 0} → Result A Error → Type 0
RefusedOwn (Ok x) = Unit {0}
RefusedOwn (Err e) = IsOwn e

eof_own : IsOwn UnexpectedEof
eof_own = (λ e. absurd cc, λ e. absurd cc)

block_own : IsOwn (InvalidStreamLength LinesBlock)
block_own = (λ e. absurd cc, λ e. absurd cc)

then_own : {A B : Type 0} (r : Result A Error) (f : A → Result B Error) → RefusedOwn r → ((x : A) → RefusedOwn (f x)) → RefusedOwn (r >>= f)
then_own (Ok x) f h g = g x
then_own (Err e) f h g = h

unless_own : {A : Type 0} (t : Bool) (e : Error) (r : Result A Error) → IsOwn e → RefusedOwn r → RefusedOwn (cond t (Err e) r)
unless_own true e r h g = h
unless_own false e r h g = g

there_own : {A : Type 0} (t : Bool) (x : A) → RefusedOwn (cond t (Ok x) (Err UnexpectedEof))
there_own true x = tt
there_own false x = eof_own

bytes_own : (b : List ℕ) (p n : ℕ) → RefusedOwn (bytes_at b p n)
unfolding bytes_at
bytes_own b p n = there_own (nat_le (p + n) (length b)) (take n (drop p b))

in_own : (columns : Bool) (header body : List ℕ) → RefusedOwn (block_in columns header body)
in_own columns header body = unless_own (nat_lt (length body) (number header 4 4 * entry_width columns)) (InvalidStreamLength LinesBlock) _ block_own tt

behind_own : (columns : Bool) (b : List ℕ) (p : ℕ) (header : List ℕ) → RefusedOwn (block_behind columns b p header)
behind_own columns b p header =
    unless_own (nat_lt (number header 8 4) 12) (InvalidStreamLength LinesBlock) _ block_own
    (then_own (bytes_at b (p + 12) (number header 8 4 - 12)) (block_in columns header) (bytes_own b (p + 12) (number header 8 4 - 12)) (in_own columns header))

at_own : (columns : Bool) (b : List ℕ) (p : ℕ) → RefusedOwn (block_at columns b p)
unfolding block_at
at_own columns b p = then_own (bytes_at b p 12) (block_behind columns b p) (bytes_own b p 12) (behind_own columns b p)

refusal_own : {A : Type 0} (t : Bool) (r : Result A Error) → RefusedOwn r → ForSome (cond t (refusal r) None) IsOwn
refusal_own true (Ok x) h = λ e is. absurd cc
refusal_own true (Err d) h = λ e is. let same : d ≡ e = cc in rw (← same) h
refusal_own false r h = λ e is. absurd cc

blocks_own : (columns : Bool) (b : List ℕ) (p : ℕ) → ForSome (blocks_from columns b p).fault IsOwn
unfolding blocks_from listing
blocks_own columns b p =
    let q = end_of p (tiling (blocks columns) b p) in
    refusal_own (nat_lt q (length b)) (block_at columns b q) (at_own columns b q)

first_own : (f g : Option Error) → ForSome f IsOwn → ForSome g IsOwn → ForSome (first_of f g) IsOwn
first_own None g h k = k
first_own (Some e) g h k = h

program_own : (ls : List Listed) → ForSome (program_fault (listed_subsections ls)) IsOwn
program_own [] = λ e is. absurd cc
program_own (l ∷ ls) =
    first_own (subsection_of l.part).fault (program_fault (listed_subsections ls)) (blocks_own l.part.has_columns l.part.bytes.now 0) (program_own ls)

same_own : (f g : Option Error) → f ≡ g → ForSome g IsOwn → ForSome f IsOwn
same_own f g e h = rw e h

-- the fault of all subsections
pub told_own : (ls : List Listed) (f : Option Error) → f ≡ (lines_of (listed_subsections ls)).fault → ForSome f IsOwn
told_own ls f e = same_own f (program_fault (listed_subsections ls)) (e ∙ sym (fault_of_lines (listed_subsections ls))) (program_own ls)

-- the fault of one
pub part_own : (l : Listed) (f : Option Error) → f ≡ (subsection_of l.part).fault → ForSome f IsOwn
part_own l f e = same_own f (subsection_of l.part).fault e (blocks_own l.part.has_columns l.part.bytes.now 0)
