-- What a line program answers, by what its parts answer.
use Rattle.std.proofs.Common.{◌≡◌, ℕ, nat_lt, cond, List, Ok, Err, Result, refl, ap, sym, subst, ◌∙◌}
use Rattle.std.specs.Prelude.{IfOk, IfErr}
use Rattle.pdb_base.specs.declared.error.Error.{Error}
use Rattle.pdb_base.specs.declared.error.Error.TheVariants.{IoError, OutOfMemory, UnimplementedFeature}
use Rattle.pdb_base.specs.declared.error.Feature.TheVariants.{C11LinePrograms}
use Rattle.pdb_base.specs.Refusal.{Fails, Gives, ◌>>=◌}
use Rattle.pdb_modules.specs.ProgramParts.{PartsOf, parts_of, checksums_in}
use Rattle.pdb_modules.specs.LineProgram.{ProgramOf, program_of}
use Rattle.pdb_modules.specs.ModuleStream.{ModuleBytes, checksums_of, line_program_of, lines_data_of}

-- a refusal of what is read first is the refusal of it all
pub fails_first : {A B : Type 0} (e : Error) (r : Result A Error) (f : A → Result B Error) → Fails ⊥ e r → Fails ⊥ e (r >>= f)
fails_first IoError r f h = h
fails_first OutOfMemory r f h = tt
fails_first {A = A} e r f h = ap (λ (r : Result A Error). r >>= f) h

abbrev made_of : List ℕ → PartsOf → ProgramOf
made_of b ps = record { subsections = ps.subsections; checksums = ps.checksums; bytes = b }

pub program_fails : (b : List ℕ) (e : Error) → Fails ⊥ e (parts_of b) → Fails ⊥ e (program_of b)
unfolding program_of
program_fails b e h = fails_first e (parts_of b) (λ ps. Ok (made_of b ps)) h

memory_fails : (e : Error) (r : Result ProgramOf Error) → e ≡ OutOfMemory → Fails ⊥ e r
memory_fails e r is = subst (λ (e : Error). Fails ⊥ e r) (sym is) tt

-- the program of these parts, or out of memory
pub program_gives : (b : List ℕ) (ps : PartsOf) (r : Result ProgramOf Error) → parts_of b ≡ Ok ps → IfOk r (λ p. p ≡ made_of b ps) → IfErr r (λ e. e ≡ OutOfMemory) → Gives (λ (p : ProgramOf). p) ⊥ r (program_of b)
unfolding program_of
program_gives b ps (Ok p) parts is refused = ap (λ (r : Result PartsOf Error). r >>= (λ ps. Ok (made_of b ps))) parts ∙ ap Ok (sym is)
program_gives b ps (Err e) parts is refused = memory_fails e (program_of b) refused

-- the checksums of the lines data are those of the program
pub checksums_told : (b : List ℕ) → (program_of b >>= λ p. Ok p.checksums) ≡ checksums_in b
unfolding program_of checksums_in
checksums_told b = through (parts_of b)
  where
    through : (r : Result PartsOf Error) → ((r >>= λ ps. Ok (made_of b ps)) >>= λ p. Ok p.checksums) ≡ (r >>= λ ps. Ok ps.checksums)
    through (Ok ps) = refl
    through (Err e) = refl

-- those of a module whose lines are of the newer form
pub checksums_behind : (m : ModuleBytes) (b : List ℕ) → m.lines_size ≡ 0 → lines_data_of m ≡ Ok b → checksums_of m ≡ checksums_in b
unfolding checksums_of line_program_of
checksums_behind m b newer is =
    ap (λ (size : ℕ). (cond (nat_lt 0 size) (Err (UnimplementedFeature C11LinePrograms)) (lines_data_of m >>= program_of)) >>= λ p. Ok p.checksums) newer
    ∙ (ap (λ (r : Result (List ℕ) Error). (r >>= program_of) >>= λ p. Ok p.checksums) is ∙ checksums_told b)
