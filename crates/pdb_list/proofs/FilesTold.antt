-- The text of a module's files by its line program is that by its files.
use Rattle.std.proofs.Common.{◌≡◌, ℕ, List, Result, Ok, Err, refl, ap, ◌∙◌}
use Rattle.pdb.specs.Error.{Error}
use Rattle.pdb.specs.Left.{Left}
use Rattle.pdb.specs.Refusal.{◌>>=◌}
use Rattle.pdb.specs.Files.{FileOf, files_of}
use Rattle.pdb.specs.LineProgram.{ProgramOf}
use Rattle.pdb.specs.ModuleStream.{ModuleBytes, line_program_of, module_files_of}
use Rattle.pdb_list.specs.ModuleTexts.{file_list_text, files_of_text}
use Rattle.pdb_list.specs.Texts.{told}

same : (r : Result ProgramOf Error) → told r (λ p. file_list_text (files_of p.checksums)) ≡ told (r >>= λ p. Ok (files_of p.checksums)) file_list_text
same (Ok p) = refl
same (Err e) = refl

pub files_told : (m : ModuleBytes) (r : Result (Left FileOf) Error) → module_files_of m ≡ r → files_of_text m ≡ told r file_list_text
unfolding files_of_text module_files_of
files_told m r is = same (line_program_of m) ∙ ap (λ (r : Result (Left FileOf) Error). told r file_list_text) is
