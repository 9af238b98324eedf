-- The text of a module's files by its line program is that by its files.
use Rattle.std.proofs.Common.{◌≡◌, ℕ, List, Option, Result, Ok, Err, refl, ap, ◌∙◌}
use Rattle.pdb.specs.Error.{Error}
use Rattle.pdb.specs.Left.{Left}
use Rattle.pdb.specs.Refusal.{◌>>=◌}
use Rattle.pdb.specs.Files.{FileOf, files_of}
use Rattle.pdb.specs.LineProgram.{ProgramOf}
use Rattle.pdb.specs.ModuleStream.{ModuleBytes, line_program_of, module_files_of}
use Rattle.tool_arguments.specs.declared.options.OutputFormat.{OutputFormat}
use Rattle.tool_output.specs.ErrorObjects.{told_of}
use Rattle.tool_search.specs.SourceTexts.{source_lines, sources_text}

module _ (format : OutputFormat) (k : ℕ) (strings : Option (List ℕ)) where
  same : (r : Result ProgramOf Error) → told_of format k r (λ p. source_lines format k strings (files_of p.checksums)) ≡ told_of format k (r >>= λ p. Ok (files_of p.checksums)) (source_lines format k strings)
  same (Ok p) = refl
  same (Err e) = refl

  pub sources_told : (m : ModuleBytes) (r : Result (Left FileOf) Error) → module_files_of m ≡ r → sources_text format k strings m ≡ told_of format k r (source_lines format k strings)
  unfolding sources_text module_files_of
  sources_told m r is = same (line_program_of m) ∙ ap (λ (r : Result (Left FileOf) Error). told_of format k r (source_lines format k strings)) is
