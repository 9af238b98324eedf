use Rattle.std.proofs.Common.{◌≡◌, ℕ, List, [], ◌∷◌, length, refl, arith}
use Rattle.std.proofs.lemmas.Grind.{common_steps}
use Rattle.pdb.specs.ModuleStream.{ModuleBytes}
use Rattle.tool_output.specs.ModuleTexts.{in_file, modules_text, indexed_text}
use Rattle.tool_arguments.specs.declared.options.OutputFormat.{OutputFormat}
use Rattle.tool_printing.specs.Printing.{Prints, shown}
use Rattle.tool_output.proofs.file_modules.print_modules.Goals as goal

some_places : (P : List ℕ → Type 0) (format : OutputFormat) (text : ℕ → ModuleBytes → List ℕ) (file ks : List ℕ) → (length ks ≡ 0 → ⊥) → P (indexed_text format text file ks) → P (modules_text format text file ks)
some_places P format text file [] some h = absurd (some refl)
some_places P format text file (k ∷ ks) some h = h

pub returns-else-is_empty-clause-prints : goal.returns-else-is_empty-clause-prints
returns-else-is_empty-clause-prints g c = λ told.
    let some : length c.args.indices.now ≡ 0 → ⊥ = λ e. grind (arith, common_steps, e) in
    some_places (λ t. Prints (shown t) (g.P.Printer.state c.args.out.now) (g.P.Printer.state c.print_indexed.new.out) c.print_indexed.result) c.args.format (in_file (g.T.ModuleText.text c.args.texts.now) c.args.pdb.now.file) c.args.pdb.now.file c.args.indices.now some (c.print_indexed.ensures.prints told)
