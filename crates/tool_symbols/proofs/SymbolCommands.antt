-- The symbols of some modules, and the global ones.
use Rattle.std.proofs.Common.{◌≡◌, ℕ, List, [], ◌∷◌, arith, length, refl}
use Rattle.std.proofs.lemmas.Grind.{common_steps}
use Rattle.tool_output.specs.ModuleTexts.{indexed_text}
use Rattle.tool_symbols.specs.SymbolCommands.{symbols_command, symbols_in}
use Rattle.tool_arguments.specs.declared.options.OutputFormat.TheVariants.{Text}

pub some_symbols : (file ks : List ℕ) (k : ℕ) (rest : List ℕ) → ks ≡ k ∷ rest → symbols_command file ks ≡ indexed_text Text (symbols_in file) file ks
some_symbols file ks k rest e = rw e refl

pub no_symbols : (file ks : List ℕ) → length ks ≡ 0 → symbols_command file ks ≡ symbols_command file []
no_symbols file [] e = refl
no_symbols file (k ∷ ks) e = absurd (grind (arith, common_steps, e))
