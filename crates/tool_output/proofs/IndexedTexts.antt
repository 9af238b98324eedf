-- The texts of modules by their indices: of a list that was read, and of one that is refused.
use Rattle.std.proofs.Common.{◌≡◌, ℕ, List, flat_map, Result, Ok, Err, ap}
use Rattle.pdb.specs.Error.{Error}
use Rattle.pdb.specs.Refusal.{◌>>=◌}
use Rattle.pdb.specs.Left.{Left}
use Rattle.pdb.specs.Modules.{ModuleEntry, modules_in}
use Rattle.pdb.specs.ModuleStream.{ModuleBytes}
use Rattle.pdb.specs.Answers.{debug_information_in}
use Rattle.tool_output.specs.ErrorObjects.{error_of, told_of}
use Rattle.tool_output.specs.ModuleTexts.{are_several, module_in, indexed_listed}
use Rattle.tool_arguments.specs.declared.options.OutputFormat.{OutputFormat}

pub places_listed : (format : OutputFormat) (text : ℕ → ModuleBytes → List ℕ) (file : List ℕ) (left : Left ModuleEntry) (ks : List ℕ) → (debug_information_in file >>= modules_in) ≡ Ok left
    → indexed_listed format text file ks ≡ flat_map (module_in format (are_several ks) text file left) ks
places_listed format text file left ks h = ap (λ (r : Result (Left ModuleEntry) Error). flat_map (λ k. told_of format k r (λ l. module_in format (are_several ks) text file l k)) ks) h

pub places_refused : (format : OutputFormat) (text : ℕ → ModuleBytes → List ℕ) (file : List ℕ) (e : Error) (ks : List ℕ) → (debug_information_in file >>= modules_in) ≡ Err e
    → indexed_listed format text file ks ≡ flat_map (λ k. error_of format k e) ks
places_refused format text file e ks h = ap (λ (r : Result (Left ModuleEntry) Error). flat_map (λ k. told_of format k r (λ l. module_in format (are_several ks) text file l k)) ks) h
