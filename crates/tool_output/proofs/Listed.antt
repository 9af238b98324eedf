-- The texts of a list of modules.
use Rattle.std.proofs.Common.{◌≡◌, ℕ, Bool, ◌+◌, List, [], ◌∷◌, ◌++◌, Some, refl, append_assoc}
use Rattle.pdb.specs.Left.{Left, Follows, Ends}
use Rattle.pdb.specs.Error.{Error}
use Rattle.pdb.specs.Modules.{ModuleEntry}
use Rattle.pdb.specs.ModuleStream.{ModuleBytes}
use Rattle.tool_output.specs.ErrorObjects.{error_in, fault_in}
use Rattle.tool_output.specs.ModuleTexts.{list_text, listed_text, listed_texts}
use Rattle.tool_arguments.specs.declared.options.OutputFormat.{OutputFormat}

pub next_listed : (format : OutputFormat) (several : Bool) (text : ℕ → ModuleBytes → List ℕ) (file : List ℕ) (k : ℕ) (old new : Left ModuleEntry) (m : ModuleEntry) → Follows old (m ∷ []) new → list_text format several text file k old ≡ listed_text format several text file k m ++ list_text format several text file (k + 1) new
next_listed format several text file k old new m h = rw (h.0, h.1) (append_assoc (listed_text format several text file k m) (listed_texts format several text file (k + 1) new.items) (fault_in format new.fault))

pub fault_listed : (format : OutputFormat) (several : Bool) (text : ℕ → ModuleBytes → List ℕ) (file : List ℕ) (k : ℕ) (old new : Left ModuleEntry) (e : Error) → Ends old [] (Some e) new → list_text format several text file k old ≡ error_in format e
fault_listed format several text file k old new e h = rw (h.0, h.1) refl
