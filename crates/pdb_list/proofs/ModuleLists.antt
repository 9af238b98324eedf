-- The texts of modules by the list that is kept.
use Rattle.std.proofs.Common.{◌≡◌, ℕ, List, Result, Err, ap}
use Rattle.pdb.specs.Error.{Error}
use Rattle.pdb.specs.Left.{Left}
use Rattle.pdb.specs.Modules.{ModuleEntry, modules_in}
use Rattle.pdb.specs.ModuleStream.{ModuleBytes}
use Rattle.pdb.specs.Refusal.{◌>>=◌}
use Rattle.pdb.specs.Answers.{debug_information_in, info_listed, item_at, module_listed, module_of_file}
use Rattle.pdb.specs.Listed.{Listed, listed}
use Rattle.pdb_list.specs.ModuleTexts.{module_text, text_of_module}
use Rattle.pdb_list.specs.Texts.{error_text, told}
use Rattle.pdb_list.specs.Chosen.{IsListOf, info_at}

-- the stream of a module by the list that is kept is that by the file
pub info_of_list : (file : List ℕ) (l : Listed) (k : ℕ) → IsListOf file l → module_of_file file k ≡ info_at file k (listed l)
unfolding module_of_file module_listed info_at
info_of_list file l k h = ap (λ (left : Result (Left ModuleEntry) Error). left >>= item_at k >>= info_listed file) h

-- where the list of a file is refused, so is each text of a module
pub text_refused : (file : List ℕ) (k : ℕ) (text : ModuleBytes → List ℕ) (e : Error) → (debug_information_in file >>= modules_in) ≡ Err e → module_text file k text ≡ error_text e
unfolding module_of_file module_listed
text_refused file k text e h = ap (λ (left : Result (Left ModuleEntry) Error). told (left >>= item_at k >>= info_listed file) (text_of_module text)) h
