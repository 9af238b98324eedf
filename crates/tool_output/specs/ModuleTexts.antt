-- Texts of the modules of a file, one after another.
use Rattle.std.specs.Prelude.{ℕ, ◌+◌, nat_lt, Bool, false, not, ◌==◌, count_by, if◌then◌else◌, List, [], ◌∷◌, ◌++◌, length, codes, flat_map, Option, Some, None, Result, Ok, Err}
use Rattle.std.specs.Fmt.{decimal}
use Rattle.pdb.specs.Error.{Error}
use Rattle.pdb.specs.Refusal.{◌>>=◌}
use Rattle.pdb.specs.Left.{Left}
use Rattle.pdb.specs.Modules.{ModuleEntry, modules_in}
use Rattle.pdb.specs.ModuleStream.{ModuleBytes}
use Rattle.pdb.specs.Answers.{debug_information_in, item_at, module_info_in}
use Rattle.pdb_resolve.specs.AcrossModules.{global_id_in}
use Rattle.tool_output.specs.Absent.{if_there, lacks}
use Rattle.tool_output.specs.ErrorObjects.{error_of, fault_in, none_of, told_in, told_of}
use Rattle.tool_fields.specs.Values.{behind_blank}
use Rattle.tool_arguments.specs.declared.options.OutputFormat.{OutputFormat}
use Rattle.tool_arguments.specs.declared.options.OutputFormat.TheVariants.{Text, Json as Objects}

-- the text of a module; another where none is there
abbrev pub there_text : (ModuleBytes → List ℕ) → List ℕ → Option ModuleBytes → List ℕ
there_text text missing None = missing
there_text text missing (Some m) = text m

-- a text that is by the ids that the whole file knows, of module k of a file
abbrev pub in_file : ((ℕ → Option ℕ) → ℕ → ModuleBytes → List ℕ) → List ℕ → ℕ → ModuleBytes → List ℕ
in_file text file k m = text (global_id_in file m) k m

-- the line that names a module, by its index in the list
unfoldable pub module_line : ℕ → ModuleEntry → List ℕ
module_line k m = codes "module " ++ decimal k ++ behind_blank m.module_name ++ codes "\n"

-- it stands in a text, where more than one module is told: an object says itself of which module it is
abbrev pub line_if : OutputFormat → Bool → ℕ → ModuleEntry → List ℕ
line_if Text several k m = if several then module_line k m else []
line_if Objects several k m = []

-- of a module that the list has, or hasn't: `none` where it hasn't, or the module has no stream
abbrev pub entry_text : OutputFormat → Bool → (ℕ → ModuleBytes → List ℕ) → List ℕ → ℕ → Option ModuleEntry → List ℕ
entry_text format several text file k None = none_of format k
entry_text format several text file k (Some m) = line_if format several k m ++ told_of format k (module_info_in file m) (there_text (text k) (none_of format k))

-- of the module of this index in a list
abbrev pub module_in : OutputFormat → Bool → (ℕ → ModuleBytes → List ℕ) → List ℕ → Left ModuleEntry → ℕ → List ℕ
module_in format several text file left k = told_of format k (item_at k left) (entry_text format several text file k)

-- and in that of the file
abbrev pub place_text : OutputFormat → Bool → (ℕ → ModuleBytes → List ℕ) → List ℕ → ℕ → List ℕ
place_text format several text file k = told_of format k (debug_information_in file >>= modules_in) (λ left. module_in format several text file left k)

-- of module k behind the line that names it; nothing where it has no stream
abbrev pub headed_text : OutputFormat → List ℕ → (ℕ → ModuleBytes → List ℕ) → ℕ → Result (Option ModuleBytes) Error → List ℕ
headed_text format line text k (Ok None) = []
headed_text format line text k (Ok (Some m)) = line ++ text k m
headed_text format line text k (Err e) = line ++ error_of format k e

-- of a module of the list
unfoldable pub listed_text : OutputFormat → Bool → (ℕ → ModuleBytes → List ℕ) → List ℕ → ℕ → ModuleEntry → List ℕ
listed_text format several text file k m = headed_text format (line_if format several k m) text k (module_info_in file m)

-- of modules of which the first has this index
abbrev pub listed_texts : OutputFormat → Bool → (ℕ → ModuleBytes → List ℕ) → List ℕ → ℕ → List ModuleEntry → List ℕ
listed_texts format several text file k [] = []
listed_texts format several text file k (m ∷ ms) = listed_text format several text file k m ++ listed_texts format several text file (k + 1) ms

-- of all modules of the list from this index on, and then the line of its fault
abbrev pub list_text : OutputFormat → Bool → (ℕ → ModuleBytes → List ℕ) → List ℕ → ℕ → Left ModuleEntry → List ℕ
list_text format several text file k left = listed_texts format several text file k left.items ++ fault_in format left.fault

-- a module has a stream, and so is told
abbrev pub has_stream : ModuleEntry → Bool
has_stream m = not (m.stream == 65535)

-- more than one of these modules is told
abbrev pub tell_several : List ModuleEntry → Bool
tell_several ms = nat_lt 1 (count_by has_stream ms)

abbrev pub several_in : Result (Left ModuleEntry) Error → Bool
several_in (Ok left) = tell_several left.items
several_in (Err e) = false

abbrev pub whole_text : OutputFormat → (ℕ → ModuleBytes → List ℕ) → List ℕ → Left ModuleEntry → List ℕ
whole_text format text file left = list_text format (tell_several left.items) text file 0 left

-- of all, where the file has debug information
unfoldable pub all_listed : OutputFormat → (ℕ → ModuleBytes → List ℕ) → List ℕ → List ℕ
all_listed format text file = told_in format (debug_information_in file >>= modules_in) (whole_text format text file)

unfoldable pub all_text : OutputFormat → (ℕ → ModuleBytes → List ℕ) → List ℕ → List ℕ
all_text format text file = if_there file 3 (all_listed format text file)

-- the same without lines that name modules
unfoldable pub plain_listed : OutputFormat → (ℕ → ModuleBytes → List ℕ) → List ℕ → List ℕ
plain_listed format text file = told_in format (debug_information_in file >>= modules_in) (list_text format false text file 0)

unfoldable pub plain_text : OutputFormat → (ℕ → ModuleBytes → List ℕ) → List ℕ → List ℕ
plain_text format text file = if_there file 3 (plain_listed format text file)

-- more than one number
abbrev pub are_several : List ℕ → Bool
are_several ks = nat_lt 1 (length ks)

-- of the modules of these numbers, where the file has debug information
abbrev pub indexed_listed : OutputFormat → (ℕ → ModuleBytes → List ℕ) → List ℕ → List ℕ → List ℕ
indexed_listed format text file ks = flat_map (place_text format (are_several ks) text file) ks

-- without it none is there
unfoldable pub indexed_text : OutputFormat → (ℕ → ModuleBytes → List ℕ) → List ℕ → List ℕ → List ℕ
indexed_text format text file ks = if lacks file 3 then flat_map (none_of format) ks else indexed_listed format text file ks

-- of all where there is no number
abbrev pub modules_text : OutputFormat → (ℕ → ModuleBytes → List ℕ) → List ℕ → List ℕ → List ℕ
modules_text format text file [] = all_text format text file
modules_text format text file (k ∷ ks) = indexed_text format text file (k ∷ ks)
