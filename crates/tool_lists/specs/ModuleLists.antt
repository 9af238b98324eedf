-- The text of `modules`: the list of modules, and how many bytes of the image came from each.
use Rattle.std.specs.Prelude.{ℕ, ◌+◌, List, [], ◌∷◌, ◌++◌, ◌||◌, nat_le, if◌then◌else◌, codes}
use Rattle.std.specs.Str.{bytes_eq}
use Rattle.std.specs.Fmt.{decimal}
use Rattle.json.specs.Json.{Json, null, object, Members, no_members, member}
use Rattle.pdb.specs.Left.{Left}
use Rattle.pdb.specs.Contributions.{contributions_in}
use Rattle.pdb.specs.Modules.{ModuleEntry, modules_in}
use Rattle.pdb.specs.Answers.{debug_information_in}
use Rattle.pdb_text.specs.OneLine.{one_line}
use Rattle.pdb_places.specs.AsIfEmpty.{items_of}
use Rattle.tool_lists.specs.ModuleSizes.{bytes_of_module}
use Rattle.tool_output.specs.Absent.{if_there}
use Rattle.tool_output.specs.ErrorObjects.{fault_in, told_in}
use Rattle.tool_output.specs.Objects.{json_line, number_value, text_value}
use Rattle.tool_arguments.specs.declared.options.OutputFormat.{OutputFormat}
use Rattle.tool_arguments.specs.declared.options.OutputFormat.TheVariants.{Text, Json as Objects}
use Rattle.tool_fields.specs.Values.{behind_blank}

-- the file from which a module came, in brackets; nothing where it is empty or the module's own name
abbrev pub object_text : ModuleEntry → List ℕ
object_text m = if bytes_eq m.object_file_name [] || bytes_eq m.object_file_name m.module_name then [] else codes " [" ++ one_line m.object_file_name ++ codes "]"

-- the line of module k; how many bytes each module has is given
unfoldable pub listed_line : (ℕ → ℕ) → ℕ → ModuleEntry → List ℕ
listed_line size k m = decimal k ++ codes " " ++ decimal (size k) ++ behind_blank m.module_name ++ object_text m ++ codes "\n"

-- the same as a JSON value
abbrev pub object_value : ModuleEntry → Json
object_value m = if bytes_eq m.object_file_name [] || bytes_eq m.object_file_name m.module_name then null else text_value m.object_file_name

abbrev pub object_member : ModuleEntry → Members
object_member m = member (codes "object") (object_value m) no_members

-- a sum of sizes: a number up to 2^53, which each reader of JSON has exactly, and above it a string of its digits
unfoldable pub size_value : ℕ → Json
size_value n = if nat_le n 0x20000000000000 then number_value n else text_value (decimal n)

-- the JSON object of module k
abbrev pub listed_value : (ℕ → ℕ) → ℕ → ModuleEntry → Json
listed_value size k m =
    object (member (codes "module") (number_value k)
    (member (codes "bytes") (size_value (size k))
    (member (codes "name") (text_value m.module_name) (object_member m))))

abbrev pub listed_in : OutputFormat → (ℕ → ℕ) → ℕ → ModuleEntry → List ℕ
listed_in Text size k m = listed_line size k m
listed_in Objects size k m = json_line (listed_value size k m)

-- the lines of modules of which the first is module k
abbrev pub listed_lines : OutputFormat → (ℕ → ℕ) → ℕ → List ModuleEntry → List ℕ
listed_lines format size k [] = []
listed_lines format size k (m ∷ ms) = listed_in format size k m ++ listed_lines format size (k + 1) ms

-- those of the modules of a list, and then that of its fault
abbrev pub module_list_text : OutputFormat → (ℕ → ℕ) → ℕ → Left ModuleEntry → List ℕ
module_list_text format size k left = listed_lines format size k left.items ++ fault_in format left.fault

-- by a DBI stream: contributions that can't be read are none
abbrev pub modules_of_stream : OutputFormat → List ℕ → List ℕ
modules_of_stream format b = told_in format (modules_in b) (module_list_text format (bytes_of_module (items_of (contributions_in b))) 0)

unfoldable pub modules_command : OutputFormat → List ℕ → List ℕ
modules_command format file = if_there file 3 (told_in format (debug_information_in file) (modules_of_stream format))
