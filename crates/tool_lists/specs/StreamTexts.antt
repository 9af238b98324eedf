-- The text of `streams`: the size of each stream of the directory, and what it is.
use Rattle.std.specs.Prelude.{ℕ, List, [], ◌∷◌, ◌++◌, codes, flat_map, map, Option, Some, None, Result, Ok, Err}
use Rattle.std.specs.Fmt.{decimal}
use Rattle.std.specs.List.{filter, range_with_len}
use Rattle.json.specs.Json.{Json, null, array, object, Items, no_items, item, Members, no_members, member}
use Rattle.pdb.specs.Error.{Error}
use Rattle.pdb_places.specs.AsIfEmpty.{if_read}
use Rattle.pdb.specs.ExtraStreams.{extra_streams_in}
use Rattle.pdb.specs.Left.{Left}
use Rattle.pdb.specs.Names.{Name}
use Rattle.pdb.specs.Header.{header_of}
use Rattle.pdb.specs.Modules.{ModuleEntry, modules_in}
use Rattle.pdb.specs.Container.{stream_count, stream_of, stream_size}
use Rattle.pdb.specs.Answers.{debug_information_in}
use Rattle.tool_output.specs.FileNames.{names_in}
use Rattle.tool_output.specs.ErrorObjects.{told_in}
use Rattle.tool_output.specs.Objects.{json_line, number_value, text_value}
use Rattle.tool_arguments.specs.declared.options.OutputFormat.{OutputFormat}
use Rattle.tool_arguments.specs.declared.options.OutputFormat.TheVariants.{Text, Json as Objects}
use Rattle.tool_lists.specs.StreamOrder.{is_of}
use Rattle.tool_lists.specs.declared.stream_roles.Role.{Role}
use Rattle.tool_lists.specs.StreamRoles.{StreamRole, role_view, stream_number, extra_roles, fixed_roles, hash_roles, header_roles, known_text, line_text, module_roles, name_roles, whole_text}
use Rattle.tool_lists.specs.declared.stream_roles.Known.TheVariants.{TypeHashes, FurtherTypeHashes, IdHashes, FurtherIdHashes}

-- ---- what all streams are

-- of what could be read; none where there is an error
abbrev pub read_or_none : {A : Type 0} → Result A Error → (A → List StreamRole) → List StreamRole
read_or_none (Ok x) roles = roles x
read_or_none (Err e) roles = []

abbrev pub listed_roles : Left ModuleEntry → List StreamRole
listed_roles left = module_roles 0 left.items

abbrev pub type_hashes : List ℕ → List StreamRole
type_hashes = hash_roles (known_text TypeHashes) (known_text FurtherTypeHashes)

abbrev pub id_hashes : List ℕ → List StreamRole
id_hashes = hash_roles (known_text IdHashes) (known_text FurtherIdHashes)

-- by a DBI stream
unfoldable pub information_roles : List ℕ → List StreamRole
information_roles b = read_or_none (header_of b) header_roles ++ read_or_none (extra_streams_in b) extra_roles ++ read_or_none (modules_in b) listed_roles

abbrev pub debug_roles : List ℕ → List StreamRole
debug_roles file = read_or_none (debug_information_in file) information_roles

abbrev pub named_roles : Option (List Name) → List StreamRole
named_roles None = []
named_roles (Some names) = name_roles names

unfoldable pub roles_by : List ℕ → Option (List Name) → List StreamRole
roles_by file names = fixed_roles ++ named_roles names ++ debug_roles file ++ read_or_none (stream_of file 2 None) type_hashes ++ read_or_none (stream_of file 4 None) id_hashes

abbrev pub roles_of : List ℕ → List StreamRole
roles_of file = roles_by file (if_read (names_in file))

-- ---- lines

abbrev pub size_text : Option ℕ → List ℕ
size_text (Some n) = decimal n
size_text None = codes "-"

abbrev pub what_list : List StreamRole → List ℕ
what_list [] = codes "-"
what_list (r ∷ rs) = line_text r.label r.name ++ flat_map (λ x. codes ", " ++ line_text x.label x.name) rs

-- of stream n, of this size, which is all of this
unfoldable pub line_of : ℕ → Option ℕ → List StreamRole → List ℕ
line_of n size here = decimal n ++ codes " " ++ size_text size ++ codes " " ++ what_list here ++ codes "\n"

-- the same as a JSON object
abbrev pub size_value : Option ℕ → Json
size_value None = null
size_value (Some size) = number_value size

abbrev pub what_items : List StreamRole → Items
what_items [] = no_items
what_items (r ∷ rs) = item (text_value (whole_text r.label r.name)) (what_items rs)

abbrev pub what_member : List StreamRole → Members
what_member here = member (codes "what") (array (what_items here)) no_members

abbrev pub stream_value : ℕ → Option ℕ → List StreamRole → Json
stream_value n size here = object (member (codes "stream") (number_value n) (member (codes "size") (size_value size) (what_member here)))

abbrev pub line_in : OutputFormat → ℕ → Option ℕ → List StreamRole → List ℕ
line_in Text n size here = line_of n size here
line_in Objects n size here = json_line (stream_value n size here)

abbrev pub stream_line : OutputFormat → List ℕ → List StreamRole → ℕ → List ℕ
stream_line format file roles n = line_in format n (if_read (stream_size file n)) (filter (is_of (λ r. r.stream) n) roles)

-- the same by roles as the code has them
abbrev pub role_line : OutputFormat → List ℕ → List Role → ℕ → List ℕ
role_line format file roles n = line_in format n (if_read (stream_size file n)) (map role_view (filter (is_of stream_number n) roles))

unfoldable pub streams_command : OutputFormat → List ℕ → List ℕ
streams_command format file = told_in format (stream_count file) (λ count. flat_map (stream_line format file (roles_of file)) (range_with_len 0 count))
