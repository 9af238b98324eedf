-- The text of `sections`: the section headers of the image.
use Rattle.std.specs.Prelude.{ℕ, ◌+◌, ◌%◌, List, [], ◌∷◌, ◌++◌, codes, Option, Some, None}
use Rattle.std.specs.Fmt.{decimal}
use Rattle.json.specs.Json.{Json, object, Members, no_members, member}
use Rattle.pdb.specs.ImageSectionHeader.{ImageSectionHeader}
use Rattle.pdb.specs.SectionHeader.{name_of}
use Rattle.pdb.specs.Answers.{sections_in}
use Rattle.pdb_text.specs.Digits.{hex}
use Rattle.tool_output.specs.Absent.{if_there}
use Rattle.tool_output.specs.ErrorObjects.{none_in, told_in}
use Rattle.tool_output.specs.Objects.{json_line, number_value, text_value}
use Rattle.tool_fields.specs.Values.{address_text, behind_blank}
use Rattle.tool_arguments.specs.declared.options.OutputFormat.{OutputFormat}
use Rattle.tool_arguments.specs.declared.options.OutputFormat.TheVariants.{Text, Json as Objects}

-- the line of the section of this number: its address, its size in memory, its characteristics, and its name
unfoldable pub section_line : ℕ → ImageSectionHeader → List ℕ
section_line n h =
    hex 4 n ++ codes " " ++ address_text (Some h.virtual_address) ++ codes " " ++ decimal h.virtual_size ++ codes " " ++ hex 8 h.characteristics.0 ++ behind_blank (name_of h) ++ codes "\n"

-- the same as the members of a JSON object
abbrev pub flags_members : ImageSectionHeader → Members
flags_members h = member (codes "flags") (text_value (hex 8 h.characteristics.0)) (member (codes "name") (text_value (name_of h)) no_members)

abbrev pub sized_members : ImageSectionHeader → Members
sized_members h = member (codes "size") (number_value h.virtual_size) (flags_members h)

abbrev pub placed_members : ImageSectionHeader → Members
placed_members h = member (codes "rva") (text_value (address_text (Some h.virtual_address))) (sized_members h)

-- the object of the section of this number
abbrev pub section_value : ℕ → ImageSectionHeader → Json
section_value n h = object (member (codes "section") (number_value n) (placed_members h))

abbrev pub section_line_in : OutputFormat → ℕ → ImageSectionHeader → List ℕ
section_line_in Text n h = section_line n h
section_line_in Objects n h = json_line (section_value n h)

-- the lines of sections of which the first has this number; a number has two bytes
abbrev pub section_lines : OutputFormat → ℕ → List ImageSectionHeader → List ℕ
section_lines format n [] = []
section_lines format n (h ∷ hs) = section_line_in format n h ++ section_lines format ((n + 1) % 65536) hs

-- the line of what isn't there where the file has no section headers
abbrev pub section_list_text : OutputFormat → Option (List ImageSectionHeader) → List ℕ
section_list_text format None = none_in format
section_list_text format (Some headers) = section_lines format 1 headers

unfoldable pub sections_command : OutputFormat → List ℕ → List ℕ
sections_command format file = if_there file 3 (told_in format (sections_in file) (section_list_text format))
