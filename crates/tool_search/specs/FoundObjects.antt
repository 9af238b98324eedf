-- The JSON objects of `find` and `where`.
use Rattle.std.specs.Prelude.{ℕ, ◌<◌, ◌^◌, List, ◌∷◌, ◌++◌, codes, Option, Some, None}
use Rattle.std.specs.Option.{unwrap_or}
use Rattle.json.specs.Json.{Json, null, object, Members, no_members, member}
use Rattle.json.specs.Token.{Token, key}
use Rattle.json.specs.Tree.{json_tokens}
use Rattle.pdb.specs.LineInfo.{LineInfo}
use Rattle.pdb.specs.PdbInternalSectionOffset.{PdbInternalSectionOffset}
use Rattle.pdb.specs.Qualified.{Qualified}
use Rattle.pdb.specs.Tables.{Addresses}
use Rattle.pdb_places.specs.PlaceAddresses.{address_for}
use Rattle.tool_search.specs.FrameObjects.{file_value, name_value}
use Rattle.tool_output.specs.Objects.{number_value, optional_value, text_value}
use Rattle.tool_fields.specs.Values.{address_text, place_text}

-- an address of the image as the text has it; `null` where there is none
abbrev pub address_value : Option ℕ → Json
address_value None = null
address_value (Some address) = text_value (address_text (Some address))

-- a place, its address, and how many bytes are there, in front of further members
abbrev pub stretch_members : Option Addresses → PdbInternalSectionOffset → Option ℕ → Members → Members
stretch_members addresses q length more =
    member (codes "at") (text_value (place_text q)) (member (codes "rva") (address_value (address_for addresses q)) (member (codes "length") (optional_value length) more))

-- their tokens
abbrev pub stretch_tokens : Option Addresses → PdbInternalSectionOffset → Option ℕ → List Token
stretch_tokens addresses q length =
    (key (codes "at") ∷ json_tokens (text_value (place_text q))) ++ (key (codes "rva") ∷ json_tokens (address_value (address_for addresses q))) ++ (key (codes "length") ∷ json_tokens (optional_value length))

-- ---- what a name was found by

abbrev pub found_value : List ℕ → Option Addresses → PdbInternalSectionOffset → Option ℕ → List ℕ → Json
found_value kind addresses q length name =
    object (member (codes "kind") (text_value kind) (stretch_members addresses q length (member (codes "name") (text_value name) no_members)))

-- ---- a record of lines

abbrev pub function_member : Option Qualified → Members
function_member name = member (codes "name") (name_value name) no_members

-- the file, the line and the column, and then the function
abbrev pub position_members : LineInfo → Option (List ℕ) → Option Qualified → Members
position_members r file name =
    member (codes "file") (file_value file) (member (codes "line") (number_value r.line_start) (member (codes "column") (number_value (unwrap_or r.column_start 0)) (function_member name)))

abbrev pub where_value : List ℕ → Option Addresses → LineInfo → Option (List ℕ) → Option Qualified → Json
where_value kind addresses r file name =
    object (member (codes "kind") (text_value kind) (stretch_members addresses r.offset r.length (position_members r file name)))

-- numbers of a record have 32 bits
pub record HasRecord (r : LineInfo) : Type 0 where
  pub length : unwrap_or r.length 0 < 2 ^ 32
  pub line : r.line_start < 2 ^ 32
  pub column : unwrap_or r.column_start 0 < 2 ^ 32
