-- The options, and which command has which.
use Rattle.std.specs.Prelude.{ℕ, ◌+◌, List, [], ◌∷◌, codes, drop, position, take, Bool, true, false, ◌==◌, Option, Some, None, option_map, if◌then◌else◌}
use Rattle.std.specs.Str.{bytes_eq}
use Rattle.tool_arguments.specs.declared.commands.Command.{Command}
use Rattle.tool_arguments.specs.declared.commands.Command.TheVariants.{Resolve, Variables, Find, Where, Symbols, Sources, Modules, Sections, Frames, Streams, Key as KeyOf, Store, Check, Help, Version}
use Rattle.tool_arguments.specs.declared.option_names.OptionName.{OptionName}
use Rattle.tool_arguments.specs.declared.option_names.OptionName.TheVariants.{Base, Key, Image, Symbols as Folders, Addresses, Offsets, All, Path, Replace, Json}

-- all options, in the order of usage
abbrev pub options : List OptionName
options = Base ∷ Key ∷ Image ∷ Folders ∷ Addresses ∷ Offsets ∷ All ∷ Path ∷ Replace ∷ Json ∷ []

abbrev pub spelled_option : OptionName → List ℕ
spelled_option Base = codes "--base"
spelled_option Key = codes "--key"
spelled_option Image = codes "--image"
spelled_option Folders = codes "--symbols"
spelled_option Addresses = codes "--addresses"
spelled_option Offsets = codes "--offsets"
spelled_option All = codes "--all"
spelled_option Path = codes "--path"
spelled_option Replace = codes "--replace"
spelled_option Json = codes "--json"

-- what stands for its value in usage; nothing where it takes none
abbrev pub placeholder_of : OptionName → List ℕ
placeholder_of Base = codes "HEX"
placeholder_of Key = codes "KEY"
placeholder_of Image = codes "IMAGE"
placeholder_of Folders = codes "DIR"
placeholder_of option = codes ""

abbrev pub takes_value : OptionName → Bool
takes_value Base = true
takes_value Key = true
takes_value Image = true
takes_value Folders = true
takes_value option = false

-- the option of a name
abbrev pub option_in : List ℕ → Option OptionName
option_in name =
    if bytes_eq name (codes "--base") then Some Base
    else if bytes_eq name (codes "--key") then Some Key
    else if bytes_eq name (codes "--image") then Some Image
    else if bytes_eq name (codes "--symbols") then Some Folders
    else if bytes_eq name (codes "--addresses") then Some Addresses
    else if bytes_eq name (codes "--offsets") then Some Offsets
    else if bytes_eq name (codes "--all") then Some All
    else if bytes_eq name (codes "--path") then Some Path
    else if bytes_eq name (codes "--replace") then Some Replace
    else if bytes_eq name (codes "--json") then Some Json
    else None

-- what a command has
abbrev pub takes_addresses : Command → Bool
takes_addresses Resolve = true
takes_addresses Variables = true
takes_addresses command = false

abbrev pub takes_json : Command → Bool
takes_json Resolve = true
takes_json Find = true
takes_json Where = true
takes_json Sources = true
takes_json Modules = true
takes_json Sections = true
takes_json Frames = true
takes_json Streams = true
takes_json KeyOf = true
takes_json Check = true
takes_json command = false

abbrev pub takes_offsets : Command → Bool
takes_offsets Resolve = true
takes_offsets command = false

abbrev pub takes_all : Command → Bool
takes_all Symbols = true
takes_all command = false

abbrev pub takes_path : Command → Bool
takes_path KeyOf = true
takes_path command = false

abbrev pub takes_replace : Command → Bool
takes_replace Store = true
takes_replace command = false

-- a command that has folders of symbols: it reads one PDB, which it may find there, or it files some there
abbrev pub has_folders : Command → Bool
has_folders KeyOf = false
has_folders Check = false
has_folders Help = false
has_folders Version = false
has_folders command = true

abbrev pub has_option : Command → OptionName → Bool
has_option command Base = takes_addresses command
has_option command Key = takes_addresses command
has_option command Image = takes_addresses command
has_option command Folders = has_folders command
has_option command Addresses = takes_addresses command
has_option command Offsets = takes_offsets command
has_option command All = takes_all command
has_option command Path = takes_path command
has_option command Replace = takes_replace command
has_option command Json = takes_json command

-- ---- arguments like `--name=value`

abbrev pub is_equals : ℕ → Bool
is_equals b = b == 61

abbrev pub name_by : List ℕ → Option ℕ → List ℕ
name_by word None = word
name_by word (Some at) = take at word

-- what stands before the first `=`, or all
abbrev pub name_part : List ℕ → List ℕ
name_part word = name_by word (position is_equals word)

-- what stands behind it
abbrev pub value_part : List ℕ → Option (List ℕ)
value_part word = option_map (λ at. drop (at + 1) word) (position is_equals word)
