-- The commands.
use Rattle.std.specs.Prelude.{ℕ, List, [], ◌∷◌, codes, ◌||◌, Option, Some, None, if◌then◌else◌}
use Rattle.std.specs.Option.{unwrap_or}
use Rattle.std.specs.Str.{bytes_eq}
use Rattle.tool_arguments.specs.declared.commands.Command.{Command}
use Rattle.tool_arguments.specs.declared.commands.Command.TheVariants.{Resolve, Variables, Find, Where, Lines, Scopes, Symbols, Types, Sources, Modules, Sections, Frames, Streams, Stream, Key, Store, Check, Help, Version}

-- the name of a command
abbrev pub name_of : Command → List ℕ
name_of Resolve = codes "resolve"
name_of Variables = codes "variables"
name_of Find = codes "find"
name_of Where = codes "where"
name_of Lines = codes "lines"
name_of Scopes = codes "scopes"
name_of Symbols = codes "symbols"
name_of Types = codes "types"
name_of Sources = codes "sources"
name_of Modules = codes "modules"
name_of Sections = codes "sections"
name_of Frames = codes "frames"
name_of Streams = codes "streams"
name_of Stream = codes "stream"
name_of Key = codes "key"
name_of Store = codes "store"
name_of Check = codes "check"
name_of Help = codes "help"
name_of Version = codes "version"

-- its operands, as its usage has them
abbrev pub operands_of : Command → List ℕ
operands_of Resolve = codes "FILE [ADDRESS..]"
operands_of Variables = codes "FILE [ADDRESS..]"
operands_of Find = codes "FILE NAME.."
operands_of Where = codes "FILE SOURCE.."
operands_of Lines = codes "FILE [K..]"
operands_of Scopes = codes "FILE [K..]"
operands_of Symbols = codes "FILE [K..]"
operands_of Types = codes "FILE [INDEX..]"
operands_of Sources = codes "FILE [K..]"
operands_of Modules = codes "FILE"
operands_of Sections = codes "FILE"
operands_of Frames = codes "FILE"
operands_of Streams = codes "FILE"
operands_of Stream = codes "FILE STREAM"
operands_of Key = codes "FILE.."
operands_of Store = codes "FILE.."
operands_of Check = codes "FILE.."
operands_of Help = codes "[COMMAND]"
operands_of Version = codes ""

-- the command of a name
abbrev pub listing_in : List ℕ → Option Command
listing_in word =
    if bytes_eq word (codes "types") then Some Types
    else if bytes_eq word (codes "sources") then Some Sources
    else if bytes_eq word (codes "modules") then Some Modules
    else if bytes_eq word (codes "sections") then Some Sections
    else if bytes_eq word (codes "frames") then Some Frames
    else if bytes_eq word (codes "streams") then Some Streams
    else if bytes_eq word (codes "stream") then Some Stream
    else if bytes_eq word (codes "key") then Some Key
    else if bytes_eq word (codes "store") then Some Store
    else if bytes_eq word (codes "check") then Some Check
    else if bytes_eq word (codes "help") then Some Help
    else if bytes_eq word (codes "version") then Some Version
    else None

abbrev pub command_in : List ℕ → Option Command
command_in word =
    if bytes_eq word (codes "resolve") then Some Resolve
    else if bytes_eq word (codes "variables") then Some Variables
    else if bytes_eq word (codes "find") then Some Find
    else if bytes_eq word (codes "where") then Some Where
    else if bytes_eq word (codes "lines") then Some Lines
    else if bytes_eq word (codes "scopes") then Some Scopes
    else if bytes_eq word (codes "symbols") then Some Symbols
    else listing_in word

-- the command that a first argument names: an option asks for the version or for help
abbrev pub named_in : List ℕ → Option Command
named_in word =
    if bytes_eq word (codes "-V") || bytes_eq word (codes "--version") then Some Version
    else if bytes_eq word (codes "-h") || bytes_eq word (codes "--help") then Some Help
    else command_in word

-- the command that arguments name; `help` where they name none
abbrev pub command_of : List (List ℕ) → Command
command_of [] = Help
command_of (word ∷ words) = unwrap_or (named_in word) Help

-- all commands, in the order of help
abbrev pub commands : List Command
commands = Resolve ∷ Variables ∷ Find ∷ Where ∷ Lines ∷ Scopes ∷ Symbols ∷ Types ∷ Sources ∷ Modules ∷ Sections ∷ Frames ∷ Streams ∷ Stream ∷ Key ∷ Store ∷ Check ∷ Help ∷ Version ∷ []
