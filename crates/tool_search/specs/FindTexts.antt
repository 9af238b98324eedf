-- The text of `find`: where the functions and the data stand that have a name.
use Rattle.std.specs.Prelude.{ℕ, List, [], ◌∷◌, ◌++◌, Bool, true, false, ◌||◌, nat_lt, if◌then◌else◌, codes, flat_map, find, Option, Some, None, Result, Ok}
use Rattle.std.specs.List.{list_any}
use Rattle.std.specs.Option.{option_or}
use Rattle.std.specs.Str.{bytes_eq}
use Rattle.pdb.specs.Error.{Error}
use Rattle.pdb.specs.Left.{Left}
use Rattle.pdb.specs.PdbInternalSectionOffset.{PdbInternalSectionOffset}
use Rattle.pdb.specs.Data.{Data}
use Rattle.pdb.specs.Data.Data.{Public, Procedure, Thunk, DataItem, ThreadStorage, Label, InlineSite}
use Rattle.pdb.specs.Forms.{record_at}
use Rattle.pdb.specs.SymbolList.{Entry, symbols_from}
use Rattle.pdb.specs.Items.{ItemEntry}
use Rattle.pdb.specs.Inlinees.{InlineeEntry, inlinee_with}
use Rattle.pdb.specs.Inlined.{lines_of_site}
use Rattle.pdb.specs.LineInfo.{LineInfo}
use Rattle.pdb.specs.ModuleStream.{ModuleBytes, inlinees_of, symbols_of}
use Rattle.pdb.specs.Qualified.{Qualified}
use Rattle.pdb.specs.Tables.{Addresses}
use Rattle.pdb.specs.Answers.{address_map_in, debug_information_in, global_symbols_in}
use Rattle.pdb_code.specs.Machines.{x86_by}
use Rattle.pdb_names.specs.Spelling.{spelled, text_of}
use Rattle.pdb_text.specs.OneLine.{one_line}
use Rattle.pdb_places.specs.AsIfEmpty.{if_read}
use Rattle.pdb_resolve.specs.FileParts.{items_listed}
use Rattle.pdb_resolve.specs.AcrossModules.{call_name}
use Rattle.pdb_resolve.specs.Frames.{qualified_text}
use Rattle.pdb_code.specs.ModuleCode.{inlinees_in}
use Rattle.pdb_places.specs.PlaceAddresses.{address_for}
use Rattle.tool_output.specs.Absent.{if_there, there_in}
use Rattle.tool_output.specs.ErrorObjects.{fault_in, fault_of, list_fault_of, told_in, told_of}
use Rattle.tool_search.specs.FoundObjects.{found_value}
use Rattle.tool_output.specs.Objects.{json_line}
use Rattle.tool_arguments.specs.declared.options.OutputFormat.{OutputFormat}
use Rattle.tool_arguments.specs.declared.options.OutputFormat.TheVariants.{Text, Json as Objects}
use Rattle.tool_fields.specs.Values.{address_text, optional_text, place_text}
use Rattle.tool_arguments.specs.Wildcards.{matches}

-- ---- what is asked for

-- one of the patterns matches a name; none matches an empty one
abbrev pub is_asked : List (List ℕ) → List ℕ → Bool
is_asked words [] = false
is_asked words (b ∷ name) = list_any (λ word. matches word (b ∷ name)) words

-- ---- lines

-- the format of the lines, and what names and addresses are read from: the patterns, ids, types, and the address map
pub record Finding : Type 0 where
  pub format : OutputFormat
  pub words : List (List ℕ)
  pub ids : List ItemEntry
  pub types : List ItemEntry
  pub addresses : Option Addresses

-- a place, its address, and how many bytes are there
abbrev pub stretch_text : Option Addresses → PdbInternalSectionOffset → Option ℕ → List ℕ
stretch_text addresses q length = place_text q ++ codes " " ++ address_text (address_for addresses q) ++ codes " " ++ optional_text length

unfoldable pub found_line : List ℕ → Option Addresses → PdbInternalSectionOffset → Option ℕ → List ℕ → List ℕ
found_line kind addresses q length name = kind ++ codes " " ++ stretch_text addresses q length ++ codes " " ++ one_line name ++ codes "\n"

-- the same in a format
abbrev pub found_in : OutputFormat → List ℕ → Option Addresses → PdbInternalSectionOffset → Option ℕ → List ℕ → List ℕ
found_in Text kind addresses q length name = found_line kind addresses q length name
found_in Objects kind addresses q length name = json_line (found_value kind addresses q length name)

-- it stands where the name is asked for
abbrev pub line_if_asked : List ℕ → Finding → PdbInternalSectionOffset → Option ℕ → List ℕ → List ℕ
line_if_asked kind f q length name = if is_asked f.words name then found_in f.format kind f.addresses q length name else []

-- ---- global symbols

-- the name of a public symbol as it spells, and in parentheses as it stands where it is another one
abbrev pub public_name : List ℕ → List ℕ → List ℕ
public_name name spells = if bytes_eq spells name then name else spells ++ codes " (" ++ name ++ codes ")"

-- a public symbol is asked for by both names
unfoldable pub public_line : Finding → PdbInternalSectionOffset → List ℕ → List ℕ → List ℕ
public_line f q name spells = if is_asked f.words spells || is_asked f.words name then found_in f.format (codes "public") f.addresses q None (public_name name spells) else []

abbrev pub global_line : Bool → Finding → Result Data Error → List ℕ
global_line x86 f (Ok (Public code function managed msil offset name)) = public_line f offset name (text_of name (spelled name x86))
global_line x86 f (Ok (DataItem true managed type_index offset name)) = line_if_asked (codes "data") f offset None name
global_line x86 f (Ok (ThreadStorage true type_index offset name)) = line_if_asked (codes "thread") f offset None name
global_line x86 f r = []

-- the kinds of such records
abbrev pub global_kinds : List ℕ
global_kinds =
    0x110e ∷ 0x110d ∷ 0x110c ∷ 0x1113 ∷ 0x1112 ∷ 0x111d ∷ 0x111c
    ∷ 0x1009 ∷ 0x1007 ∷ 0x1008 ∷ 0x1020 ∷ 0x1021 ∷ 0x100e ∷ 0x100f ∷ []

abbrev pub global_lines : Bool → Finding → Left Entry → List ℕ
global_lines x86 f left = flat_map (λ s. global_line x86 f (record_at s.bytes)) left.items ++ fault_in f.format left.fault

-- ---- the symbols of a module

-- the procedure around a site: where it begins, and the index of the symbol that ends its scope
pub record Parent : Type 0 where
  pub place : PdbInternalSectionOffset
  pub end : ℕ

abbrev pub parent_said : Result Data Error → Option Parent
parent_said (Ok (Procedure s)) = Some (record { place = s.offset; end = s.end.0 })
parent_said r = None

-- a record has bytes
abbrev pub more_than_none : Option ℕ → Bool
more_than_none None = false
more_than_none (Some n) = nat_lt 0 n

abbrev pub has_bytes : LineInfo → Bool
has_bytes r = more_than_none r.length

-- the records of a site, in the last procedure listed before it, if its scope reaches the site
abbrev pub site_records : (ℕ → Option InlineeEntry) → Option Parent → ℕ → ℕ → List ℕ → List LineInfo
site_records known None index id annotations = []
site_records known (Some c) index id annotations = if nat_lt index c.end then (lines_of_site c.place annotations (known id)).items else []

-- the line of an inlined call: where the first record stands that has bytes
abbrev pub inlined_at : Finding → Option LineInfo → Option Qualified → List ℕ
inlined_at f None name = []
inlined_at f (Some r) None = []
inlined_at f (Some r) (Some name) = line_if_asked (codes "inlined") f r.offset r.length (qualified_text (Some name))

-- the line of a symbol; names has the name of an inlined function by the id of its call
abbrev pub symbol_line : Finding → (ℕ → Option Qualified) → (ℕ → Option InlineeEntry) → Option Parent → ℕ → Result Data Error → List ℕ
symbol_line f names known c index (Ok (Procedure s)) = line_if_asked (codes "procedure") f s.offset (Some s.len) s.name
symbol_line f names known c index (Ok (Thunk s)) = line_if_asked (codes "thunk") f s.offset (Some s.len) s.name
symbol_line f names known c index (Ok (DataItem global managed type_index offset name)) = line_if_asked (codes "data") f offset None name
symbol_line f names known c index (Ok (ThreadStorage global type_index offset name)) = line_if_asked (codes "thread") f offset None name
symbol_line f names known c index (Ok (Label offset flags name)) = line_if_asked (codes "label") f offset None name
symbol_line f names known c index (Ok (InlineSite s)) = inlined_at f (find has_bytes (site_records known c index s.inlinee.0 s.annotations)) (names s.inlinee.0)
symbol_line f names known c index r = []

-- the lines of symbols, of which the last procedure before is given
abbrev pub symbol_lines : Finding → (ℕ → Option Qualified) → (ℕ → Option InlineeEntry) → Option Parent → List Entry → List ℕ
symbol_lines f names known c [] = []
symbol_lines f names known c (s ∷ ss) = symbol_line f names known c s.index (record_at s.bytes) ++ symbol_lines f names known (option_or (parent_said (record_at s.bytes)) c) ss

-- of module k
abbrev pub symbols_left_text : Finding → ℕ → (ℕ → Option Qualified) → (ℕ → Option InlineeEntry) → Option Parent → Left Entry → List ℕ
symbols_left_text f k names known c left = symbol_lines f names known c left.items ++ fault_of f.format k left.fault

unfoldable pub find_text : Finding → ℕ → (ℕ → Option Qualified) → ModuleBytes → List ℕ
find_text f k names m = told_of f.format k (symbols_of m) (λ left. symbols_left_text f k names (inlinee_with (inlinees_in m)) None left ++ list_fault_of f.format k (inlinees_of m))

-- of module k of a file
abbrev pub find_in : Finding → List ℕ → ℕ → ModuleBytes → List ℕ
find_in f file k m = find_text f k (call_name f.ids f.types file m) m

-- ---- the command

abbrev pub finding_in : OutputFormat → List ℕ → List (List ℕ) → Finding
finding_in format file words = record { format = format; words = words; ids = items_listed file 4; types = items_listed file 2; addresses = if_read (address_map_in file) }

-- the image is for x86, by the header of the DBI stream
abbrev pub x86_in : List ℕ → Bool
x86_in file = x86_by (if_read (debug_information_in file))

-- those of the global symbols
abbrev pub globals_found : List ℕ → Finding → List ℕ
globals_found file f = if_there file 3 (there_in f.format (global_symbols_in file) (λ b. global_lines (x86_in file) f (symbols_from b 0)))
