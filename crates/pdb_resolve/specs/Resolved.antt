-- What code stands at a place of a file, and at an address.
use Rattle.std.specs.Prelude.{ℕ, List, [], ◌∷◌, Bool, not, ◌&&◌, ◌==◌, if◌then◌else◌, Option, Some, None, option_and_then}
use Rattle.std.specs.Option.{option_or}
use Rattle.pdb.specs.PdbInternalSectionOffset.{PdbInternalSectionOffset}
use Rattle.pdb.specs.ModuleStream.{ModuleBytes}
use Rattle.pdb.specs.Answers.{address_map_in, debug_information_in, global_symbols_in}
use Rattle.pdb_places.specs.AsIfEmpty.{if_read}
use Rattle.pdb_places.specs.AddressPlaces.{place_at}
use Rattle.pdb_names.specs.Spelling.{spelled, text_of}
use Rattle.pdb_places.specs.Pieces.{Code}
use Rattle.pdb_code.specs.ModuleCode.{Leading, Named, begins, begun_name, function_at, leading_at, named, procedure_at, procedures_in, unnamed}
use Rattle.pdb_places.specs.ModulePlaces.{contributions_known, reaches, module_number_at}
use Rattle.pdb_code.specs.Machines.{x86_by}
use Rattle.pdb_code.specs.Leading.{leading_text}
use Rattle.pdb_places.specs.PublicNames.{NamedPlace, public_at}
use Rattle.pdb_variables.specs.Variables.{Variable, variables_at}
use Rattle.pdb_resolve.specs.FileParts.{module_numbered, names_in}
use Rattle.pdb_resolve.specs.AcrossModules.{global_id_in}
use Rattle.pdb_resolve.specs.Frames.{Frame, frames_in, frame_without, no_frame}

-- the place of a relative virtual address
abbrev pub place_of_file : List ℕ → ℕ → Option PdbInternalSectionOffset
place_of_file file address = place_at (address_map_in file) address

-- the module from which the bytes at a place come
abbrev pub module_of_place : List ℕ → PdbInternalSectionOffset → Option ModuleBytes
module_of_place file q = option_and_then (module_numbered file) (module_number_at q (if_read (debug_information_in file)))

-- the public symbol before a place, whatever else stands between them
abbrev pub public_before_file : List ℕ → PdbInternalSectionOffset → Option NamedPlace
public_before_file file q = public_at q (if_read (global_symbols_in file))

abbrev pub procedures_where : Option ModuleBytes → List Code
procedures_where None = []
procedures_where (Some m) = procedures_in m

-- a public symbol counts for a place that its own contribution has too, unless a procedure of the module at the place begins where it stands: the place is none of that procedure's bytes
abbrev pub counts : List ℕ → Option ModuleBytes → PdbInternalSectionOffset → NamedPlace → Bool
counts file m q p = reaches p.place q (contributions_known (if_read (debug_information_in file))) && not (begins p.place (procedures_where m))

-- the name that a public symbol's decorated name spells, and where the symbol stands
abbrev pub spelled_by : List ℕ → List ℕ → List ℕ
spelled_by file name = text_of name (spelled name (x86_by (if_read (debug_information_in file))))

abbrev pub public_named : List ℕ → NamedPlace → Named
public_named file p = named (spelled_by file p.name) p.place

abbrev pub named_by_public : List ℕ → Option NamedPlace → Named
named_by_public file None = unnamed
named_by_public file (Some p) = public_named file p

abbrev pub public_if : List ℕ → Option ModuleBytes → PdbInternalSectionOffset → NamedPlace → Option NamedPlace
public_if file m q p = if counts file m q p then Some p else None

-- the public symbol before a place, where it counts
abbrev pub public_counted : List ℕ → Option ModuleBytes → PdbInternalSectionOffset → Option NamedPlace
public_counted file m q = option_and_then (public_if file m q) (public_before_file file q)

abbrev pub procedure_where : PdbInternalSectionOffset → Option ModuleBytes → Option Code
procedure_where q None = None
procedure_where q (Some m) = procedure_at q m

abbrev pub function_where : PdbInternalSectionOffset → Option ModuleBytes → Option ℕ
function_where q None = None
function_where q (Some m) = function_at q m

-- ---- trampolines

abbrev pub leading_where : PdbInternalSectionOffset → Option ModuleBytes → Option Leading
leading_where q None = None
leading_where q (Some m) = leading_at q m

abbrev pub begun_where : PdbInternalSectionOffset → Option ModuleBytes → Option (List ℕ)
begun_where q None = None
begun_where q (Some m) = begun_name q m

abbrev pub is_at : PdbInternalSectionOffset → NamedPlace → Bool
is_at q p = (p.place.section == q.section) && (p.place.offset == q.offset)

-- the name of the first public symbol at a place, which is the one before it where that stands there
abbrev pub name_if_at : List ℕ → PdbInternalSectionOffset → NamedPlace → Option (List ℕ)
name_if_at file q p = if is_at q p then Some (spelled_by file p.name) else None

abbrev pub public_there : List ℕ → PdbInternalSectionOffset → Option (List ℕ)
public_there file q = option_and_then (name_if_at file q) (public_before_file file q)

-- the name of what begins where a trampoline leads: a procedure of the module there, or else a public symbol
abbrev pub target_name : List ℕ → PdbInternalSectionOffset → Option (List ℕ)
target_name file q = option_or (begun_where q (module_of_place file q)) (public_there file q)

abbrev pub leading_named : List ℕ → Leading → Named
leading_named file t = named (leading_text t.kind t.number (target_name file t.target)) t.place

-- ---- frames

abbrev pub unless_there : Option ℕ → Named → Named
unless_there None n = n
unless_there (Some index) n = unnamed

-- what names a place at which no function is: a trampoline, or else the public symbol before it, where it counts
abbrev pub named_elsewhere : List ℕ → Option ModuleBytes → PdbInternalSectionOffset → Option Leading → Named
named_elsewhere file m q (Some t) = leading_named file t
named_elsewhere file m q None = named_by_public file (public_counted file m q)

abbrev pub other_of_file : List ℕ → Option ModuleBytes → PdbInternalSectionOffset → Named
other_of_file file m q = unless_there (function_where q m) (named_elsewhere file m q (leading_where q m))

abbrev pub frames_of_module : List ℕ → PdbInternalSectionOffset → Option ModuleBytes → List Frame
frames_of_module file q None = frame_without q (other_of_file file None q) ∷ []
frames_of_module file q (Some m) = frames_in (names_in file) (global_id_in file m) (other_of_file file (Some m) q) q m

-- the frames of a place; without a place one frame that tells nothing
unfoldable pub frames_of_file : List ℕ → Option PdbInternalSectionOffset → List Frame
frames_of_file file None = no_frame ∷ []
frames_of_file file (Some q) = frames_of_module file q (module_of_place file q)

-- ---- variables

abbrev pub variables_where : PdbInternalSectionOffset → Option ModuleBytes → List Variable
variables_where q None = []
variables_where q (Some m) = variables_at q m

-- the variables in scope at a place; without a place none
abbrev pub variables_of_file : List ℕ → Option PdbInternalSectionOffset → List Variable
variables_of_file file None = []
variables_of_file file (Some q) = variables_where q (module_of_place file q)
