-- The text of a place: its frames, and behind each one the variables in scope there that are its own.
use Rattle.std.specs.Prelude.{ℕ, zero, suc, ◌==◌, Bool, true, false, if◌then◌else◌, List, [], ◌∷◌, ◌++◌, length, flat_map, codes, Option, Some, None}
use Rattle.pdb.specs.ModuleStream.{ModuleBytes}
use Rattle.pdb.specs.PdbInternalSectionOffset.{PdbInternalSectionOffset}
use Rattle.pdb_records.specs.declared.machine.Machine.{Machine}
use Rattle.pdb_resolve.specs.Frames.{Frame, frame_text}
use Rattle.pdb_code.specs.ModuleCode.{symbols_in}
use Rattle.pdb_resolve.specs.Resolved.{frames_of_file, module_of_place, variables_of_file}
use Rattle.pdb_variables.specs.VariableRecords.{Place}
use Rattle.pdb_variables.specs.VariableRecords.Place.{Nowhere, Whole, Parts, At, Value}
use Rattle.pdb_variables.specs.Variables.{Variable}
use Rattle.pdb_variables.specs.declared.locations.Storage.{Storage}
use Rattle.pdb_variables.specs.declared.locations.Storage.TheVariants.{Register, RegisterRelative, BasePointerRelative, FrameRelative, Program}
use Rattle.pdb_variables.specs.declared.locations.VariablePart.{VariablePart}
use Rattle.pdb_variables.specs.declared.variable_records.VariableKind.{VariableKind}
use Rattle.pdb_variables.specs.declared.variable_records.VariableKind.TheVariants.{Parameter, Local, Static, Thread, Constant}
use Rattle.tool_fields.specs.ModuleMachines.{file_machine, module_machine}
use Rattle.tool_symbols.specs.VariablePlaces.{base_pointer, in_frame, memory_text, part_text, program_text}
use Rattle.tool_fields.specs.Values.{behind_blank, place_text}
use Rattle.tool_fields.specs.ValueTexts.{register_on, variant_text}

-- ---- a variable

abbrev pub kind_word : VariableKind → List ℕ
kind_word Parameter = codes "param"
kind_word Local = codes "local"
kind_word Static = codes "static"
kind_word Thread = codes "thread"
kind_word Constant = codes "constant"

abbrev pub storage_text : Option Machine → Storage → List ℕ
storage_text machine (Register register) = register_on machine register
storage_text machine (RegisterRelative register offset) = memory_text (register_on machine register) offset
storage_text machine (BasePointerRelative offset) = memory_text (base_pointer machine) offset
storage_text machine (FrameRelative base offset) = in_frame machine base offset
storage_text machine (Program program) = program_text program

-- a part, by its offset in the variable
abbrev pub stored_part : Option Machine → VariablePart → List ℕ
stored_part machine p = part_text p.offset ++ storage_text machine p.storage

abbrev pub further_parts : Option Machine → List VariablePart → List ℕ
further_parts machine ps = flat_map (λ p. codes "," ++ stored_part machine p) ps

abbrev pub parts_text : Option Machine → List VariablePart → List ℕ
parts_text machine [] = []
parts_text machine (p ∷ ps) = stored_part machine p ++ further_parts machine ps

-- where a variable is; `-` where it is nowhere
abbrev pub location_text : Option Machine → Place → List ℕ
location_text machine Nowhere = codes "-"
location_text machine (Whole storage) = storage_text machine storage
location_text machine (Parts parts) = parts_text machine parts
location_text machine (At offset) = place_text offset
location_text machine (Value value) = variant_text value

-- two blanks, what it is, where it is, and its name where that isn't empty
unfoldable pub variable_line : Option Machine → Variable → List ℕ
variable_line machine v = codes "  " ++ kind_word v.kind ++ codes " " ++ location_text machine v.place ++ behind_blank v.name ++ codes "\n"

-- ---- whose they are

-- the owner of the variables of a frame behind which so many others are: frames go from the last inlined call to the first, and that of the function, which is no call, is the last of them
abbrev pub owner_before : ℕ → Option ℕ
owner_before zero = None
owner_before (suc n) = Some n

abbrev pub is_owner : Option ℕ → Option ℕ → Bool
is_owner None None = true
is_owner (Some a) (Some b) = a == b
is_owner a b = false

abbrev pub line_of : Option Machine → Option ℕ → Variable → List ℕ
line_of machine owner v = if is_owner owner v.owner then variable_line machine v else []

-- the lines of an owner's variables, in the order of their records
abbrev pub lines_of : Option Machine → Option ℕ → List Variable → List ℕ
lines_of machine owner vs = flat_map (line_of machine owner) vs

-- ---- the text of a place

-- the two lines of each frame, and those of its variables
abbrev pub framed : Option Machine → List Variable → List Frame → List ℕ
framed machine vs [] = []
framed machine vs (f ∷ fs) = frame_text f ++ lines_of machine (owner_before (length fs)) vs ++ framed machine vs fs

-- and an empty line
abbrev pub framed_text : Option Machine → List Variable → List Frame → List ℕ
framed_text machine vs fs = framed machine vs fs ++ codes "\n"

abbrev pub machine_where : List ℕ → Option ModuleBytes → Option Machine
machine_where file None = None
machine_where file (Some m) = module_machine (file_machine file) (symbols_in m)

-- the machine of the code at a place: that of its module
abbrev pub machine_at : List ℕ → Option PdbInternalSectionOffset → Option Machine
machine_at file None = None
machine_at file (Some q) = machine_where file (module_of_place file q)

unfoldable pub variables_text : List ℕ → Option PdbInternalSectionOffset → List ℕ
variables_text file place = framed_text (machine_at file place) (variables_of_file file place) (frames_of_file file place)
