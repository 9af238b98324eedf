-- The texts of the code at an address.
use Rattle.std.specs.Prelude.{ℕ, List, Bool, true, not, Option, Some, None}
use Rattle.pdb.specs.PdbInternalSectionOffset.{PdbInternalSectionOffset}
use Rattle.pdb_resolve.specs.Frames.{displaced_frames, frames_text}
use Rattle.pdb_resolve.specs.Resolved.{place_of_file, frames_of_file}
use Rattle.pdb_resolve.specs.WholeModules.{is_whole_at}
use Rattle.tool_addresses.specs.VariableTexts.{variables_text}
use Rattle.tool_arguments.specs.declared.code_address.CodeAddress.{CodeAddress}
use Rattle.tool_arguments.specs.declared.code_address.CodeAddress.TheVariants.{Nowhere, Place, Rva}
use Rattle.tool_arguments.specs.declared.options.Detail.{Detail}
use Rattle.tool_arguments.specs.declared.options.Detail.TheVariants.{Plain, Offsets, Variables}

abbrev pub place_at : List ℕ → CodeAddress → Option PdbInternalSectionOffset
place_at file (Rva address) = place_of_file file address
place_at file (Place place) = Some place
place_at file Nowhere = None

-- whether what is read of the module at a place has no error
abbrev pub is_whole_where : List ℕ → Option PdbInternalSectionOffset → Bool
is_whole_where file None = true
is_whole_where file (Some q) = is_whole_at file q

-- whether it has one
abbrev pub is_damaged_at : List ℕ → CodeAddress → Bool
is_damaged_at file address = not (is_whole_where file (place_at file address))

-- the frames of a place, with displacements or variables, or neither
abbrev pub code_text : List ℕ → Detail → Option PdbInternalSectionOffset → List ℕ
code_text file Plain place = frames_text (frames_of_file file place)
code_text file Offsets place = displaced_frames (frames_of_file file place)
code_text file Variables place = variables_text file place
