-- The lines of `key`: of a PDB, and of an image with the PDB that it names.
use Rattle.std.specs.Prelude.{ℕ, List, ◌++◌, codes, Option, Some, None, Result, Ok, Err, if◌then◌else◌}
use Rattle.json.specs.Json.{Json, null, object, Members, no_members, member}
use Rattle.pdb.specs.Error.{Error}
use Rattle.pdb_image.specs.declared.error.ImageError.{ImageError}
use Rattle.pdb_image.specs.Debug.{Reference}
use Rattle.pdb_image.specs.Headers.{is_image}
use Rattle.pdb_image.specs.Images.{Said, image_of}
use Rattle.pdb_text.specs.OneLine.{one_line}
use Rattle.pdb.specs.Keys.{key_of_file, key_text}
use Rattle.tool_fields.specs.Values.{behind_blank}
use Rattle.tool_output.specs.Objects.{json_line, text_value}
use Rattle.tool_output.specs.Stops.{stop_of_opening}
use Rattle.tool_program.specs.KeyPaths.{image_paths, pdb_path}
use Rattle.tool_program.specs.OwnKeys.{own_key}
use Rattle.tool_arguments.specs.declared.options.KeyFormat.{KeyFormat}
use Rattle.tool_arguments.specs.declared.options.KeyFormat.TheVariants.{Names, Paths, Json as Objects}
use Rattle.tool_output.specs.declared.stop.Stop.{Stop}
use Rattle.tool_output.specs.declared.stop.Stop.TheVariants.{Image, Memory, Open, Read}

-- the key and the path of the PDB that an image names
abbrev pub pdb_named : Option Reference → List ℕ
pdb_named None = codes "- -"
pdb_named (Some r) = key_text r.guid r.age ++ behind_blank r.path

-- of an image that says this
unfoldable pub image_text : List ℕ → Said → List ℕ
image_text name i = own_key i.time_stamp i.size ++ codes " " ++ one_line name ++ codes " " ++ pdb_named i.pdb ++ codes "\n"

-- of a PDB with this key
abbrev pub pdb_text : List ℕ → List ℕ → List ℕ
pdb_text name key = key ++ codes " " ++ one_line name ++ codes "\n"

-- ---- as JSON objects

abbrev pub pdb_members : Option Reference → Members
pdb_members None = member (codes "pdb_key") null (member (codes "pdb") null no_members)
pdb_members (Some r) = member (codes "pdb_key") (text_value (key_text r.guid r.age)) (member (codes "pdb") (text_value r.path) no_members)

abbrev pub image_value : List ℕ → Said → Json
image_value name i = object (member (codes "key") (text_value (own_key i.time_stamp i.size)) (member (codes "file") (text_value name) (pdb_members i.pdb)))

abbrev pub pdb_value : List ℕ → List ℕ → Json
pdb_value name key = object (member (codes "key") (text_value key) (member (codes "file") (text_value name) no_members))

-- ---- in a format

abbrev pub image_in : KeyFormat → List ℕ → Said → List ℕ
image_in Names name i = image_text name i
image_in Paths name i = image_paths name i
image_in Objects name i = json_line (image_value name i)

abbrev pub image_line : KeyFormat → List ℕ → Result Said ImageError → Result (List ℕ) Stop
image_line format name (Ok i) = Ok (image_in format name i)
image_line format name (Err e) = Err (Image e)

abbrev pub pdb_in : KeyFormat → List ℕ → List ℕ → List ℕ
pdb_in Names name key = pdb_text name key
pdb_in Paths name key = pdb_path name key
pdb_in Objects name key = json_line (pdb_value name key)

abbrev pub pdb_line : KeyFormat → List ℕ → Result (List ℕ) Error → Result (List ℕ) Stop
pdb_line format name (Ok key) = Ok (pdb_in format name key)
pdb_line format name (Err e) = Err (stop_of_opening e)

-- the line of a file of this name, or why it has none
unfoldable pub key_line : KeyFormat → List ℕ → List ℕ → Result (List ℕ) Stop
key_line format name file = if is_image file then image_line format name (image_of file) else pdb_line format name (key_of_file file)

-- ---- the key under which a store has a file: of an image its own, else that of the PDB

abbrev pub image_key : Result Said ImageError → Result (List ℕ) Stop
image_key (Ok i) = Ok (own_key i.time_stamp i.size)
image_key (Err e) = Err (Image e)

abbrev pub or_stopped : Result (List ℕ) Error → Result (List ℕ) Stop
or_stopped (Ok key) = Ok key
or_stopped (Err e) = Err (stop_of_opening e)

unfoldable pub file_key : List ℕ → Result (List ℕ) Stop
file_key file = if is_image file then image_key (image_of file) else or_stopped (key_of_file file)

-- why a file has no line: a read error only where io holds
abbrev pub StopsLine : Type 0 → Stop → Type 0
StopsLine io Memory = Unit {0}
StopsLine io Read = io
StopsLine io (Open e) = Unit {0}
StopsLine io (Image e) = Unit {0}
StopsLine io stop = ⊥
