-- The text of `sources` of a module: the files of its lines.
use Rattle.std.specs.Prelude.{ℕ, List, [], ◌∷◌, ◌++◌, flat_map, codes, Option}
use Rattle.json.specs.Json.{Json, null, object, Members, no_members, member}
use Rattle.pdb.specs.Left.{Left}
use Rattle.pdb.specs.Files.{FileOf, Checksum, files_of}
use Rattle.pdb.specs.Files.Checksum.{absent, md5, sha1, sha256}
use Rattle.pdb.specs.ModuleStream.{ModuleBytes, line_program_of}
use Rattle.pdb_text.specs.Digits.{hex}
use Rattle.pdb_resolve.specs.Frames.{file_text, string_in}
use Rattle.tool_output.specs.ErrorObjects.{fault_of, told_of}
use Rattle.tool_search.specs.FrameObjects.{file_value}
use Rattle.tool_output.specs.Objects.{json_line, number_value, text_value}
use Rattle.tool_arguments.specs.declared.options.OutputFormat.{OutputFormat}
use Rattle.tool_arguments.specs.declared.options.OutputFormat.TheVariants.{Text, Json as Objects}

-- the bytes of a digest in hex digits; `-` where there are none
abbrev pub digest_text : List ℕ → List ℕ
digest_text [] = codes "-"
digest_text (b ∷ bytes) = flat_map (hex 2) (b ∷ bytes)

-- the kind of a checksum, and its digest
abbrev pub checksum_text : Checksum → List ℕ
checksum_text absent = codes "none -"
checksum_text (md5 digest) = codes "md5 " ++ digest_text digest
checksum_text (sha1 digest) = codes "sha1 " ++ digest_text digest
checksum_text (sha256 digest) = codes "sha256 " ++ digest_text digest

-- the line of a file, whose name is in the string table
unfoldable pub source_line : Option (List ℕ) → FileOf → List ℕ
source_line strings f = checksum_text f.checksum ++ codes " " ++ file_text (string_in strings f.name) ++ codes "\n"

-- ---- as a JSON object

-- the bytes of a digest in hex digits; `null` where there are none
abbrev pub digest_value : List ℕ → Json
digest_value [] = null
digest_value (b ∷ bytes) = text_value (flat_map (hex 2) (b ∷ bytes))

abbrev pub kind_of : Checksum → List ℕ
kind_of absent = codes "none"
kind_of (md5 digest) = codes "md5"
kind_of (sha1 digest) = codes "sha1"
kind_of (sha256 digest) = codes "sha256"

abbrev pub digest_of : Checksum → List ℕ
digest_of absent = []
digest_of (md5 digest) = digest
digest_of (sha1 digest) = digest
digest_of (sha256 digest) = digest

abbrev pub name_member : Option (List ℕ) → Members
name_member name = member (codes "file") (file_value name) no_members

abbrev pub digest_members : List ℕ → Option (List ℕ) → Members
digest_members digest name = member (codes "digest") (digest_value digest) (name_member name)

abbrev pub checksum_members : List ℕ → List ℕ → Option (List ℕ) → Members
checksum_members kind digest name = member (codes "checksum") (text_value kind) (digest_members digest name)

-- of a file of module k, with the kind and the bytes of its checksum, and its name
abbrev pub source_value : ℕ → List ℕ → List ℕ → Option (List ℕ) → Json
source_value k kind digest name = object (member (codes "module") (number_value k) (checksum_members kind digest name))

-- ---- in a format

abbrev pub source_in : OutputFormat → ℕ → Option (List ℕ) → FileOf → List ℕ
source_in Text k strings f = source_line strings f
source_in Objects k strings f = json_line (source_value k (kind_of f.checksum) (digest_of f.checksum) (string_in strings f.name))

-- the lines of the files of module k, and then that of their fault
abbrev pub source_lines : OutputFormat → ℕ → Option (List ℕ) → Left FileOf → List ℕ
source_lines format k strings left = flat_map (source_in format k strings) left.items ++ fault_of format k left.fault

unfoldable pub sources_text : OutputFormat → ℕ → Option (List ℕ) → ModuleBytes → List ℕ
sources_text format k strings m = told_of format k (line_program_of m) (λ program. source_lines format k strings (files_of program.checksums))
