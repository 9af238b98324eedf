use Rattle.std.proofs.Common.{◌≡◌, drop}
use Rattle.std.specs.List.{list_all}
use Rattle.pdb_paths.specs.FileNames.{is_name_byte}
use Rattle.pdb_paths.proofs.file_names.has_name_bytes.Given as goal

-- all bytes are of names where those that are left are
abbrev pub invariant-loop-byte : goal.invariant-loop-byte
invariant-loop-byte l = list_all is_name_byte l.name ≡ list_all is_name_byte (drop l.byte-index l.name)
