use Rattle.std.proofs.Common.{◌≡◌, take}
use Rattle.pdb_paths.specs.FileNames.{lower}
use Rattle.pdb_paths.proofs.file_names.to_lower.Given as goal

-- the bytes so far were put
abbrev pub invariant-loop-byte : goal.invariant-loop-byte
invariant-loop-byte l = l.lower.items ≡ lower (take l.byte-index l.text)
