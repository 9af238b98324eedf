use Rattle.std.proofs.Common.{◌≡◌, map, take}
use Rattle.std.specs.Prelude.{Some}
use Rattle.pdb_names.specs.Pieces.{each}
use Rattle.pdb_names.specs.RustNames.{rust_part}
use Rattle.pdb_names.proofs.rust_name.part_texts.Given as goal

abbrev pub invariant-loop-part : goal.invariant-loop-part
invariant-loop-part l = each rust_part (map (λ v. v.items) (take l.part-index l.parts)) ≡ Some (map (λ v. v.items) l.texts.items)
