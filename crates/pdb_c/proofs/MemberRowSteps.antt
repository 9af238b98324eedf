-- Rows of members that are put whole at once.
use Rattle.std.proofs.Common.{◌≡◌, ℕ, List, length, map, sym, ap, ◌∙◌}
use Rattle.std.proofs.lemmas.List.{length-map}
use Rattle.pdb_c.specs.Rooms.{over}
use Rattle.pdb_c.specs.Boundary.{room_code}
use Rattle.pdb_c.specs.MemberRows.{AreMembers, seen}
use Rattle.pdb_c.specs.declared.members.PdbMember.{PdbMember}
use Rattle.pdb_c.proofs.Putting.{map_over, over_length}

pub members_put : (rows before after : List PdbMember) (c : ℕ) → after ≡ over rows before → c ≡ room_code (length after) (length rows) → AreMembers (map seen rows) c before after (length rows)
members_put rows before after c put code =
    let size : length rows ≡ length (map seen rows) = sym (length-map rows seen) in
    let room : length after ≡ length before = ap (λ (ys : List PdbMember). length ys) put ∙ over_length rows before in
    record {
      rows = ap (map seen) put ∙ map_over seen rows before;
      size = size;
      code = code ∙ ap (λ (k : ℕ). room_code k (length rows)) room ∙ ap (λ (k : ℕ). room_code (length before) k) size;
    }
