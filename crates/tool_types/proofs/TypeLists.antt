-- The texts of a list of types.
use Rattle.std.proofs.Common.{◌≡◌, ℕ, List, [], ◌∷◌, ◌++◌, Some, refl, append_assoc, arith, flat_map, length}
use Rattle.std.proofs.lemmas.Grind.{common_steps}
use Rattle.pdb.specs.Error.{Error}
use Rattle.pdb.specs.Items.{ItemEntry}
use Rattle.pdb.specs.Left.{Left, Follows, Ends}
use Rattle.tool_output.specs.ErrorLine.{error_line, fault_line}
use Rattle.tool_types.specs.TypeLines.{Types}
use Rattle.tool_types.specs.TypeTexts.{index_lines, item_lines, types_command, types_in, types_left}

pub next_type : (t : Types) (old new : Left ItemEntry) (x : ItemEntry) → Follows old (x ∷ []) new → types_left t old ≡ item_lines t x ++ types_left t new
next_type t old new x h = rw (h.0, h.1) (append_assoc (item_lines t x) (flat_map (item_lines t) new.items) (fault_line new.fault))

pub fault_of_types : (t : Types) (old new : Left ItemEntry) (e : Error) → Ends old [] (Some e) new → types_left t old ≡ error_line e
fault_of_types t old new e h = rw (h.0, h.1) refl

-- ---- the text of some indices, and that of all types

pub some_types : (file is : List ℕ) (i : ℕ) (rest : List ℕ) → is ≡ i ∷ rest → types_command file is ≡ flat_map (index_lines (types_in file)) is
some_types file is i rest e = rw e refl

pub no_types : (file is : List ℕ) → length is ≡ 0 → types_command file is ≡ types_command file []
no_types file [] e = refl
no_types file (i ∷ is) e = absurd (grind (arith, common_steps, e))
