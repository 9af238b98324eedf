-- The frames of nodes, and the stacks that they make.
use Rattle.std.specs.Prelude.{ℕ, zero, suc, ◌+◌, ◌-◌, List, [], ◌∷◌, take, drop, Option, Some, None, option_and_then, ◌==◌, nat_le, nat_lt, if◌then◌else◌}
use Rattle.std.specs.Option.{option_map}
use Rattle.pdb_index.specs.declared.layout.Layout.{Layout}
use Rattle.pdb_index.specs.declared.layout.Table.{Table}
use Rattle.pdb_index.specs.declared.nodes.Node.{Node}
use Rattle.pdb_index.specs.IndexLayout.{field_at, word_at}

-- a frame without where its names lie in memory
pub record Told : Type 0 where
  pub name : Option (List ℕ)
  pub start : Option ℕ
  pub file : Option (List ℕ)
  pub line : ℕ
  pub column : ℕ

-- the name and the start of a function
pub record Named : Type 0 where
  pub name : Option (List ℕ)
  pub start : Option ℕ

-- the frame that tells nothing
abbrev pub nothing : Told
nothing = record { name = None; start = None; file = None; line = 0; column = 0 }

-- the fields of node k, one behind another
unfoldable pub node_of : List ℕ → Layout → ℕ → Node
node_of b t k =
    record {
      outer = field_at b t.nodes k 0 t.fields.outer;
      function = field_at b t.nodes k t.fields.outer t.fields.function;
      file = field_at b t.nodes k (t.fields.outer + t.fields.function) t.fields.file;
      line = field_at b t.nodes k (t.fields.outer + t.fields.function + t.fields.file) t.fields.line;
      column = field_at b t.nodes k (t.fields.outer + t.fields.function + t.fields.file + t.fields.line) t.fields.column;
    }

-- so many bytes of the names, where these have them
abbrev pub part_of_names : List ℕ → Table → ℕ → ℕ → Option (List ℕ)
part_of_names b names place size = if nat_lt names.rows (place + size) then None else Some (take size (drop (names.base + place) b))

-- the name with whose place and size row k of a table begins
unfoldable pub name_of : List ℕ → Layout → Table → ℕ → Option (List ℕ)
name_of b t table k = part_of_names b t.names (word_at b table k 0) (word_at b table k 4)

-- the start of function k, where it has one
abbrev pub start_at : List ℕ → Layout → ℕ → Option ℕ
start_at b t k = if word_at b t.functions k 12 == 0 then None else Some (word_at b t.functions k 8)

-- function k; 0 is none
unfoldable pub function_of : List ℕ → Layout → ℕ → Option Named
function_of b t k =
    if nat_le t.functions.rows k then None
    else (if k == 0 then Some (record { name = None; start = None })
    else option_map (λ n. record { name = Some n; start = start_at b t k }) (name_of b t t.functions k))

-- the name of file k; 0 is none
unfoldable pub file_of : List ℕ → Layout → ℕ → Option (Option (List ℕ))
file_of b t k =
    if nat_le t.files.rows k then None
    else (if k == 0 then Some None
    else option_map Some (name_of b t t.files k))

-- the frame of a node's fields, and how far the node outside stands before it
abbrev pub frame_by : List ℕ → Layout → Node → Option (Told × ℕ)
frame_by b t n =
    option_and_then (λ function. option_and_then (λ file.
    Some (record { name = function.name; start = function.start; file = file; line = n.line; column = n.column }, n.outer))
    (file_of b t n.file)) (function_of b t n.function)

-- the frame of node k, and how far the node outside stands before it, 0 for none; or damage
unfoldable pub frame_of : List ℕ → Layout → ℕ → Option (Told × ℕ)
frame_of b t k =
    if nat_le t.nodes.rows k then None
    else (if nat_lt k (node_of b t k).outer then None
    else frame_by b t (node_of b t k))

-- a frame, and those outside of it, or damage
abbrev pub with_outer : (ℕ → List (Option Told)) → ℕ → Option (Told × ℕ) → List (Option Told)
with_outer rest k None = None ∷ []
with_outer rest k (Some f) = Some f.0 ∷ (if f.1 == 0 then [] else rest (k - f.1))

-- the frames from node k outwards, at most n of them; the last is None where the index is damaged, or has more
unfoldable pub stack_of : List ℕ → Layout → ℕ → ℕ → List (Option Told)
stack_of b t zero k = None ∷ []
stack_of b t (suc n) k = with_outer (stack_of b t n) k (frame_of b t k)
