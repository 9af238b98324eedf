-- Where the tables of an index stand, by the counts and the widths of its header.
use Rattle.std.specs.Prelude.{◌≡◌, ℕ, ◌+◌, ◌*◌, ◌^◌, ◌<◌, ◌≤◌, List, Bool, ◌&&◌, nat_le, ◌==◌, if◌then◌else◌}
use Rattle.pdb_base.specs.Fields.{number}
use Rattle.pdb_index.specs.declared.layout.Table.{Table}
use Rattle.pdb_index.specs.declared.layout.NodeFields.{NodeFields}
use Rattle.pdb_index.specs.declared.layout.Layout.{Layout}

-- the offset behind the last row
abbrev pub end_of : Table → ℕ
end_of t = t.base + t.width * t.rows

-- its end is reckoned in 64 bits
abbrev pub IsNear : Table → Type 0
IsNear t = (t.base < 2 ^ 50) × (t.rows ≤ 2 ^ 32) × (t.width < 2 ^ 11)

-- a table behind another
abbrev pub table_behind : Table → ℕ → ℕ → Table
table_behind t rows width = record { base = end_of t; rows = rows; width = width }

-- the number of w bytes, so many bytes within row k
abbrev pub field_at : List ℕ → Table → ℕ → ℕ → ℕ → ℕ
field_at b t k within w = number b (t.base + t.width * k + within) w

-- the number of four bytes there
abbrev pub word_at : List ℕ → Table → ℕ → ℕ → ℕ
word_at b t k within = field_at b t k within 4

-- the number with which row k begins
abbrev pub start_of : List ℕ → Table → ℕ → ℕ
start_of b t k = word_at b t k 0

-- the widths of the nodes' fields
abbrev pub fields_of : List ℕ → NodeFields
fields_of b = record { outer = number b 81 1; function = number b 82 1; file = number b 83 1; line = number b 84 1; column = number b 85 1 }

abbrev pub node_width : NodeFields → ℕ
node_width f = f.outer + f.function + f.file + f.line + f.column

-- a row of sections has a third number where there are steps
abbrev pub section_width : List ℕ → ℕ
section_width b = if number b 88 4 == 0 then 8 else 12

abbrev pub segments_of : List ℕ → Table
segments_of b = record { base = 96; rows = number b 40 4; width = 12 }

-- the sections, and a last row behind them
abbrev pub sections_of : List ℕ → Table
sections_of b = table_behind (segments_of b) (number b 44 4 + 1) (section_width b)

abbrev pub steps_of : List ℕ → Table
steps_of b = table_behind (sections_of b) (number b 88 4) 4

abbrev pub starts_of : List ℕ → Table
starts_of b = table_behind (steps_of b) (number b 48 4) 4

abbrev pub values_of : List ℕ → Table
values_of b = table_behind (starts_of b) (number b 48 4) (number b 80 1)

abbrev pub nodes_of : List ℕ → Table
nodes_of b = table_behind (values_of b) (number b 52 4) (node_width (fields_of b))

abbrev pub functions_of : List ℕ → Table
functions_of b = table_behind (nodes_of b) (number b 56 4) 16

abbrev pub files_of : List ℕ → Table
files_of b = table_behind (functions_of b) (number b 60 4) 8

abbrev pub names_of : List ℕ → Table
names_of b = table_behind (files_of b) (number b 64 4) 1

-- all tables, one behind another from 96 on, and what else look-ups need of the header
unfoldable pub layout_of : List ℕ → Layout
layout_of b =
    record {
      segments = segments_of b;
      sections = sections_of b;
      steps = steps_of b;
      starts = starts_of b;
      values = values_of b;
      nodes = nodes_of b;
      functions = functions_of b;
      files = files_of b;
      names = names_of b;
      fields = fields_of b;
      shift = number b 86 1;
      deepest = number b 68 4;
    }

-- each field has at most four bytes, and steps are of less than 2 ^ 32 bytes
abbrev pub has_narrow_fields : Layout → Bool
has_narrow_fields t =
    nat_le t.values.width 4 && nat_le t.fields.outer 4 && nat_le t.fields.function 4 && nat_le t.fields.file 4
    && nat_le t.fields.line 4 && nat_le t.fields.column 4 && nat_le t.shift 31

-- the widths of words and names
abbrev pub HasWordTables : Layout → Type 0
HasWordTables t = (t.segments.width ≡ 12) × (t.steps.width ≡ 4) × (t.starts.width ≡ 4) × (t.functions.width ≡ 16) × (t.files.width ≡ 8) × (t.names.width ≡ 1)

-- the widths of sections, by whether there are steps, and of nodes, by their fields
abbrev pub HasOtherTables : Layout → Type 0
HasOtherTables t = (8 ≤ t.sections.width) × (t.sections.width ≤ 12) × (t.nodes.width ≡ node_width t.fields) × (t.values.rows ≡ t.starts.rows)

-- rows have numbers of 32 bits
abbrev pub HasRows : Layout → Type 0
HasRows t =
    (t.segments.rows < 2 ^ 32) × (1 ≤ t.sections.rows) × (t.sections.rows ≤ 2 ^ 32) × (t.starts.rows < 2 ^ 32)
    × (t.nodes.rows < 2 ^ 32) × (t.functions.rows < 2 ^ 32) × (t.files.rows < 2 ^ 32) × (t.names.rows < 2 ^ 32)

-- each field has at most four bytes
abbrev pub HasNarrowFields : Layout → Type 0
HasNarrowFields t =
    (t.values.width ≤ 4) × (t.fields.outer ≤ 4) × (t.fields.function ≤ 4) × (t.fields.file ≤ 4) × (t.fields.line ≤ 4) × (t.fields.column ≤ 4) × (t.shift ≤ 31)

-- each table ends before byte n
abbrev pub IsInside : Layout → ℕ → Type 0
IsInside t n =
    (end_of t.segments ≤ n) × (end_of t.sections ≤ n) × (end_of t.steps ≤ n) × (end_of t.starts ≤ n) × (end_of t.values ≤ n)
    × (end_of t.nodes ≤ n) × (end_of t.functions ≤ n) × (end_of t.files ≤ n) × (end_of t.names ≤ n)
