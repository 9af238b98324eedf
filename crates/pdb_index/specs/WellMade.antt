-- Indexes whose tables agree with each other, as the writer makes them.
use Rattle.std.specs.Prelude.{◌≡◌, ℕ, zero, suc, ◌+◌, ◌-◌, ◌/◌, ◌<◌, ◌≤◌, List, length, slice_index, Bool, true, false, ◌||◌, None, nat_le, ◌==◌}
use Rattle.pdb_index.specs.declared.layout.Layout.{Layout}
use Rattle.pdb_index.specs.IndexHeader.{error_of}
use Rattle.pdb_index.specs.IndexLayout.{field_at, layout_of, start_of, word_at}
use Rattle.pdb_index.specs.NodeFrames.{node_of}
use Rattle.pdb_index.specs.Searches.{Rises}

-- the first run of the section of row k
abbrev pub first_run : List ℕ → Layout → ℕ → ℕ
first_run b t k = word_at b t.sections k 4

-- the runs from `first` on and before `behind`: the first begins at 0, and they rise
pub record HasRuns (b : List ℕ) (t : Layout) (first behind : ℕ) : Type 0 where
  pub from : start_of b t.starts first ≡ 0
  pub rise : Rises (start_of b t.starts) first behind

-- the runs of the section of row k do
abbrev pub HasRunsOfRow : List ℕ → Layout → ℕ → Type 0
HasRunsOfRow b t k = HasRuns b t (first_run b t k) (first_run b t (k + 1))

-- segments rise, from address 0 on
pub record HasRisingSegments (b : List ℕ) (t : Layout) : Type 0 where
  pub from : start_of b t.segments 0 ≡ 0
  pub rise : Rises (start_of b t.segments) 0 t.segments.rows

-- sections rise, and so do their first runs, from 0 to the number of runs
pub record HasRisingSections (b : List ℕ) (t : Layout) : Type 0 where
  pub sections : Rises (start_of b t.sections) 0 t.sections.rows
  pub runs : Rises (first_run b t) 0 t.sections.rows
  pub from : first_run b t 0 ≡ 0
  pub to : first_run b t (t.sections.rows - 1) ≡ t.starts.rows

-- the runs of each section begin at 0 and rise
pub record HasRisingStarts (b : List ℕ) (t : Layout) : Type 0 where
  pub each : (k : ℕ) → k + 1 < t.sections.rows → HasRunsOfRow b t k

-- all that rises
pub record IsRising (b : List ℕ) (t : Layout) : Type 0 where
  pub segments : HasRisingSegments b t
  pub sections : HasRisingSections b t
  pub starts : HasRisingStarts b t

-- each of the n rows of a table begins with the place and the size of a name
abbrev pub HasNames : List ℕ → Layout → (ℕ → ℕ → ℕ) → ℕ → Type 0
HasNames b t word n = (k : ℕ) → k < n → word k 0 + word k 4 ≤ t.names.rows

-- node k names a function and a file, and the node outside of it is there
pub record IsNode (b : List ℕ) (t : Layout) (k : ℕ) : Type 0 where
  pub outwards : (node_of b t k).outer ≤ k
  pub function : (node_of b t k).function < t.functions.rows
  pub file : (node_of b t k).file < t.files.rows

-- what each node names is there
pub record HasNodes (b : List ℕ) (t : Layout) : Type 0 where
  pub each : (k : ℕ) → k < t.nodes.rows → IsNode b t k

-- there are a segment, a node, a function and a file
abbrev pub HasSome : Layout → Type 0
HasSome t = (1 ≤ t.segments.rows) × (1 ≤ t.nodes.rows) × (1 ≤ t.functions.rows) × (1 ≤ t.files.rows)

-- the section of each segment is one of an image, or none
abbrev pub HasSections : List ℕ → Layout → Type 0
HasSections b t = (k : ℕ) → k < t.segments.rows → word_at b t.segments k 4 < 65536

-- the node of each run is there
abbrev pub HasRunNodes : List ℕ → Layout → Type 0
HasRunNodes b t = (k : ℕ) → k < t.starts.rows → field_at b t.values k 0 t.values.width / 2 < t.nodes.rows

-- what is named is there
pub record NamesWhatIsThere (b : List ℕ) (t : Layout) : Type 0 where
  pub some : HasSome t
  pub sections : HasSections b t
  pub runs : HasRunNodes b t
  pub nodes : HasNodes b t
  pub functions : HasNames b t (word_at b t.functions) t.functions.rows
  pub files : HasNames b t (word_at b t.files) t.files.rows

-- whether the stack of node k has at most n frames
unfoldable pub is_shallow : List ℕ → Layout → ℕ → ℕ → Bool
is_shallow b t zero k = false
is_shallow b t (suc n) k = (node_of b t k).outer == 0 || is_shallow b t n (k - (node_of b t k).outer)

-- the stack of node k has d frames
pub record IsDepth (b : List ℕ) (t : Layout) (k d : ℕ) : Type 0 where
  pub each : (n : ℕ) → is_shallow b t n k ≡ nat_le d n

-- the stacks of the first nodes have so many frames
pub record AreDepths (b : List ℕ) (t : Layout) (depths : List ℕ) : Type 0 where
  pub each : (k : ℕ) → k < length depths → IsDepth b t k (slice_index depths k)
  pub within : (k : ℕ) → k < length depths → slice_index depths k ≤ t.deepest

-- no stack has more frames than the header says
pub record AreShallow (b : List ℕ) (t : Layout) : Type 0 where
  pub each : (k : ℕ) → k < t.nodes.rows → is_shallow b t t.deepest k ≡ true

-- bytes that open as an index whose tables agree
pub record IsWellMade (b : List ℕ) : Type 0 where
  pub whole : error_of b ≡ None
  pub rising : IsRising b (layout_of b)
  pub named : NamesWhatIsThere b (layout_of b)
  pub shallow : AreShallow b (layout_of b)
