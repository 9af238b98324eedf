-- What contracts see of an index, and of what it gives.
use Rattle.std.specs.Prelude.{◌≡◌, ℕ, List, [], ◌∷◌, Bool, false, Option, Some, None, Result, Ok, Err}
use Rattle.std.specs.Option.{option_map}
use Rattle.std.specs.Result.{result_ok}
use Rattle.pdb_index.specs.declared.error.Damaged.{Damaged}
use Rattle.pdb_index.specs.declared.error.OpenError.{OpenError}
use Rattle.pdb_index.specs.declared.frames.Frames.{Frames}
use Rattle.pdb_index.specs.declared.frames.Next.{Next}
use Rattle.pdb_index.specs.declared.frames.Next.TheVariants.{Unknown, Node, End}
use Rattle.pdb_index.specs.declared.index.Index.{Index}
use Rattle.pdb_index.specs.declared.layout.Layout.{Layout}
use Rattle.pdb_index.specs.declared.nodes.Frame.{Frame}
use Rattle.pdb_index.specs.declared.runs.Run.{Run}
use Rattle.pdb_index.specs.declared.segments.Place.{Place}
use Rattle.pdb_index.specs.IndexHeader.{error_of}
use Rattle.pdb_index.specs.IndexLayout.{layout_of}
use Rattle.pdb_index.specs.NodeFrames.{Told, nothing, stack_of}
use Rattle.pdb_index.specs.NodeViews.{told}
use Rattle.pdb_index.specs.SectionRuns.{IsRunAt}
use Rattle.pdb_index.specs.Segments.{IsPlaceOf}

-- the bytes of an index
abbrev pub index_bytes : Index → List ℕ
index_bytes i = i.bytes.now

-- an index of these bytes, or why they don't open as one
abbrev pub Opens : List ℕ → Result Index OpenError → Type 0
Opens b (Ok i) = (error_of b ≡ None) × (index_bytes i ≡ b)
Opens b (Err e) = error_of b ≡ Some e

-- the place of an address, or damage
abbrev pub GivesPlace : List ℕ → ℕ → Result (Option Place) Damaged → Type 0
GivesPlace b address result = IsPlaceOf b (layout_of b) address (result_ok result)

-- the run at a place, or damage
abbrev pub GivesRunAt : List ℕ → Place → Result (Option Run) Damaged → Type 0
GivesRunAt b place result = IsRunAt b (layout_of b) place.section place.offset (result_ok result)

-- the frames of a run, and the damage behind them, None; of no run one frame that tells nothing
abbrev pub frames_of : List ℕ → Option Run → List (Option Told)
frames_of b None = Some nothing ∷ []
frames_of b (Some run) = stack_of b (layout_of b) (layout_of b).deepest run.node

-- whether the module of a run's code has damage
abbrev pub damage_of : Option Run → Bool
damage_of None = false
damage_of (Some run) = run.is_damaged

abbrev pub left_by : List ℕ → Layout → Next → List (Option Told)
left_by b t Unknown = Some nothing ∷ []
left_by b t (Node number left) = stack_of b t left number
left_by b t End = []

-- the frames that are left, and the damage behind them
abbrev pub frames_left : Frames → List (Option Told)
frames_left f = left_by f.index.bytes.now f.index.layout f.next

-- whether the module of the code has damage
abbrev pub frames_damage : Frames → Bool
frames_damage f = f.is_damaged

-- what an item tells, or damage
abbrev pub item_told : Result Frame Damaged → Option Told
item_told item = option_map told (result_ok item)

-- the frames of a run, where there is no damage in its place
abbrev pub GivesFramesOf : List ℕ → Option (Option Run) → Result Frames Damaged → Type 0
GivesFramesOf b None result = result_ok result ≡ None
GivesFramesOf b (Some run) (Ok frames) = (frames_left frames ≡ frames_of b run) × (frames_damage frames ≡ damage_of run)
GivesFramesOf b (Some run) (Err e) = ⊥

-- the run of a place that an address may have
abbrev pub IsRunBy : List ℕ → Option (Option Place) → Option (Option Run) → Type 0
IsRunBy b None run = run ≡ None
IsRunBy b (Some None) run = run ≡ Some None
IsRunBy b (Some (Some place)) run = IsRunAt b (layout_of b) place.section place.offset run

-- the run of an address, by its place; or damage
abbrev pub IsRunOf : List ℕ → ℕ → Option (Option Run) → Type 0
IsRunOf b address run = (place : Option (Option Place)) × IsPlaceOf b (layout_of b) address place × IsRunBy b place run

abbrev pub GivesRun : List ℕ → ℕ → Result (Option Run) Damaged → Type 0
GivesRun b address result = IsRunOf b address (result_ok result)

-- the frames of an address, by its run; or damage
abbrev pub GivesFrames : List ℕ → ℕ → Result Frames Damaged → Type 0
GivesFrames b address result = (run : Option (Option Run)) × IsRunOf b address run × GivesFramesOf b run result
