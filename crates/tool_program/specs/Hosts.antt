-- The files that a program is given.
use Rattle.std.specs.Prelude.{◌≡◌, ◌≢◌, ℕ, List, length, Bool, true, ◌⊎◌, Option, Some, Result, Ok, Err, IsErrOf}
use Rattle.std.specs.Option.{ForSome}
use Rattle.pdb.specs.Source.{IsKnown, State}
use Rattle.pdb_file.specs.FileBytes.{size_by}
use Rattle.pdb_file.specs.declared.bytes.FileBytes.{FileBytes}
use Rattle.tool_output.specs.declared.stop.Stop.{Stop}
use Rattle.tool_output.specs.declared.stop.Stop.TheVariants.{Memory, Read}

-- the bytes of an opened file are known, no read of them fails, and these are all
pub record IsFile (known : Option (List ℕ)) (steady : Bool) (size : ℕ) (file : List ℕ) : Type 0 where
  pub bytes : known ≡ Some file
  pub reads : steady ≡ true
  pub all : length file ≡ size

-- what holds of a file of this size, where its bytes are known
abbrev pub OfKnown : Option (List ℕ) → ℕ → (List ℕ → Type 0) → Type 0
OfKnown known size P = ForSome known (λ file. length file ≡ size → P file)

-- the same of the file of a source
abbrev pub OfSource : State → ℕ → (List ℕ → Type 0) → Type 0
OfSource source size P = IsKnown source → length source.file ≡ size → P source.file

-- a call stops as is said, unless memory runs out or a read fails
abbrev pub StopsAs : {X Y : Type 0} → Result X Stop → Result Y Stop → Type 0
StopsAs result said = (s : Stop) → s ≢ Memory → s ≢ Read → IsErrOf result s → said ≡ Err s

-- what was opened are all bytes of a file, and it failed for its reason, or since memory ran out
abbrev pub OpensAs : {R : Type 0} → (FileBytes R → Option (List ℕ)) → (FileBytes R → Bool) → Result (FileBytes R) Stop → Result (List ℕ) Stop → Type 0
OpensAs known steady (Ok b) (Ok file) = IsFile (known b) (steady b) (size_by b) file
OpensAs known steady (Ok b) (Err s) = ⊥
OpensAs known steady (Err s) file = (s ≡ Memory) ⊎ (file ≡ Err s)
