-- The names of trampolines: the jumps that a linker makes.
use Rattle.std.specs.Prelude.{ℕ, List, [], ◌∷◌, ◌++◌, codes, Option, Some, None}
use Rattle.std.specs.Fmt.{decimal}
use Rattle.pdb_symbols.specs.declared.thunks.TrampolineType.{TrampolineType}
use Rattle.pdb_symbols.specs.declared.thunks.TrampolineType.TheVariants.{Incremental, BranchIsland, Unknown}

-- what the name begins with: ILT is the linker's incremental link table
abbrev pub prefix_of : TrampolineType → List ℕ
prefix_of Incremental = codes "ILT"
prefix_of BranchIsland = codes "island"
prefix_of Unknown = codes "ILT"

-- the name of what a trampoline leads to
abbrev pub target_text : Option (List ℕ) → List ℕ
target_text None = codes "??"
target_text (Some []) = codes "??"
target_text (Some (b ∷ name)) = b ∷ name

-- ILT+N(NAME), where N is how far it is behind the first trampoline of its section
abbrev pub leading_text : TrampolineType → ℕ → Option (List ℕ) → List ℕ
leading_text kind number name = prefix_of kind ++ codes "+" ++ decimal number ++ codes "(" ++ target_text name ++ codes ")"
