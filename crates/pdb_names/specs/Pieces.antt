-- What the rules share: steps that may give no answer, pieces up to an end, and texts that are joined.
use Rattle.std.specs.Prelude.{◌≡◌, ℕ, zero, suc, List, [], ◌∷◌, ◌++◌, length, Bool, Option, Some, None, option_and_then, Result, Ok, Err, codes, nat_lt, if◌then◌else◌}
use Rattle.std.specs.List.{join_by}
use Rattle.pdb_names.specs.declared.pieces.Stop.{Stop}
use Rattle.pdb_names.specs.declared.pieces.Stop.TheVariants.{NoAnswer, OutOfMemory}

-- what is read first, and then the rest; or no answer
infixl 10 ◌>>=◌
abbrev pub ◌>>=◌ : {A B : Type 0} → Option A → (A → Option B) → Option B
o >>= f = option_and_then f o

-- piece behind piece, up to where an end stands: at most n. Each takes a byte, so one more than are left are enough
unfoldable pub until : {S : Type 0} → (S → Bool) → (S → Option S) → ℕ → S → Option S
until is_end piece zero s = None
until is_end piece (suc n) s = if is_end s then Some s else option_and_then (until is_end piece n) (piece s)

-- what each of the texts becomes, where all of them become one
unfoldable pub each : (List ℕ → Option (List ℕ)) → List (List ℕ) → Option (List (List ℕ))
each f [] = Some []
each f (t ∷ ts) = option_and_then (λ u. option_and_then (λ us. Some (u ∷ us)) (each f ts)) (f t)

-- texts in one, with a mark between them
abbrev pub joined : List ℕ → List (List ℕ) → List ℕ
joined mark ts = join_by (λ t. t) mark ts

-- a text with a mark behind it, unless no text is there yet
abbrev pub behind_mark : Bool → List ℕ → List ℕ → List ℕ
behind_mark is_first mark now = if is_first then now else now ++ mark

-- parts of a qualified name in one text
abbrev pub qualified : List (List ℕ) → List ℕ
qualified ts = joined (codes "::") ts

-- a name has at most 4,096 bytes, and so has each part of it
abbrev pub bounded : List ℕ → Option (List ℕ)
bounded name = if nat_lt 4096 (length name) then None else Some name

-- why there is no value where the definition says this; memory may run out at any time
abbrev pub Stops : {Y : Type 0} → Stop → Option Y → Type 0
Stops NoAnswer said = said ≡ None
Stops OutOfMemory said = Unit {0}

-- a call gives what the definition says, seen by view
abbrev pub Gives : {X Y : Type 0} → (X → Y) → Result X Stop → Option Y → Type 0
Gives view (Ok x) said = said ≡ Some (view x)
Gives view (Err e) said = Stops e said
