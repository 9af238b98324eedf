-- Words of private functions: spans of numbers as cuts between which one stands for all.
use Rattle.std.specs.Prelude.{◌≡◌, ℕ, ◌+◌, ◌*◌, Bool, ◌&&◌, nat_le, nat_lt, if◌then◌else◌, List, [], ◌∷◌, ◌++◌, length, Option, Some, None}
use Rattle.std.specs.List.Sorted.{IsNonDecreasingBy}
use Rattle.std.specs.Option.{option_or}
use Rattle.pdb_places.specs.declared.span.Span.{Span}
use Rattle.pdb_places.specs.declared.painted.Cut.{Cut}

-- a number is one of the span's
abbrev pub has : ℕ → Span → Bool
has x s = nat_le s.start x && nat_lt x s.end

-- what stands for the first listed span that has a number
abbrev pub first_with : ℕ → List Span → Option ℕ
first_with x [] = None
first_with x (s ∷ ss) = if has x s then Some s.owner else first_with x ss

-- ---- cuts

abbrev pub start_of_cut : Cut → ℕ
start_of_cut c = c.start

abbrev pub IsRising : List Cut → Type 0
IsRising cs = IsNonDecreasingBy start_of_cut cs

-- what the last cut at or before a number says; before all of them o
abbrev pub owner_at : ℕ → Option ℕ → List Cut → Option ℕ
owner_at x o [] = o
owner_at x o (c ∷ cs) = owner_at x (if nat_le c.start x then c.owner else o) cs

-- what the last cut says
abbrev pub last_owner : Option ℕ → List Cut → Option ℕ
last_owner o [] = o
last_owner o (c ∷ cs) = last_owner c.owner cs

-- what a cut says at or behind it
abbrev pub owner_upto : ℕ → Cut → Option ℕ
owner_upto x c = if nat_le c.start x then c.owner else None

-- cuts in their order, of which the last ends what stands there
pub record AreCuts (cs : List Cut) : Type 0 where
  pub rises : IsRising cs
  pub ended : last_owner None cs ≡ None

-- ---- layers

-- hs are the layer fs laid over the layer gs
pub record IsOver (fs gs hs : List Cut) : Type 0 where
  pub rises : IsRising hs
  pub finds : (x : ℕ) → owner_at x None hs ≡ option_or (owner_at x None fs) (owner_at x None gs)
  pub last : last_owner None hs ≡ option_or (last_owner None fs) (last_owner None gs)
  pub long : length hs ≡ length fs + length gs

-- behind these cuts the one layer is laid over the other
pub record LaysOn (before fs gs after : List Cut) : Type 0 where
  pub laid : List Cut
  pub whole : after ≡ before ++ laid
  pub over : IsOver fs gs laid

-- the cuts find the first listed span that has a number
pub record ArePaintedOf (ss : List Span) (cs : List Cut) : Type 0 where
  pub cuts : AreCuts cs
  pub finds : (x : ℕ) → owner_at x None cs ≡ first_with x ss
  pub two : length cs ≡ 2 * length ss

-- behind these cuts there are those of the spans
pub record PaintsOn (ss : List Span) (before after : List Cut) : Type 0 where
  pub painted : List Cut
  pub whole : after ≡ before ++ painted
  pub are : ArePaintedOf ss painted
