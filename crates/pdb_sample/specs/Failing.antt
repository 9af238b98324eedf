-- A source that fails.
use Rattle.std.specs.Prelude.{ℕ, ◌+◌, ◌-◌, ◌^◌, ◌&&◌, Option, min, nat_lt, is_none}
use Rattle.pdb_base.specs.Source.{State}

-- the inner source, how many views come before the one that fails, and how many failed here
pub record Failing (S : Type 0) : Type 0 where
  pub source : S
  pub left : Option ℕ
  pub own : ℕ

-- the failures of both, at most 2 ^ 64 - 1
abbrev pub failures_of : {S : Type 0} → (S → State) → Failing S → ℕ
failures_of state s = min (2 ^ 64 - 1) (s.own + (state s.source).failures)

-- the inner source's file; it is steady where the failing view has passed, the count can grow, and the inner source is
abbrev pub state_of : {S : Type 0} → (S → State) → Failing S → State
state_of state s = record {
  file = (state s.source).file;
  failures = failures_of state s;
  steady = is_none s.left && nat_lt (failures_of state s) (2 ^ 64 - 1) && (state s.source).steady;
  told = (state s.source).told;
  known = (state s.source).known;
}
