-- Types, a level at a time.
use Rattle.std.proofs.Common.{◌≡◌, ℕ, zero, suc, ◌-◌, ◌<◌, refl, arith}
use Rattle.std.specs.Prelude.{None, option_and_then}
use Rattle.pdb_names.specs.KeptNames.{Left}
use Rattle.pdb_names.specs.Templates.{typ, type_by}
use Rattle.pdb_names.specs.TypeHeads.{head_at}

pub typ_end : (d : ℕ) (l : Left) → d ≡ 0 → typ d l ≡ None
unfolding typ
typ_end zero l e = refl
typ_end (suc d) l e = absurd (omega arith)

pub typ_step : (d : ℕ) (l : Left) → 0 < d → typ d l ≡ option_and_then (type_by (typ (d - 1)) l) (head_at l.rest)
unfolding typ
typ_step zero l h = absurd (omega arith)
typ_step (suc d) l h = let same : suc d - 1 ≡ d = omega arith in rw same refl
