-- A type without its modifiers, a step at a time.
use Rattle.std.proofs.Common.{◌≡◌, ℕ, zero, suc, ◌-◌, ◌≤◌, ◌<◌, List, Option, refl, arith}
use Rattle.std.proofs.lemmas.Bool.{le-ltb, lt-ltb}
use Rattle.pdb_items.specs.Items.{ItemEntry}
use Rattle.pdb_types.specs.TypeSays.{TypeSays}
use Rattle.pdb_types.specs.FullTypes.{says_of}
use Rattle.pdb_types.specs.Enumerators.{unmodified, unmodified_by}

pub simple_stays : (types : List ItemEntry) (d i : ℕ) → i < 0x1000 → unmodified types d i ≡ i
unfolding unmodified
simple_stays types zero i h = refl
simple_stays types (suc d) i h = rw (lt-ltb i 0x1000 h) refl

pub end_stays : (types : List ItemEntry) (d i : ℕ) → d ≡ 0 → unmodified types d i ≡ i
unfolding unmodified
end_stays types zero i e = refl
end_stays types (suc d) i e = absurd (omega arith)

pub modifier_passed : (types : List ItemEntry) (d i : ℕ) (says : Option TypeSays) → 0x1000 ≤ i → 0 < d → says ≡ says_of types i → unmodified types d i ≡ unmodified_by (unmodified types (d - 1)) i says
unfolding unmodified
modifier_passed types zero i says h lt e = absurd (omega arith)
modifier_passed types (suc d) i says h lt e = let same : suc d - 1 ≡ d = omega arith in rw (le-ltb i 0x1000 h, same, e) refl
