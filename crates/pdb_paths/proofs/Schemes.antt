-- A text without the address of a server, by what is left of it.
use Rattle.std.proofs.Common.{◌≡◌, ◌<◌, ◌+◌, ℕ, suc, List, ◌∷◌, codes, nat_eq, length, drop, drop-cons, add-one, get_or, false, refl}
use Rattle.std.specs.List.{starts_with}
use Rattle.pdb_paths.specs.Folders.{has_scheme}

one : (b : ℕ) (bs : List ℕ) → starts_with nat_eq (b ∷ bs) (codes "://") ≡ false → has_scheme (b ∷ bs) ≡ has_scheme bs
one b bs e = rw e refl

pub past : (part : List ℕ) (i : ℕ) → i < length part → starts_with nat_eq (drop i part) (codes "://") ≡ false → has_scheme (drop i part) ≡ has_scheme (drop (i + 1) part)
past part i h e = rw (add-one, drop-cons part i 0 h) (one (get_or part i 0) (drop (suc i) part) (rw (drop-cons part i 0 h) at e))
