-- A DBI stream that has a header, and one that has none.
use Rattle.std.proofs.Common.{◌≡◌, ℕ, List, Result, Ok, Err, refl}
use Rattle.pdb.specs.Error.{Error}
use Rattle.pdb.specs.Refusal.{◌>>=◌, number_of}
use Rattle.pdb.specs.DBIHeader.{DBIHeader}
use Rattle.pdb.specs.DBISectionContribution.{DBISectionContribution}
use Rattle.pdb.specs.Header.{header_of, debug_information_of}
use Rattle.pdb.specs.Contributions.{contribution_part_of, contributions_in}
use Rattle.pdb_c.specs.Lists.{Listed}

behind : (r : Result DBIHeader Error) (b d : List ℕ) → (r >>= λ h. Ok b) ≡ Ok d → b ≡ d
behind (Ok h) b d e = cc
behind (Err x) b d e = absurd cc

before : (r : Result DBIHeader Error) (b : List ℕ) (e : Error) → (r >>= λ h. Ok b) ≡ Err e → r ≡ Err e
before (Ok h) b e q = absurd cc
before (Err x) b e q = cc

-- the bytes of a stream that has a header are all that it has
pub information_same : (b d : List ℕ) → debug_information_of b ≡ Ok d → b ≡ d
unfolding debug_information_of
information_same b d e = behind (header_of b) b d e

-- a stream without a header has no contributions
none_listed : (b : List ℕ) (e : Error) → debug_information_of b ≡ Err e → contributions_in b ≡ Err e
unfolding debug_information_of contribution_part_of contributions_in
none_listed b e q = rw (before (header_of b) b e q) refl

pub contributions_refused : {X Y : Type 0} (view : X → Y) (says : DBISectionContribution → Y) (code : ℕ) (e : Error) (old : List X) (b d : List ℕ) → d ≡ b → debug_information_of d ≡ Err e → code ≡ number_of e → Listed view says code old old 0 (contributions_in b)
contributions_refused view says code e old b d same q c = rw (← same, none_listed d e q) (c, refl, refl)
