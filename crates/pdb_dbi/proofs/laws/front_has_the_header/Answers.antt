use Rattle.std.proofs.Common.{◌≡◌, ℕ, List, None, Ok, Err, Result, refl}
use Rattle.pdb_base.specs.declared.error.Error.{Error}
use Rattle.pdb_base.specs.Refusal.{◌>>=◌}
use Rattle.pdb_base.specs.Container.{stream_of}
use Rattle.pdb_dbi.specs.declared.header.DBIHeader.{DBIHeader}
use Rattle.pdb_dbi.specs.Header.{header_of, header_in}
use Rattle.pdb_dbi.proofs.Prefixes.{front_header}
use Rattle.pdb_dbi.proofs.laws.front_has_the_header.Goals as goal

there : (r : Result (List ℕ) Error) (h : DBIHeader) → (r >>= header_of) ≡ Ok h → (bytes : List ℕ) × (r ≡ Ok bytes) × (header_of bytes ≡ Ok h)
there (Ok bytes) h e = (bytes, refl, e)
there (Err d) h e = absurd cc

pub returns : goal.returns
unfolding header_in
returns c file h e =
    let (bytes, whole, header) = there (stream_of file 3 None) h e in
    front_header file bytes h whole header
