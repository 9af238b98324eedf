-- The registers of all machines: a number, and a name.
use Rattle.std.specs.Prelude.{ℕ, List, [], ◌∷◌, Option, codes}
use Rattle.pdb_records.specs.NameRows.{name_in}

abbrev pub common_rows_1 : List (ℕ × List ℕ)
common_rows_1 =
    (30001, codes "teb") ∷
    (30002, codes "timer") ∷
    (30003, codes "efad1") ∷
    (30004, codes "efad2") ∷
    (30005, codes "efad3") ∷
    (30006, codes "vframe") ∷
    (30007, codes "handle") ∷
    (30008, codes "params") ∷
    (30009, codes "locals") ∷
    (30010, codes "tid") ∷
    (30011, codes "env") ∷
    (30012, codes "cmdln") ∷
    []

-- the name of a number
abbrev pub common_name : ℕ → Option (List ℕ)
common_name n =
    name_in common_rows_1 n
