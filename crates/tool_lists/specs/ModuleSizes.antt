-- How many bytes of the image came from each module.
use Rattle.std.specs.Prelude.{ℕ, List, ◌==◌, if◌then◌else◌, sum_by, slice_index_or}
use Rattle.pdb.specs.DBISectionContribution.{DBISectionContribution}

-- the size of a contribution, if it is of module k
abbrev pub size_of_module : ℕ → DBISectionContribution → ℕ
size_of_module k c = if c.«module» == k then c.size else 0

-- how many bytes these contributions have of module k
abbrev pub bytes_of_module : List DBISectionContribution → ℕ → ℕ
bytes_of_module cs k = sum_by (size_of_module k) cs

-- how many bytes module k has by a list; none behind its end
abbrev pub size_in : List ℕ → ℕ → ℕ
size_in sizes k = slice_index_or sizes k 0
