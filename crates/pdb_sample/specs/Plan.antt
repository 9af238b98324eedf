-- How a file of streams is laid out.
use Rattle.std.specs.Prelude.{◌≡◌, ◌+◌, ◌<◌, ◌^◌, List, length, false}
use Rattle.std.specs.List.{list_any}
use Rattle.pdb_sample.specs.declared.sample.Plan.{Plan}
use Rattle.pdb_sample.specs.Sample.{Stream, all_pages, directory_size, directory_pages, list_pages, is_too_long}

-- the plan's numbers are those of the streams, and each fits its field
pub record IsPlan (all : List Stream) (p : Plan) : Type 0 where
  pub streams : p.streams ≡ all_pages all
  pub size : p.directory_size ≡ directory_size all
  pub directory : p.directory ≡ directory_pages all
  pub list : p.list ≡ list_pages all
  pub few : length all < 2 ^ 32
  pub pages : 3 + p.streams + p.directory + p.list < 2 ^ 32
  pub short : list_any is_too_long all ≡ false
