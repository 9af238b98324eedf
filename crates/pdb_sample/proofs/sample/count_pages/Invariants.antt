use Rattle.std.proofs.Common.{map, ◌≡◌, ◌≤◌, take, false}
use Rattle.std.specs.List.{list_any}
use Rattle.pdb_sample.specs.Sample.{stream_of, all_pages, is_too_long}
use Rattle.pdb_sample.proofs.sample.count_pages.Given as goal

abbrev pub invariant-loop-stream : goal.invariant-loop-stream
invariant-loop-stream l = record {
  counted : l.pages ≡ all_pages (take l.stream-index (map stream_of l.streams));
  most : l.pages ≤ 4294967295;
  short : list_any is_too_long (take l.stream-index (map stream_of l.streams)) ≡ false;
}
