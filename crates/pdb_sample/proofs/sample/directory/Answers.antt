use Rattle.std.proofs.Common.{refl}
use Rattle.pdb_sample.specs.Sample.{directory_bytes}
use Rattle.pdb_sample.proofs.SampleFacts.{length_of_streams}
use Rattle.pdb_sample.proofs.sample.directory.Goals as goal

pub returns : goal.returns
unfolding directory_bytes
returns c =
    rw (c.in_ok-put_numbers.ensures, c.in_ok-put_sizes.ensures, c.in_ok-put_number.ensures, c.new-out.ensures.items, c.requires.streams, length_of_streams c.args.streams.now) refl
