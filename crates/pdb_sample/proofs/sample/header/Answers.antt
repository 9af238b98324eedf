use Rattle.std.proofs.Common.{refl}
use Rattle.pdb_sample.specs.Sample.{header_bytes}
use Rattle.pdb_sample.proofs.sample.header.Goals as goal

pub returns : goal.returns
unfolding header_bytes
returns c =
    rw (c.in_ok-put_numbers.ensures, c.in_ok-put_number-5.ensures, c.in_ok-put_number-4.ensures, c.in_ok-put_number-3.ensures, c.in_ok-put_number-2.ensures, c.in_ok-put_number.ensures, c.in_ok-put_magic.ensures, c.new-out.ensures.items) refl
