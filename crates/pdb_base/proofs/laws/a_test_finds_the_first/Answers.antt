use Rattle.pdb_base.proofs.Finding.{found_by_test}
use Rattle.pdb_base.proofs.laws.a_test_finds_the_first.Goals as goal

pub returns : goal.returns
returns g c = λ shown test tests old new p result h. found_by_test shown g.P.FnMut test tests old new p result h
