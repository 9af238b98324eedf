use Rattle.pdb_text.proofs.Pairs.{hex_eight}
use Rattle.pdb_text.proofs.digits.hex8.Goals as goal

pub returns : goal.returns
returns c = hex_eight c.args.n _ _ _ _ c.ranges.n.fits c.hex2-a.ensures c.hex2-b.ensures c.hex2-c.ensures c.hex2-d.ensures
