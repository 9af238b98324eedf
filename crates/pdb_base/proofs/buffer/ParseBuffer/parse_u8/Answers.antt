use Rattle.std.proofs.Common.{arith, refl}
use Rattle.pdb_base.proofs.Numbers.{number_there, number_not, number_1}
use Rattle.pdb_base.proofs.buffer.ParseBuffer.parse_u8.Goals as goal

pub returns-then-self-lt1 : goal.returns-then-self-lt1
returns-then-self-lt1 c = rw (← c.self.view_is) (number_not c.self.inside.buf.now c.self.inside.at 1 (omega arith), refl, λ h. cc, λ h. cc)

pub returns : goal.returns
returns c = rw (← c.self.view_is) (number_there c.self.inside.buf.now c.self.inside.at 1 _ (omega arith) (number_1 _ _), refl, refl)
