use Rattle.std.proofs.Common.{arith, refl, ◌∙◌}
use Rattle.pdb_base.proofs.Numbers.{number_there, number_not, number_2}
use Rattle.pdb_base.proofs.buffer.ParseBuffer.parse_u16.Goals as goal

pub returns-then-self-lt2 : goal.returns-then-self-lt2
returns-then-self-lt2 c = rw (← c.self.view_is) (number_not c.self.inside.buf.now c.self.inside.at 2 (omega arith), refl, λ h. cc, λ h. cc)

pub returns : goal.returns
returns c = rw (← c.self.view_is) (number_there c.self.inside.buf.now c.self.inside.at 2 _ (omega arith) (c.from_le_bytes-number.ensures ∙ number_2 _ _), refl, refl)
