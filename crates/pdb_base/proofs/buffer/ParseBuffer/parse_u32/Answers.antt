use Rattle.std.proofs.Common.{arith, refl, ◌∙◌}
use Rattle.pdb_base.proofs.Numbers.{number_there, number_not, number_4}
use Rattle.pdb_base.proofs.buffer.ParseBuffer.parse_u32.Goals as goal

pub returns-then-self-lt4 : goal.returns-then-self-lt4
returns-then-self-lt4 c = rw (← c.self.view_is) (number_not c.self.inside.buf.now c.self.inside.at 4 (omega arith), refl, λ h. cc, λ h. cc)

pub returns : goal.returns
returns c = rw (← c.self.view_is) (number_there c.self.inside.buf.now c.self.inside.at 4 _ (omega arith) (c.from_le_bytes-number.ensures ∙ number_4 _ _), refl, refl)
