use Rattle.std.proofs.Common.{◌≡◌, ◌+◌, ◌-◌, arith, refl}
use Rattle.pdb_base.proofs.Numbers.{bytes_there, bytes_not}
use Rattle.pdb_base.proofs.buffer.ParseBuffer.take.Goals as goal

pub returns-then-self-n-clause-reads : goal.returns-then-self-n-clause-reads
returns-then-self-n-clause-reads c = rw (← c.self.view_is) (bytes_not c.self.inside.buf.now c.self.inside.at c.args.n (omega arith), refl, λ h. cc, λ h. cc)

pub returns-clause-reads : goal.returns-clause-reads
returns-clause-reads c =
    let e : c.self.inside.at + c.args.n - c.self.inside.at ≡ c.args.n = omega arith in
    rw (← c.self.view_is, e) (bytes_there c.self.inside.buf.now c.self.inside.at c.args.n (omega arith), refl, refl)
