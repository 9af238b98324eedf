use Rattle.std.proofs.Common.{◌+◌, ap, refl, ◌∙◌, sym}
use Rattle.pdb_base.proofs.Numbers.{cstring_there, cstring_not}
use Rattle.pdb_base.proofs.buffer.ParseBuffer.parse_cstring.Goals as goal

pub returns-in-Some : goal.returns-in-Some
returns-in-Some c =
    let there = cstring_there c.self.inside.buf.now c.split_at.result.1.now _ c.self.inside.at c.in-Some.n c.split_at.ensures.back (sym c.first_zero.ensures.place ∙ c.in-Some.is) c.in-Some.ensures.bound (c.new.ensures ∙ c.split_at-in-Some.ensures.front) in
    rw (← c.self.view_is) (there.0, refl, ap (λ n. c.self.inside.at + (n + 1)) (sym there.1))

pub returns-in-None : goal.returns-in-None
returns-in-None c = rw (← c.self.view_is) (cstring_not c.self.inside.buf.now _ c.self.inside.at c.split_at.ensures.back (sym c.first_zero.ensures.place ∙ c.in-None.is), refl, λ h. cc, λ h. cc)
