use Rattle.std.proofs.Common.{◌≡◌, ◌++◌, ◌∷◌, [], inl, ◌∙◌}
use Rattle.std.proofs.lemmas.Result.{err_from_is_err_and}
use Rattle.std.proofs.lemmas.List.{map_push}
use Rattle.pdb_symbols.specs.Data.{shown_register, shown_registers}
use Rattle.pdb_symbols.specs.Groups.{named_register}
use Rattle.pdb_symbols.proofs.RegisterLoop.{goes_on, refuses, is_done}
use Rattle.pdb_symbols.proofs.registers.parse_registers.Goals as goal

pub returns-in_err-register : goal.returns-in_err-register
returns-in_err-register c =
    let p = err_from_is_err_and c.from_residual.result c.from_residual.ensures.1 in
    let read = rw c.loop.invariant.same at c.in_err-register.ensures.0 in
    rw (p.1, p.2) (inl ((refuses named_register c.args.kind c.args.buffer.now.bytes c.args.count c.loop.counter c.loop.buffer.place _ _ c.loop.invariant.read c.in_err-register.field-0.0 c.loop-test.true read), c.in_err-register.ensures.2))

pub loop-preserved : goal.loop-preserved
loop-preserved c =
    let r = c.in_ok-register.register in
    let read = rw c.loop.invariant.same at c.in_ok-register.ensures.0 in
    let e : shown_registers c.push.new.self.items ≡ shown_registers c.loop.registers.items ++ shown_register r ∷ [] = rw c.in_ok-push.ensures.items (map_push _ c.loop.registers.items r) in
    record {
      same = c.in_ok-register.ensures.1 ∙ c.loop.invariant.same;
      read = rw (e, c.in_ok-register.ensures.2) (goes_on named_register c.args.kind c.args.buffer.now.bytes c.args.count c.loop.counter c.loop.buffer.place _ _ c.loop.invariant.read (shown_register r) c.loop-test.true read);
    }

pub returns : goal.returns
returns c = is_done named_register c.args.kind c.args.buffer.now.bytes c.args.count c.loop.counter c.loop.buffer.place _ _ c.loop.invariant.read c.loop-test.false
