use Rattle.std.proofs.Common.{◌≡◌, ◌+◌, ◌-◌, ◌∷◌, [], length, arith, sym, ap, ◌∙◌}
use Rattle.std.proofs.lemmas.List.{length-append}
use Rattle.pdb_types.specs.MemberEnds.{chain_end, chain_from}
use Rattle.pdb_types.specs.ReadListViews.{lists_read}
use Rattle.pdb_types.proofs.MemberFaultSteps.{ends_in, goes_on_to, no_list, no_lists, read_list}
use Rattle.pdb_types.proofs.member_faults.MemberFaults.chain.Goals as goal

pub loop-init : goal.loop-init
unfolding chain_end
loop-init c =
    let none = c.new-read.ensures in
    record {
      ends = ap (λ r. chain_from c.args.self.now r 1024 c.some_list-left.result) none ∙ ap (λ l. chain_from c.args.self.now [] 1024 l) c.some_list-left.ensures;
      counted = ap length none;
    }

pub returns-in_default : goal.returns-in_default
returns-in_default c =
    let none = c.in_default.is in
    sym (no_list c.args.self.now (lists_read c.loop.read) (1024 - c.loop.counter)) ∙ ap (λ l. chain_from c.args.self.now (lists_read c.loop.read) (1024 - c.loop.counter) l) (sym none) ∙ c.loop.invariant.ends

pub returns-then-has : goal.returns-then-has
returns-then-has c =
    let some = c.in-Some.is in
    let old = sym c.has.ensures ∙ c.if-has.true in
    sym (read_list c.args.self.now (lists_read c.loop.read) (1024 - c.loop.counter) _ old) ∙ ap (λ l. chain_from c.args.self.now (lists_read c.loop.read) (1024 - c.loop.counter) l) (sym some) ∙ c.loop.invariant.ends

pub returns-in-Err : goal.returns-in-Err
returns-in-Err c =
    let some = c.in-Some.is in
    let more = c.loop-test.true in
    let new = sym c.has.ensures ∙ c.if-has.false in
    sym (ends_in c.args.self.now (lists_read c.loop.read) (1024 - c.loop.counter) _ _ (omega (arith, more)) new c.in-Err.ensures)
    ∙ ap (λ l. chain_from c.args.self.now (lists_read c.loop.read) (1024 - c.loop.counter) l) (sym some) ∙ c.loop.invariant.ends

pub loop-preserved : goal.loop-preserved
loop-preserved c =
    let some = c.in-Some.is in
    let more = c.loop-test.true in
    let new = sym c.has.ensures ∙ c.if-has.false in
    let added = c.add.ensures in
    let step = sym (goes_on_to c.args.self.now (lists_read c.loop.read) (1024 - c.loop.counter) (1024 - (c.loop.counter + 1)) _ _ (omega (arith, more)) new c.in-Ok.ensures)
    ∙ ap (λ l. chain_from c.args.self.now (lists_read c.loop.read) (1024 - c.loop.counter) l) (sym some) ∙ c.loop.invariant.ends in
    let sized = ap length added ∙ length-append (lists_read c.loop.read) (c.in-Some.index ∷ []) in
    record { ends = rw added step; counted = omega (arith, sized, c.loop.invariant.counted) }

pub returns : goal.returns
returns c =
    let last = c.loop-test.false in
    let none : 1024 - c.loop.counter ≡ 0 = omega (arith, last) in
    c.unread_end.ensures ∙ sym (no_lists c.args.self.now (lists_read c.loop.read) c.loop.left) ∙ ap (λ n. chain_from c.args.self.now (lists_read c.loop.read) n c.loop.left) (sym none) ∙ c.loop.invariant.ends
