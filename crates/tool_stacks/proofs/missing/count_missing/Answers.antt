use Rattle.tool_stacks.proofs.Indexes.{counted_one, uncounted}
use Rattle.tool_stacks.proofs.missing.count_missing.Goals as goal

pub returns-in-None : goal.returns-in-None
returns-in-None c = rw (uncounted c.args.name.now c.args.missing.now.items (rw c.deref.ensures.value at c.in-None.ensures.at)) c.push_missing.ensures

pub returns-in-Some : goal.returns-in-Some
returns-in-Some c =
    let bound = rw c.deref.ensures.value at c.in-Some.ensures.bound in
    let found = rw c.deref.ensures.value at c.in-Some.ensures.at in
    counted_one c.args.name.now c.args.missing.now.items c.in-Some.index c.index_mut.result.now c.count_one.new.missing bound found c.index_mut.ensures.value c.count_one.ensures
