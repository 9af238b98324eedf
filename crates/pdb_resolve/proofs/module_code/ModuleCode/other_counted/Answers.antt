use Rattle.std.proofs.Common.{ap, arith}
use Rattle.pdb_code.specs.ModuleCode.{others_in, managed_in}
use Rattle.pdb_places.proofs.Pieces.{looks_halved}
use Rattle.pdb_resolve.proofs.module_code.ModuleCode.other_counted.Goals as goal

pub returns-in-Some-clause-halved : goal.returns-in-Some-clause-halved
returns-in-Some-clause-halved c = λ others managed more rest l m.
    let s = looks_halved _ _ _ c.args.steps.now.count c.find_counted.new.steps.count c.self.invariant.1 (ap others_in c.self.view_is) c.find_counted.ensures.halved others more l in
    omega arith

pub returns-in-Some-find_counted-clause-halved : goal.returns-in-Some-find_counted-clause-halved
returns-in-Some-find_counted-clause-halved c = λ others managed more rest l m.
    let s = looks_halved _ _ _ c.args.steps.now.count c.find_counted.new.steps.count c.self.invariant.1 (ap others_in c.self.view_is) c.find_counted.ensures.halved others more l in
    let t = looks_halved _ _ _ c.find_counted.new.steps.count c.find_counted-in-None.new.steps.count c.self.invariant.8 (ap managed_in c.self.view_is) c.find_counted-in-None.ensures.halved managed rest m in
    omega arith

pub returns-in-None-find_counted-clause-halved : goal.returns-in-None-find_counted-clause-halved
returns-in-None-find_counted-clause-halved c = λ others managed more rest l m.
    let s = looks_halved _ _ _ c.args.steps.now.count c.find_counted.new.steps.count c.self.invariant.1 (ap others_in c.self.view_is) c.find_counted.ensures.halved others more l in
    let t = looks_halved _ _ _ c.find_counted.new.steps.count c.find_counted-in-None.new.steps.count c.self.invariant.8 (ap managed_in c.self.view_is) c.find_counted-in-None.ensures.halved managed rest m in
    omega arith
