use Rattle.std.proofs.Common.{◌≡◌, ◌+◌, drop}
use Rattle.pdb_modules.specs.CrossModule.{global_of}
use Rattle.pdb_modules.proofs.exports.look_through.Given as goal

-- none came so far
abbrev pub invariant-loop-other : goal.invariant-loop-other
invariant-loop-other l = record {
  searching : global_of l.local l.exports ≡ global_of l.local (drop l.other-index l.exports);
  counted : l.steps.count ≡ l.fn.steps.count + l.other-index;
}
