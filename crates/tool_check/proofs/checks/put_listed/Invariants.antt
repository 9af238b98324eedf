use Rattle.std.proofs.Common.{◌≡◌, ◌++◌, length, true}
use Rattle.pdb.specs.DbiViews.{modules_left, modules_steps}
use Rattle.pdb.specs.Source.{Continues}
use Rattle.tool_check.specs.CheckTexts.{modules_text}
use Rattle.tool_check.proofs.checks.put_listed.Given as goal

-- the file is the same; what was put, and the lines of the modules that are left, are those of all; a step was made for each module so far
abbrev pub invariant-loop-listed : goal.invariant-loop-listed
invariant-loop-listed g l = record {
  continues : Continues l.fn.pdb l.pdb;
  counted : modules_steps l.modules ≡ l.k;
  told : l.pdb.told ≡ true → l.out.items ++ modules_text l.format l.name l.fn.pdb.file l.k (modules_left l.modules).items ≡ l.fn.out.items ++ modules_text l.fn.format l.fn.name l.fn.pdb.file 0 (modules_left l.fn.modules).items;
}

abbrev pub decreases-loop-listed : goal.decreases-loop-listed
decreases-loop-listed g l = length (modules_left l.modules).items
