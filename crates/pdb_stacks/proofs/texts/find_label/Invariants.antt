use Rattle.std.proofs.Common.{◌≡◌, drop}
use Rattle.pdb_stacks.specs.LineTexts.{behind_either, first_found}
use Rattle.pdb_stacks.proofs.texts.find_label.Given as goal

-- a label is found in what is left
abbrev pub invariant-loop-at : goal.invariant-loop-at
invariant-loop-at l = first_found (λ k. behind_either l.line k l.label l.other) 0 l.line ≡ first_found (λ k. behind_either l.line k l.label l.other) l.at (drop l.at l.line)
