use Rattle.std.proofs.Common.{◌≡◌, drop}
use Rattle.pdb_stacks.specs.LineTexts.{behind_text, first_found}
use Rattle.pdb_stacks.proofs.texts.find_behind.Given as goal

-- the text is found in what is left
abbrev pub invariant-loop-at : goal.invariant-loop-at
invariant-loop-at l = first_found (λ k. behind_text l.line k l.text) 0 l.line ≡ first_found (λ k. behind_text l.line k l.text) l.at (drop l.at l.line)
