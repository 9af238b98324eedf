use Rattle.std.proofs.Common.{rules, tests}
use Rattle.std.proofs.lemmas.List.Elements.{filter_from_retain}
use Rattle.pdb_stacks.specs.LineReferences.{is_named}
use Rattle.pdb_stacks.proofs.references.keep_named.Goals as goal

pub returns : goal.returns
returns c = filter_from_retain _ is_named (λ p x b q r. search (rules, tests)) _ _ _ c.retain.ensures.filtered
