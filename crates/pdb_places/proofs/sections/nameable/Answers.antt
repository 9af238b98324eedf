use Rattle.std.proofs.Common.{sym}
use Rattle.std.proofs.lemmas.List.{take_all}
use Rattle.pdb_places.proofs.sections.nameable.Goals as goal

pub returns-then-sections-le65535 : goal.returns-then-sections-le65535
returns-then-sections-le65535 c = sym (take_all 65535 c.args.sections.now c.if-sections-le65535.true)
