use Rattle.std.proofs.Common.{Some, sym, ap, ◌∙◌}
use Rattle.pdb.specs.Left.{Left}
use Rattle.pdb.specs.SymbolList.{Entry}
use Rattle.pdb_places.specs.PublicNames.{publics_in}
use Rattle.pdb_places.specs.PublicTable.{head_public}
use Rattle.pdb_places.proofs.PublicSymbols.{public_of_index}
use Rattle.pdb_places.proofs.public_names.public_in.Goals as goal

pub returns-in-Some-clause-public : goal.returns-in-Some-clause-public
returns-in-Some-clause-public c =
    c.first_public.ensures
    ∙ (ap (λ (l : Left Entry). head_public l.items) c.iter_at.ensures.left
    ∙ public_of_index c.args.place c.args.symbols.now c.in-Some.index (sym (c.in-Some.ensures.found (publics_in (Some c.args.symbols.now)) c.requires)))
