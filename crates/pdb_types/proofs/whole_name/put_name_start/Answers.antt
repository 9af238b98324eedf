use Rattle.std.proofs.Common.{◌≡◌, List, length, arith}
use Rattle.pdb_types.specs.FullTypes.{first_definition}
use Rattle.pdb_types.specs.TypeTexts.{parts, name_in, shown_name}
use Rattle.pdb_types.proofs.CutLemmas.{on_start}
use Rattle.pdb_types.proofs.whole_name.put_name_start.Goals as goal

pub returns-clause-ok : goal.returns-clause-ok
unfolding shown_name
returns-clause-ok c =
    let start : c.len.result ≡ length c.args.out.now.items = grind arith in
    on_start c.put_name_at.result c.args.most c.args.out.now.items (name_in (parts c.args.types.now (first_definition c.args.definitions.now) 64 c.args.index.0)) c.put_name_at.new.out.items c.requires (rw start at c.put_name_at.ensures.ok)
