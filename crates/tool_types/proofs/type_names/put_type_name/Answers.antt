use Rattle.std.proofs.Common.{◌≡◌, length, arith}
use Rattle.pdb_types.specs.FullTypes.{first_definition}
use Rattle.pdb_types.specs.TypeTexts.{shown_name}
use Rattle.tool_types.proofs.NameStarts.{shown_behind}
use Rattle.tool_types.proofs.type_names.put_type_name.Goals as goal

pub returns : goal.returns
returns c =
    let start : c.len-start.result ≡ length c.args.out.now.items = grind arith in
    shown_behind c.to_one_line.result c.args.out.now.items (shown_name c.args.types.now (first_definition c.args.definitions.now) c.args.index.0) c.put_name_start.new.out.items c.to_one_line.new.out.items c.len-start.result start c.in_ok-put_name_start.ensures.ok c.to_one_line.ensures.ok
