use Rattle.std.proofs.Common.{◌≤◌, length, map, take, sym, ap, ◌∙◌, arith}
use Rattle.std.proofs.lemmas.List.{length-map, take-map, take_all}
use Rattle.pdb_modules.specs.ImportViews.{module_of}
use Rattle.pdb_resolve.proofs.global_ids.named_modules.Goals as goal

pub returns-then-modules-le-MOST_MODULES : goal.returns-then-modules-le-MOST_MODULES
returns-then-modules-le-MOST_MODULES c =
    let many = ap length c.modules-modules.ensures in
    let few : length c.args.imports.now ≤ 2048 = grind (arith, length-map, many) in
    c.modules-modules.ensures ∙ sym (take_all 2048 c.args.imports.now few)

pub returns : goal.returns
returns c = ap (map module_of) c.split_at.ensures.front ∙ sym (take-map module_of 2048 c.modules-modules.result.now) ∙ ap (take 2048) c.modules-modules.ensures
