use Rattle.std.proofs.Common.{length, take, sym, arith}
use Rattle.std.specs.Prelude.{option_copied}
use Rattle.std.proofs.lemmas.List.{take_all}
use Rattle.std.proofs.lemmas.List.Elements.{All-more, All-same, All-weaker}
use Rattle.pdb_modules.specs.ImportViews.{module_of}
use Rattle.pdb_modules.specs.declared.imports.Imported.{Imported}
use Rattle.pdb_resolve.specs.Exporters.{HasName}
use Rattle.pdb_resolve.proofs.exporters.names_of.Goals as goal

pub loop-imported-preserved : goal.loop-imported-preserved
loop-imported-preserved c =
    let i = c.loop-imported.imported-index in
    let modules = c.args.modules.now in
    let before = All-weaker (λ (x : Imported). HasName (option_copied c.args.strings) c.loop-imported.names (module_of x)) (λ (x : Imported). HasName (option_copied c.args.strings) c.put_name_of.new.names (module_of x)) (λ x h. c.in_ok-put_name_of.ensures.still (module_of x) h) (take i modules) c.loop-imported.invariant in
    All-more (λ (x : Imported). HasName (option_copied c.args.strings) c.put_name_of.new.names (module_of x)) modules i _ c.loop-imported-test.true before c.in_ok-put_name_of.ensures.here

pub returns-clause-named : goal.returns-clause-named
returns-clause-named c =
    let i = c.loop-imported.imported-index in
    let modules = c.args.modules.now in
    All-same (λ (x : Imported). HasName (option_copied c.args.strings) c.loop-imported.names (module_of x)) modules (take i modules) (sym (take_all i modules (omega (arith, c.loop-imported-test.false)))) c.loop-imported.invariant
