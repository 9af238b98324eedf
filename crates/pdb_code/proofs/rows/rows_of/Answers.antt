use Rattle.std.proofs.Common.{◌≡◌, ◌∙◌, ◌&&◌, Bool, min, length, map, ap, refl, sym, arith, rules}
use Rattle.std.specs.Option.{is_none}
use Rattle.pdb.specs.Views.{symbol_of}
use Rattle.pdb_code.specs.CodeRecords.{code_left}
use Rattle.pdb_code.specs.ModuleCode.{procedure_of, other_of, managed_of, trampoline_of}
use Rattle.pdb_places.specs.Pieces.{code_parts, range_parts}
use Rattle.pdb_code.specs.Kept.{site_of}
use Rattle.pdb_code.specs.Listed.{shown_procedure, entry_of}
use Rattle.pdb_code.proofs.CodeKinds.{managed_none, other_none, procedure_none, site_none, trampoline_none}
use Rattle.pdb_code.proofs.CodeRecords.{begins, begins_mapped, whole_at_end}
use Rattle.pdb_places.proofs.Pieces.{one_more}
use Rattle.pdb_code.proofs.Scopes.{one_more_shown}
use Rattle.pdb_code.proofs.rows.rows_of.Goals as goal

pub loop-symbol-init : goal.loop-symbol-init
loop-symbol-init c =
    let b = c.args.symbols.now in
    let at = c.min-at.result in
    let first : at ≡ min 4 (length b) = omega (arith, c.min-at.ensures) in
    record {
      procedures = begins procedure_of procedure_none b at first _ (ap (map shown_procedure) c.new.ensures.items);
      others = begins_mapped other_of other_none b at first code_parts _ (ap (map range_parts) c.new-2.ensures.items);
      managed = begins_mapped managed_of managed_none b at first code_parts _ (ap (map range_parts) c.new-3.ensures.items);
      trampolines = begins_mapped trampoline_of trampoline_none b at first code_parts _ (ap (map range_parts) c.new-4.ensures.items);
      sites = begins site_of site_none b at first _ (ap (map entry_of) c.in_ok-with_capacity.ensures.items);
      bounded = search rules;
      fault = rw first refl;
      inside = omega (arith, first);
    }

pub loop-symbol-preserved : goal.loop-symbol-preserved
loop-symbol-preserved c =
    let inv = c.loop-symbol.invariant in
    let follows = c.in-Some.ensures.some in
    let added = c.in-Ok.ensures in
    let symbol = symbol_of c.in-Some.symbol in
    let old = code_left c.args.symbols.now c.loop-symbol.at in
    let new = code_left c.args.symbols.now c.next_code.new.at in
    record {
      procedures = one_more_shown shown_procedure procedure_of symbol old new c.loop-symbol.rows.procedures.items c.add.new.rows.procedures.items _ follows added.procedures inv.procedures;
      others = one_more other_of symbol old new c.loop-symbol.rows.others.items c.add.new.rows.others.items _ follows added.others inv.others;
      managed = one_more managed_of symbol old new c.loop-symbol.rows.managed.items c.add.new.rows.managed.items _ follows added.managed inv.managed;
      trampolines = one_more trampoline_of symbol old new c.loop-symbol.rows.trampolines.items c.add.new.rows.trampolines.items _ follows added.trampolines inv.trampolines;
      sites = one_more_shown entry_of site_of symbol old new c.loop-symbol.rows.sites.items c.add.new.rows.sites.items _ follows added.sites inv.sites;
      bounded = added.bounded inv.bounded;
      fault = inv.fault ∙ c.next_code.ensures.fault;
      inside = c.in-Some.ensures.inside;
    }

pub returns-clause-whole : goal.returns-clause-whole
returns-clause-whole c =
    let same = c.loop-symbol.invariant.fault ∙ c.next_code.ensures.fault in
    c.are_both.ensures ∙ ap (λ (t : Bool). c.args.is_there && t) (whole_at_end c.args.symbols.now _ c.next_code.ensures.inside c.in_default.ensures.stops ∙ ap is_none (sym same))
