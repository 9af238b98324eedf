use Rattle.std.proofs.Common.{rules, ◌≡◌, map, reverse, sym, ap, ◌∙◌, Some, None, Bool}
use Rattle.pdb.specs.Views.{symbol_of, symbols_left}
use Rattle.pdb_variables.specs.Variables.{is_told}
use Rattle.pdb_variables.specs.VariableViews.{listed_by, procedure_of_place, shown_variable}
use Rattle.pdb_variables.specs.VariableWalk.{counted, scopes_after, still_open}
use Rattle.pdb_variables.proofs.WalkSteps.{scope_ended, scope_goes}
use Rattle.pdb_variables.proofs.variables.variables_ahead.Goals as goal

pub loop-symbol-preserved : goal.loop-symbol-preserved
loop-symbol-preserved c =
    let inv = c.loop-symbol.invariant in
    let s = symbol_of c.in-Ok-Some.symbol in
    let old = (symbols_left c.loop-symbol.symbols).items in
    let new = (symbols_left c.next.new.self).items in
    let around = reverse c.loop-symbol.around.items in
    let follows = (rw c.in-Ok-Some.field-0-is at c.in-Ok-Some.ensures.yields) in
    let added = (rw (c.innermost-inner.ensures, c.as_slice.ensures.value, c.in_ok-going-in-Ok-Some.ensures.left) at c.in_ok-add-in-Ok-Some.ensures.added) in
    let passed : Some (reverse c.pass.new.around.items) ≡ scopes_after c.args.asked.place (listed_by c.args.asked) (procedure_of_place c.args.asked) c.args.bases s new c.loop-symbol.calls around =
    ap (λ (b : Bool). still_open b (reverse c.pass.new.around.items)) (sym c.if-not-going.false) ∙ c.in_ok-going-in-Ok-Some.ensures.is in
    let calls : c.count-calls.result ≡ counted _ c.loop-symbol.calls = c.count-calls.ensures ∙ ap (λ (b : Bool). counted b c.loop-symbol.calls) c.in_ok-called-in-Ok-Some.ensures.is in
    let variables = scope_goes c.args.asked.place (listed_by c.args.asked) (procedure_of_place c.args.asked) c.args.bases (is_told c.args.told.now) c.loop-symbol.calls s new old around (map shown_variable c.loop-symbol.found.items) (map shown_variable c.add.new.found.items) _ follows.0 added inv.variables (reverse c.pass.new.around.items) _ passed calls in
    record {
      variables = rw (c.in_ok-add-in-Ok-Some.ensures.left, c.in_ok-going-in-Ok-Some.ensures.left) variables;
      counted = search rules;
      few = search rules;
    }

pub returns-then-not-going-clause-variables : goal.returns-then-not-going-clause-variables
returns-then-not-going-clause-variables c =
    let inv = c.loop-symbol.invariant in
    let s = symbol_of c.in-Ok-Some.symbol in
    let old = (symbols_left c.loop-symbol.symbols).items in
    let new = (symbols_left c.next.new.self).items in
    let around = reverse c.loop-symbol.around.items in
    let follows = (rw c.in-Ok-Some.field-0-is at c.in-Ok-Some.ensures.yields) in
    let added = (rw (c.innermost-inner.ensures, c.as_slice.ensures.value, c.in_ok-going-in-Ok-Some.ensures.left) at c.in_ok-add-in-Ok-Some.ensures.added) in
    let passed : None ≡ scopes_after c.args.asked.place (listed_by c.args.asked) (procedure_of_place c.args.asked) c.args.bases s new c.loop-symbol.calls around =
    ap (λ (b : Bool). still_open b (reverse c.pass.new.around.items)) (sym c.if-not-going.true) ∙ c.in_ok-going-in-Ok-Some.ensures.is in
    scope_ended c.args.asked.place (listed_by c.args.asked) (procedure_of_place c.args.asked) c.args.bases (is_told c.args.told.now) c.loop-symbol.calls s new old around (map shown_variable c.loop-symbol.found.items) (map shown_variable c.add.new.found.items) _ follows.0 added inv.variables passed
