use Rattle.std.proofs.Common.{rules, ◌≡◌, sym, ◌∙◌, map, arith, true, false}
use Rattle.pdb.specs.Forms.{kind_at}
use Rattle.pdb.specs.Scopes.{ends_of, starts_of}
use Rattle.pdb.specs.Views.{symbol_of, symbols_left}
use Rattle.pdb_variables.specs.VariableViews.{key_list}
use Rattle.pdb_variables.proofs.WalkSteps.{deeper_same, deeper_started, told_scope_left, told_scope_other}
use Rattle.pdb_variables.proofs.told_again.told_ahead.Goals as goal

pub loop-symbol-preserved-then-ends_scope : goal.loop-symbol-preserved-then-ends_scope
loop-symbol-preserved-then-ends_scope c =
    let inv = c.loop-symbol.invariant in
    let s = symbol_of c.in-Ok-Some.symbol in
    let old = (symbols_left c.loop-symbol.symbols).items in
    let new = (symbols_left c.next.new.self).items in
    let follows = (rw c.in-Ok-Some.field-0-is at c.in-Ok-Some.ensures.yields) in
    let ends : ends_of (kind_at s.bytes) ≡ true = sym c.ends_scope.ensures.kind ∙ c.if-ends_scope.true in
    let keys = told_scope_left c.loop-symbol.within s old new (map key_list c.loop-symbol.keys.items) (map key_list c.add.new.keys.items) _ follows.0 c.in_ok-add-in-Ok-Some.ensures.added c.loop-symbol.depth (omega (arith, c.if-depth-eq0.false)) ends inv.keys in
    record {
      keys = rw c.saturating_sub-within.ensures keys;
      counted = search rules;
      inside = search rules;
      few = search rules;
    }

pub loop-symbol-preserved-then-starts_scope : goal.loop-symbol-preserved-then-starts_scope
loop-symbol-preserved-then-starts_scope c =
    let inv = c.loop-symbol.invariant in
    let s = symbol_of c.in-Ok-Some.symbol in
    let old = (symbols_left c.loop-symbol.symbols).items in
    let new = (symbols_left c.next.new.self).items in
    let follows = (rw c.in-Ok-Some.field-0-is at c.in-Ok-Some.ensures.yields) in
    let ends : ends_of (kind_at s.bytes) ≡ false = sym c.ends_scope.ensures.kind ∙ c.if-ends_scope.false in
    let starts : starts_of (kind_at s.bytes) ≡ true = sym c.starts_scope.ensures.kind ∙ c.if-starts_scope.true in
    record {
      keys = told_scope_other c.loop-symbol.within s old new (map key_list c.loop-symbol.keys.items) (map key_list c.add.new.keys.items) _ follows.0 c.in_ok-add-in-Ok-Some.ensures.added c.loop-symbol.depth _ _ (deeper_started (kind_at s.bytes) c.loop-symbol.depth starts) c.in_ok-within-in-Ok-Some.ensures.is ends inv.keys;
      counted = search rules;
      inside = search rules;
      few = search rules;
    }

pub loop-symbol-preserved : goal.loop-symbol-preserved
loop-symbol-preserved c =
    let inv = c.loop-symbol.invariant in
    let s = symbol_of c.in-Ok-Some.symbol in
    let old = (symbols_left c.loop-symbol.symbols).items in
    let new = (symbols_left c.next.new.self).items in
    let follows = (rw c.in-Ok-Some.field-0-is at c.in-Ok-Some.ensures.yields) in
    let ends : ends_of (kind_at s.bytes) ≡ false = sym c.ends_scope.ensures.kind ∙ c.if-ends_scope.false in
    let starts : starts_of (kind_at s.bytes) ≡ false = sym c.starts_scope.ensures.kind ∙ c.if-starts_scope.false in
    record {
      keys = told_scope_other c.loop-symbol.within s old new (map key_list c.loop-symbol.keys.items) (map key_list c.add.new.keys.items) _ follows.0 c.in_ok-add-in-Ok-Some.ensures.added c.loop-symbol.depth _ _ (deeper_same (kind_at s.bytes) c.loop-symbol.depth starts) c.in_ok-within-in-Ok-Some.ensures.is ends inv.keys;
      counted = search rules;
      inside = search rules;
      few = search rules;
    }
