use Rattle.std.proofs.Common.{◌≡◌, [], Bool, true, false, cond, sym, ap, ◌∙◌}
use Rattle.pdb.specs.Forms.{kind_at}
use Rattle.pdb.specs.Scopes.{starts_of}
use Rattle.pdb.specs.Views.{symbol_of, symbols_left}
use Rattle.pdb_variables.proofs.RecordsBehind.{behind_given, one_given}
use Rattle.pdb_code.proofs.SiteCalls.{not_there}
use Rattle.pdb_variables.proofs.variables.symbols_behind.Goals as goal

pub returns-in_default : goal.returns-in_default
returns-in_default c = absurd (not_there c.args.info.now c.args.index.0 c.in_default.field-0 c.in_default.ensures.left.0 c.requires)

pub returns-then-starts_scope : goal.returns-then-starts_scope
returns-then-starts_scope c =
    let follows = (rw c.in-Ok-Some.field-0-is at c.in-Ok-Some.ensures.yields) in
    let s = symbol_of c.in-Ok-Some.symbol in
    let new = (symbols_left c.next.new.self).items in
    let starts : starts_of (kind_at s.bytes) ≡ true = sym c.starts_scope.ensures.kind ∙ c.if-starts_scope.true in
    sym (behind_given c.args.info.now c.args.index.0 (symbols_left c.in-Ok.symbols) c.in-Ok.ensures.left c.requires s new follows.0 ∙ ap (λ (b : Bool). cond b new []) starts)

pub returns-else-starts_scope : goal.returns-else-starts_scope
returns-else-starts_scope c =
    let follows = (rw c.in-Ok-Some.field-0-is at c.in-Ok-Some.ensures.yields) in
    let s = symbol_of c.in-Ok-Some.symbol in
    let new = (symbols_left c.next.new.self).items in
    let starts : starts_of (kind_at s.bytes) ≡ false = sym c.starts_scope.ensures.kind ∙ c.if-starts_scope.false in
    sym (behind_given c.args.info.now c.args.index.0 (symbols_left c.in-Ok.symbols) c.in-Ok.ensures.left c.requires s new follows.0 ∙ ap (λ (b : Bool). cond b new []) starts)

pub returns-in-Ok-None : goal.returns-in-Ok-None
returns-in-Ok-None c =
    let ends = (rw c.in-Ok-None.field-0-is at c.in-Ok-None.ensures.yields) in
    absurd (one_given c.args.info.now c.args.index.0 (symbols_left c.in-Ok.symbols) c.in-Ok.ensures.left c.requires ends.0)

pub returns-in-Err : goal.returns-in-Err
returns-in-Err c = absurd (one_given c.args.info.now c.args.index.0 (symbols_left c.in-Ok.symbols) c.in-Ok.ensures.left c.requires c.in-Err.ensures.yields.0)
