use Rattle.std.proofs.Common.{Bool, Some, None, cond, sym, ap, ◌∙◌}
use Rattle.pdb_modules.specs.LineSearch.{begun_line, if_covers}
use Rattle.pdb_modules.proofs.LineSearches.{at_record, at_found}
use Rattle.pdb_modules.proofs.line_search.begin.Goals as goal

pub returns-then-covers : goal.returns-then-covers
returns-then-covers c = λ rs s. at_found c.args.place rs c.args.last s c.args.mark c.args.line c.in-Some.begun c.requires (sym c.in-Some.ensures) (sym c.covers.ensures ∙ c.if-covers.true)

pub returns-else-covers : goal.returns-else-covers
returns-else-covers c = λ rs s. at_record c.args.place rs c.args.last s c.args.mark c.args.line c.requires
    (ap (if_covers c.args.place) (sym c.in-Some.ensures) ∙ ap (λ (t : Bool). cond t (Some (begun_line c.in-Some.begun)) None) (sym c.covers.ensures ∙ c.if-covers.false))

pub returns-in_default : goal.returns-in_default
returns-in_default c = λ rs s. at_record c.args.place rs c.args.last s c.args.mark c.args.line c.requires (ap (if_covers c.args.place) (sym c.in_default.ensures))
