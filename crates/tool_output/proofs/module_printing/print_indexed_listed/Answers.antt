use Rattle.std.proofs.Common.{◌≡◌, ℕ, List, Ok, Err, flat_map, refl, sym, subst}
use Rattle.pdb.specs.Error.{Error}
use Rattle.pdb.specs.Refusal.{◌>>=◌}
use Rattle.pdb.specs.Left.{Left}
use Rattle.pdb.specs.DbiViews.{modules_left}
use Rattle.pdb.specs.Modules.{ModuleEntry, modules_in}
use Rattle.pdb.specs.Answers.{debug_information_in}
use Rattle.tool_output.specs.ErrorObjects.{error_of}
use Rattle.tool_output.specs.ModuleTexts.{are_several, in_file, module_in}
use Rattle.tool_output.proofs.IndexedTexts.{places_listed, places_refused}
use Rattle.tool_output.proofs.Refused.{refused_as}
use Rattle.tool_printing.specs.Printing.{Prints, shown}
use Rattle.tool_output.proofs.module_printing.print_indexed_listed.Goals as goal

pub returns-in-Ok-modules-clause-prints : goal.returns-in-Ok-modules-clause-prints
returns-in-Ok-modules-clause-prints g c = λ told.
    let t1 = c.print_each.ensures.continues.told told in
    let read : (debug_information_in c.args.pdb.now.file >>= modules_in) ≡ Ok (modules_left c.in-Ok-modules.modules) = rw (c.in-Ok.ensures.answer t1) c.in-Ok-modules.ensures.left in
    let here = rw (c.debug_information.ensures.continues.file, c.are_several-several.ensures) at (c.print_each.ensures.prints told) in
    let printed = subst (λ (left : Left ModuleEntry). Prints (shown (flat_map (module_in c.args.format (are_several c.args.indices.now) (in_file (g.T.ModuleText.text c.args.texts.now) c.args.pdb.now.file) c.args.pdb.now.file left) c.args.indices.now)) (g.P.Printer.state c.args.out.now) (g.P.Printer.state c.print_each.new.out) c.print_each.result) c.new-list.ensures here in
    subst (λ (t : List ℕ). Prints (shown t) (g.P.Printer.state c.args.out.now) (g.P.Printer.state c.print_each.new.out) c.print_each.result) (sym (places_listed c.args.format (in_file (g.T.ModuleText.text c.args.texts.now) c.args.pdb.now.file) c.args.pdb.now.file (modules_left c.in-Ok-modules.modules) c.args.indices.now read)) printed

pub returns-clause-prints : goal.returns-clause-prints
returns-clause-prints g c = λ told.
    let read : (debug_information_in c.args.pdb.now.file >>= modules_in) ≡ Err c.in-Err-modules.e = rw (c.in-Ok.ensures.answer told) c.in-Err-modules.ensures.left.0 in
    let printed = subst (λ (e : Error). Prints (shown (flat_map (λ (k : ℕ). error_of c.args.format k e) c.args.indices.now)) (g.P.Printer.state c.args.out.now) (g.P.Printer.state c.print_each_refused-in-Err-modules.new.out) c.print_each_refused-in-Err-modules.result) c.in_ok-list_error-in-Err-modules.ensures.same.0 c.print_each_refused-in-Err-modules.ensures.prints in
    subst (λ (t : List ℕ). Prints (shown t) (g.P.Printer.state c.args.out.now) (g.P.Printer.state c.print_each_refused-in-Err-modules.new.out) c.print_each_refused-in-Err-modules.result) (sym (places_refused c.args.format (in_file (g.T.ModuleText.text c.args.texts.now) c.args.pdb.now.file) c.args.pdb.now.file c.in-Err-modules.e c.args.indices.now read)) printed

pub returns-in-Err-clause-prints : goal.returns-in-Err-clause-prints
returns-in-Err-clause-prints g c = λ told.
    let same = c.in_ok-list_error-in-Err.ensures.same in
    let refused = refused_as _ c.in-Err.e _ (c.in-Err.ensures.answer told) same.1 same.2 in
    let read : (debug_information_in c.args.pdb.now.file >>= modules_in) ≡ Err c.in-Err.e = rw refused refl in
    let printed = subst (λ (e : Error). Prints (shown (flat_map (λ (k : ℕ). error_of c.args.format k e) c.args.indices.now)) (g.P.Printer.state c.args.out.now) (g.P.Printer.state c.print_each_refused.new.out) c.print_each_refused.result) same.0 c.print_each_refused.ensures.prints in
    subst (λ (t : List ℕ). Prints (shown t) (g.P.Printer.state c.args.out.now) (g.P.Printer.state c.print_each_refused.new.out) c.print_each_refused.result) (sym (places_refused c.args.format (in_file (g.T.ModuleText.text c.args.texts.now) c.args.pdb.now.file) c.args.pdb.now.file c.in-Err.e c.args.indices.now read)) printed
