use Rattle.std.proofs.Common.{◌≡◌, ◌++◌, ℕ, List, length, ap, ◌∙◌, arith}
use Rattle.std.specs.Prelude.{codes}
use Rattle.pdb_types.specs.FullTypes.{first_definition}
use Rattle.pdb_types.specs.TypeTexts.{parts}
use Rattle.pdb_types.specs.Declarations.{declared_in, shown_declaration}
use Rattle.pdb_types.proofs.CutLemmas.{cut_long}
use Rattle.pdb_types.proofs.declarations.put_declaration_counted.Goals as goal

pub returns-in_ok-extend_from_slice-clause-ok : goal.returns-in_ok-extend_from_slice-clause-ok
unfolding shown_declaration
returns-in_ok-extend_from_slice-clause-ok c =
    let start : c.len-start.result ≡ length c.args.out.now.items = grind arith in
    let cut = cut_long 65536 c.args.out.now.items (declared_in c.args.name.now (parts c.args.types.now (first_definition c.args.definitions.now) 64 c.args.index.0)) c.put_declared.new.out.items (rw start at c.in_ok-put_declared.ensures.ok) (omega arith) in
    let kept = rw start at c.truncate.ensures.items in
    c.in_ok-extend_from_slice.ensures.items ∙ ap (λ (l : List ℕ). l ++ codes "<...>") kept ∙ cut
