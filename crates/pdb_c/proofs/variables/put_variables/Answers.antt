use Rattle.std.proofs.Common.{◌≡◌, ◌+◌, ◌∷◌, drop, sym, ap, ◌∙◌}
use Rattle.pdb_variables.specs.declared.variables.VariableAt.{VariableAt}
use Rattle.pdb_c.proofs.Putting.{drop_next}
use Rattle.pdb_c.proofs.VariableSteps.{names_next, sizes_next, variables_counted, variables_next}
use Rattle.pdb_c.proofs.variables.put_variables.Goals as goal

pub loop-variable-preserved : goal.loop-variable-preserved
loop-variable-preserved c =
    let so_far = c.loop-variable.invariant in
    let on = c.in_ok-put_located.ensures in
    let named = c.in_ok-add.ensures in
    let found = c.args.found.now in
    let names = rw c.as_bytes.ensures at named.names in
    let size = rw c.as_bytes.ensures at named.size in
    let n = c.loop-variable.variable-index in
    let item = c.variable-item.result in
    let next : drop n found ≡ item ∷ drop (n + 1) found = drop_next found n item c.loop-variable-test.true ∙ ap (λ (x : VariableAt). x ∷ drop (n + 1) found) (sym c.variable-item.is) in
    record {
      rows = variables_next c.args.address (drop n found) (drop (n + 1) found) c.loop-variable.count c.put_located.new.count c.loop-variable.size c.add.new.size item c.loop-variable.rows c.put_located.new.rows _ next on.rows on.count size so_far.rows;
      count = variables_counted c.args.address (drop n found) (drop (n + 1) found) c.loop-variable.count c.put_located.new.count c.loop-variable.size c.add.new.size _ item next on.count size so_far.count;
      names = names_next (drop n found) (drop (n + 1) found) c.loop-variable.size c.add.new.size item c.loop-variable.names c.add.new.names _ next names size so_far.names;
      size = sizes_next (drop n found) (drop (n + 1) found) c.loop-variable.size c.add.new.size _ item next size so_far.size;
    }
