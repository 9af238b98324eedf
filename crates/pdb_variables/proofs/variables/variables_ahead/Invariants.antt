use Rattle.std.proofs.Common.{◌≡◌, ◌++◌, ◌+◌, ◌≤◌, ◌<◌, ◌^◌, [], map, length, reverse}
use Rattle.pdb.specs.Views.{symbols_left}
use Rattle.pdb_variables.specs.Variables.{is_told}
use Rattle.pdb_variables.specs.VariableViews.{listed_by, procedure_of_place, shown_variable}
use Rattle.pdb_variables.specs.VariableWalk.{variables_ahead}
use Rattle.pdb_variables.proofs.variables.variables_ahead.Given as goal

-- the variables so far, and those of the symbols that are left, are all; no more calls were counted than symbols came
abbrev pub invariant-loop-symbol : goal.invariant-loop-symbol
invariant-loop-symbol l = record {
  variables : map shown_variable l.found.items ++ variables_ahead l.fn.asked.place (listed_by l.fn.asked) (procedure_of_place l.fn.asked) l.fn.bases (is_told l.told) (reverse l.around.items) l.calls (symbols_left l.symbols).items
      ≡ variables_ahead l.fn.asked.place (listed_by l.fn.asked) (procedure_of_place l.fn.asked) l.fn.bases (is_told l.told) [] 0 (symbols_left l.fn.symbols).items;
  counted : l.calls + length (symbols_left l.symbols).items ≤ length (symbols_left l.fn.symbols).items;
  few : length (symbols_left l.symbols).items < length (symbols_left l.fn.symbols).items → length (symbols_left l.fn.symbols).items < 2 ^ 64;
}

abbrev pub decreases-loop-symbol : goal.decreases-loop-symbol
decreases-loop-symbol l = length (symbols_left l.symbols).items
