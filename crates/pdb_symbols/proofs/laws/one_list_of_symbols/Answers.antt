use Rattle.std.proofs.Common.{◌≡◌, min, length, arith}
use Rattle.pdb_base.proofs.Tilings.{is_listing, only_listing}
use Rattle.pdb_symbols.specs.SymbolList.{symbols}
use Rattle.pdb_symbols.proofs.SymbolSteps.{symbols_inside}
use Rattle.pdb_symbols.proofs.laws.one_list_of_symbols.Goals as goal

pub returns-clause-is : goal.returns-clause-is
returns-clause-is c b p h =
    let place : min p (length b) ≡ p = omega arith in
    rw place (is_listing symbols symbols_inside b p)

pub returns-clause-only : goal.returns-clause-only
returns-clause-only c b p left h is =
    let place : min p (length b) ≡ p = omega arith in
    rw place (only_listing symbols symbols_inside b p left is)
