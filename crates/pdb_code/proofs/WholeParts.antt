-- A module is whole where its parts are.
use Rattle.std.proofs.Common.{◌≡◌, ℕ, Bool, ◌&&◌, List, Ok, Err, refl}
use Rattle.std.specs.Option.{is_none, is_some}
use Rattle.std.specs.Result.{is_ok}
use Rattle.pdb.specs.Error.{Error}
use Rattle.pdb.specs.ModuleStream.{ModuleBytes, symbols_at_of, symbols_of, symbols_part_of, inlinees_of}
use Rattle.pdb.specs.SymbolList.{symbols_from}
use Rattle.pdb_code.specs.ModuleCode.{program_in}
use Rattle.pdb_code.specs.Whole.{is_whole, is_whole_list}

pub whole_by : (m : ModuleBytes) (a b c : Bool) → a ≡ is_whole_list (symbols_of m) → b ≡ is_some (program_in m) → c ≡ is_whole_list (inlinees_of m) → (a && b && c) ≡ is_whole m
unfolding is_whole
whole_by m a b c p q r = rw (p, q, r) refl

-- the symbols are whole where their part is there, and has no fault
pub whole_symbols : (m : ModuleBytes) (s : List ℕ) → symbols_part_of m ≡ Ok s → is_whole_list (symbols_of m) ≡ (is_ok (symbols_part_of m) && is_none (symbols_from s 4).fault)
unfolding symbols_at_of
whole_symbols m s e = rw e refl

pub no_symbols : (m : ModuleBytes) (e : Error) (s : List ℕ) → symbols_part_of m ≡ Err e → is_whole_list (symbols_of m) ≡ (is_ok (symbols_part_of m) && is_none (symbols_from s 4).fault)
unfolding symbols_at_of
no_symbols m e s q = rw q refl
