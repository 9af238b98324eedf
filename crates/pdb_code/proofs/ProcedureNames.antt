-- The name of the procedure at a place is the one that its symbol's heading has.
use Rattle.std.proofs.Common.{◌≡◌, ℕ, ◌==◌, List, Option, Some, Result, Ok, Err, refl, sym, ap, subst, ◌∙◌}
use Rattle.std.specs.Prelude.{find}
use Rattle.std.specs.Option.{option_map}
use Rattle.pdb.specs.Error.{Error}
use Rattle.pdb.specs.Data.{Data}
use Rattle.pdb.specs.Data.Data.{Procedure, Thunk, SeparatedCode, InlineSite}
use Rattle.pdb.specs.Forms.{record_at}
use Rattle.pdb.specs.ModuleStream.{ModuleBytes}
use Rattle.pdb.specs.PdbInternalSectionOffset.{PdbInternalSectionOffset}
use Rattle.pdb.specs.SymbolList.{Entry}
use Rattle.pdb.specs.Refusal.{◌>>=◌}
use Rattle.pdb_symbols.specs.Data.{ProcedureSays}
use Rattle.pdb_symbols.specs.Headings.{heading_at, title_of}
use Rattle.pdb_places.specs.AsIfEmpty.{if_read}
use Rattle.pdb_code.specs.Kept.{IsListed}
use Rattle.pdb_places.specs.Pieces.{Code, code_covers, index_of}
use Rattle.pdb_code.specs.ModuleCode.{function_at, named, named_in, procedure_at, procedure_of, role, says, says_at, says_if, symbols_in}
use Rattle.pdb_code.specs.ModuleCode.Role.{at_procedure}
use Rattle.pdb_code.specs.SaidNames.{name_said, name_titled}
use Rattle.pdb_places.proofs.RisingSymbols.{Rises}
use Rattle.pdb_code.proofs.Scopes.{Stands, is_procedure, stands}
use Rattle.pdb_code.proofs.SiteCalls.{all_rise, find_index, procedure_listed}

-- ---- headings

titled_by : (r : Result Data Error) → name_titled (r >>= λ d. Ok (title_of d)) ≡ name_said (if_read r)
titled_by (Ok d) = refl
titled_by (Err x) = refl

pub titled : (s : Entry) (n : Option (List ℕ)) → n ≡ name_titled (heading_at s.bytes) → n ≡ name_said (says s)
titled s n e = e ∙ titled_by (record_at s.bytes)

-- ---- the procedure at a place

abbrev Said : Option Data → PdbInternalSectionOffset → Type 0
Said o place = (s : ProcedureSays) × (o ≡ Some (Procedure s)) × (s.offset ≡ place)

said_by : (r : Result Data Error) (place : PdbInternalSectionOffset) (size end : ℕ) → role r ≡ at_procedure place size end → Said (if_read r) place
said_by (Ok (Procedure s)) place size end e = (s, refl, cc)
said_by (Ok (Thunk s)) place size end e = absurd cc
said_by (Ok (SeparatedCode s)) place size end e = absurd cc
said_by (Ok (InlineSite s)) place size end e = absurd cc
said_by (Ok d) place size end e = absurd cc
said_by (Err x) place size end e = absurd cc

said : (q : PdbInternalSectionOffset) (m : ModuleBytes) (c : Code) → procedure_at q m ≡ Some c → Said (says_at m c.index) c.place
said q m c found =
    let at : Stands procedure_of (symbols_in m) c = stands procedure_of (code_covers q) (symbols_in m) c found in
    let is = is_procedure at.symbol c at.says in
    let first : find (λ s. s.index == c.index) (symbols_in m) ≡ Some at.symbol =
    ap (find (λ s. s.index == c.index)) at.whole ∙ find_index c.index at.before at.symbol at.after (sym is.index) (subst Rises at.whole (all_rise m)) in
    subst (λ (o : Option Entry). Said (says_if o) c.place) (sym first) (said_by (record_at at.symbol.bytes) c.place c.length c.end is.is)

-- its name, and where the list says that it begins, name the place
pub procedure_named : (q : PdbInternalSectionOffset) (m : ModuleBytes) (c : Code) (n : Option (List ℕ)) → procedure_at q m ≡ Some c → n ≡ name_said (says_at m c.index) → option_map (λ s. named s c.place) n ≡ named_in m (function_at q m)
procedure_named q m c n found is =
    let (s, says, place) = said q m c found in
    rw (found, says) (rw (is ∙ ap name_said says) (ap (λ (p : PdbInternalSectionOffset). Some (named s.name p)) (sym place)))

pub procedure_there : (q : PdbInternalSectionOffset) (m : ModuleBytes) (c : Code) → procedure_at q m ≡ Some c → IsListed c.index (symbols_in m)
procedure_there q m c found = procedure_listed q m c.index (ap (option_map index_of) found)
