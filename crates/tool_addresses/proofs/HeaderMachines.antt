-- The machine of the header of a DBI stream that was read, and of one that wasn't.
use Rattle.std.proofs.Common.{◌≡◌, ℕ, List, Some, None, Result, Ok, Err, refl, sym, ap, ◌∙◌}
use Rattle.pdb.specs.Answers.{debug_information_in}
use Rattle.pdb.specs.DBIHeader.{DBIHeader}
use Rattle.pdb.specs.Error.{Error}
use Rattle.pdb.specs.Header.{header_of}
use Rattle.pdb.specs.Refusal.{◌>>=◌}
use Rattle.pdb_records.specs.Machines.{machine_of_image}
use Rattle.pdb_places.specs.AsIfEmpty.{if_read}
use Rattle.tool_fields.specs.ModuleMachines.{file_machine, machine_of_header}

read_of : (r : Result (List ℕ) Error) (b : List ℕ) (h : DBIHeader) → Some b ≡ if_read r → header_of b ≡ Ok h → machine_of_image h.machine_type ≡ machine_of_header (r >>= header_of)
read_of (Ok a) b h there is =
    let same : b ≡ a = cc in
    ap machine_of_header (sym is) ∙ ap (λ (x : List ℕ). machine_of_header (header_of x)) same
read_of (Err e) b h there is = absurd cc

pub header_read : (file b : List ℕ) (h : DBIHeader) → Some b ≡ if_read (debug_information_in file) → header_of b ≡ Ok h → machine_of_image h.machine_type ≡ file_machine file
header_read file b h there is = read_of (debug_information_in file) b h there is

unread_of : (r : Result (List ℕ) Error) → None ≡ if_read r → None ≡ machine_of_header (r >>= header_of)
unread_of (Ok a) none = absurd cc
unread_of (Err e) none = refl

pub no_header : (file : List ℕ) → None ≡ if_read (debug_information_in file) → None ≡ file_machine file
no_header file none = unread_of (debug_information_in file) none
