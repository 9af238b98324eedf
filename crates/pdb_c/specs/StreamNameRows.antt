-- The names of streams as rows, and the bytes of the names.
use Rattle.std.specs.Prelude.{◌≡◌, ◌⊎◌, ℕ, ◌+◌, List, [], ◌∷◌, length, flat_map, Result, Ok, Err}
use Rattle.pdb.specs.Error.{Error}
use Rattle.pdb.specs.Refusal.{◌>>=◌}
use Rattle.pdb.specs.Container.{opens}
use Rattle.pdb.specs.Names.{Name, names_of}
use Rattle.pdb.specs.Answers.{information_in}
use Rattle.pdb_c.specs.Rooms.{over}
use Rattle.pdb_c.specs.Boundary.{IsRefused, room_code, both_code}
use Rattle.pdb_c.specs.declared.stream_names.PdbStreamName.{PdbStreamName}

-- the row of a name whose bytes stand at an offset
abbrev pub name_row : ℕ → Name → PdbStreamName
name_row at n = record { at = at; size = length n.name; number = n.stream }

-- the rows of names whose bytes stand one after the other from an offset on, and those bytes
abbrev pub name_rows : ℕ → List Name → List PdbStreamName
name_rows at [] = []
name_rows at (n ∷ ns) = name_row at n ∷ name_rows (at + length n.name) ns

abbrev pub names_bytes : List Name → List ℕ
names_bytes names = flat_map (λ n. n.name) names

-- rows, and the bytes to which they refer
pub record Named : Type 0 where
  pub rows : List PdbStreamName
  pub bytes : List ℕ

abbrev pub named : List Name → Named
named names = record { rows = name_rows 0 names; bytes = names_bytes names }

-- the names of the streams of a file, in the order in which it lists them
unfoldable pub stream_names_in : List ℕ → Result Named Error
stream_names_in file = do
  u ← opens file
  i ← information_in file
  names ← names_of i.bytes i.names_offset i.names_size
  Ok (named names)

-- what a call put: rows and bytes, each as far as its buffer reaches
pub record AreNamed (it : Named) (c : ℕ) (before after : List PdbStreamName) (n : ℕ) (old new : List ℕ) (total : ℕ) : Type 0 where
  pub rows : after ≡ over it.rows before
  pub count : n ≡ length it.rows
  pub names : new ≡ over it.bytes old
  pub size : total ≡ length it.bytes
  pub code : c ≡ both_code (room_code (length before) (length it.rows)) (room_code (length old) (length it.bytes))

-- nothing was put in either buffer
abbrev pub NoneNamed : List PdbStreamName → List PdbStreamName → ℕ → List ℕ → List ℕ → ℕ → Type 0
NoneNamed before after count old new total = (after ≡ before) × (count ≡ 0) × (new ≡ old) × (total ≡ 0)

-- what a call put of the names of streams that were read: nothing after an error, or where it is out of memory
abbrev pub NamesTold : ℕ → List PdbStreamName → List PdbStreamName → ℕ → List ℕ → List ℕ → ℕ → Result Named Error → Type 0
NamesTold c before after count old new total (Ok it) = AreNamed it c before after count old new total ⊎ ((c ≡ 22) × NoneNamed before after count old new total)
NamesTold c before after count old new total (Err e) = IsRefused c e × NoneNamed before after count old new total
