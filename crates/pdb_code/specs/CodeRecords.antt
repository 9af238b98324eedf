-- Words of private functions: which symbols may be code, by their kinds.
use Rattle.std.specs.Prelude.{◌≡◌, ℕ, ◌+◌, ◌≤◌, Bool, List, [], ◌∷◌, length, take, drop, Some}
use Rattle.std.specs.List.{filter}
use Rattle.pdb.specs.Fields.{number}
use Rattle.pdb.specs.Forms.{kind_at}
use Rattle.pdb.specs.SymbolList.{Entry, symbols}
use Rattle.pdb.specs.Tiling.{listing}
use Rattle.pdb_symbols.specs.Kinds.{is_in}

-- kinds of procedures, thunks, separated code, sites, managed procedures and trampolines
abbrev pub is_code_kind : ℕ → Bool
is_code_kind kind = is_in (0x0206 ∷ 0x100a ∷ 0x100b ∷ 0x101a ∷ 0x101b ∷ 0x1102 ∷ 0x110f ∷ 0x1110 ∷ 0x112a ∷ 0x112b ∷ 0x112c ∷ 0x1132 ∷ 0x1146 ∷ 0x1147 ∷ 0x114d ∷ 0x1155 ∷ 0x1156 ∷ 0x115d ∷ []) kind

abbrev pub may_be_code : Entry → Bool
may_be_code s = is_code_kind (kind_at s.bytes)

-- those of the symbols from a place on that may be code
abbrev pub code_left : List ℕ → ℕ → List Entry
code_left b p = filter may_be_code (listing symbols b p).items

-- a whole record of bytes s stands at p, behind its length
pub record IsRecord (b : List ℕ) (p : ℕ) (s : List ℕ) : Type 0 where
  pub piece : symbols.piece b p ≡ Some (2 + length s)
  pub bytes : take (number b p 2) (drop (p + 2) b) ≡ s
  pub kind : 2 ≤ length s
  pub inside : p + 2 + length s ≤ length b
