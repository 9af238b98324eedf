-- The list of symbols: records that stand one after another.
use Rattle.std.specs.Prelude.{◌≡◌, ℕ, ◌+◌, min, ◌==◌, ◌||◌, ◌&&◌, List, [], length, take, drop, nat_le, nat_lt, Bool, if◌then◌else◌, Option, Some, None}
use Rattle.std.specs.List.{sum_by}
use Rattle.pdb_base.specs.declared.error.Error.{Error}
use Rattle.pdb_base.specs.declared.error.Error.TheVariants.{UnexpectedEof, SymbolTooShort}
use Rattle.pdb_base.specs.Fields.{number}
use Rattle.pdb_base.specs.Left.{Left}
use Rattle.pdb_base.specs.Tiling.{Row, Tiles, items_of, listing}

-- a symbol: the place of its record, and its bytes without the length
pub record Entry : Type 0 where
  pub index : ℕ
  pub bytes : List ℕ

-- a length of two bytes, which is at least 2, and that many bytes
abbrev pub symbol_piece : List ℕ → ℕ → Option ℕ
symbol_piece b p = if nat_le (p + 2) (length b) && nat_le 2 (number b p 2) && nat_le (p + 2 + number b p 2) (length b) then Some (2 + number b p 2) else None

-- records of these kinds fill a gap
abbrev pub is_padding : ℕ → Bool
is_padding kind = kind == 0x0402 || kind == 7

-- a record of bytes s at p, if it is a symbol
abbrev pub symbol_of_bytes : ℕ → List ℕ → Option Entry
symbol_of_bytes p s = if is_padding (number s 0 2) then None else Some (record { index = p; bytes = s })

abbrev pub symbol_item : List ℕ → ℕ → ℕ → Option Entry
symbol_item b p k = symbol_of_bytes p (take (number b p 2) (drop (p + 2) b))

-- the first field or test that isn't there or isn't met
abbrev pub symbol_fault : List ℕ → ℕ → Option Error
symbol_fault b p = if nat_lt (length b) (p + 2) then Some UnexpectedEof else if nat_lt (number b p 2) 2 then Some SymbolTooShort else Some UnexpectedEof

abbrev pub symbols : Row Entry
symbols = record { piece = symbol_piece; item = symbol_item; fault = symbol_fault }

-- the symbols of b from the place p on, or from the end where p is past it
abbrev pub symbols_from : List ℕ → ℕ → Left Entry
symbols_from b p = listing symbols b (min p (length b))

-- t is the symbol right behind s: between them stand whole records (place, length) that make no symbol
pub record StandsBehind (b : List ℕ) (s t : Entry) : Type 0 where
  pub padding : List (ℕ × ℕ)
  pub whole : Tiles symbols b (s.index + 2 + length s.bytes) padding t.index
  pub no_symbol : items_of symbols b padding ≡ []
  pub apart : t.index ≡ s.index + 2 + length s.bytes + sum_by (λ t. t.1) padding
