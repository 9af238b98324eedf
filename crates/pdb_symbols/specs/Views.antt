-- What contracts see of the types with private fields.
use Rattle.std.specs.Prelude.{ℕ, List, ◌++◌, ◌≤◌, length, false, codes}
use Rattle.std.specs.Fmt.{digits, decimal}
use Rattle.pdb_base.specs.Left.{Left}
use Rattle.pdb_base.specs.Tiling.{listing}
use Rattle.pdb_symbols.specs.declared.symbol.Symbol.{Symbol}
use Rattle.pdb_symbols.specs.declared.table.SymbolIter.{SymbolIter}
use Rattle.pdb_symbols.specs.Forms.{kind_at}
use Rattle.pdb_symbols.specs.SymbolList.{Entry, symbols}

-- a symbol's index and bytes
abbrev pub symbol_of : Symbol → Entry
symbol_of s = record { index = s.index.0; bytes = s.bytes.now }

-- how a symbol of these bytes is shown
abbrev pub debug_text : List ℕ → List ℕ
debug_text b = codes "Symbol{ kind: 0x" ++ (digits 16 false (kind_at b) ++ (codes " [" ++ (decimal (length b) ++ codes " bytes] }")))

-- the symbols that an iterator has left, and perhaps a fault after them
abbrev pub symbols_left : SymbolIter → Left Entry
symbols_left it = listing symbols it.buffer.bytes it.buffer.place

-- the bytes that an iterator stands over
abbrev pub symbols_bytes : SymbolIter → List ℕ
symbols_bytes it = it.buffer.bytes

-- the place among them at which an iterator stands
abbrev pub symbols_place : SymbolIter → ℕ
symbols_place it = it.buffer.place

-- an iterator has ended: no byte is left
abbrev pub SymbolsEnded : SymbolIter → Type 0
SymbolsEnded it = length it.buffer.bytes ≤ it.buffer.place

-- an iterator's steps since its start, or since the last `seek` or `skip_to`
abbrev pub symbols_steps : SymbolIter → ℕ
symbols_steps it = it.steps.count
