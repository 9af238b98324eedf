-- The blocks of a line subsection, which stand one after another behind its header, and their entries.
use Rattle.std.specs.Prelude.{ℕ, ◌+◌, ◌-◌, ◌*◌, Bool, nat_lt, if◌then◌else◌, List, map, length, Option, Some, None, Result, Ok, Err}
use Rattle.std.specs.List.{range_with_len}
use Rattle.pdb_base.specs.declared.error.Error.{Error}
use Rattle.pdb_base.specs.declared.error.Error.TheVariants.{InvalidStreamLength}
use Rattle.pdb_base.specs.declared.error.Part.TheVariants.{LinesBlock}
use Rattle.pdb_base.specs.Refusal.{◌>>=◌}
use Rattle.pdb_base.specs.Fields.{number, bytes_at}
use Rattle.pdb_base.specs.Left.{Left}
use Rattle.pdb_base.specs.Tiling.{Row, listing}
use Rattle.pdb_base.specs.Reading.{read_row}
use Rattle.pdb_modules.specs.declared.line.Columns.{Columns}
use Rattle.pdb_modules.specs.declared.line.Entry.{Entry}

-- a block: the file of its entries, how many there are, and the bytes behind its header
pub record LineBlock : Type 0 where
  pub file : ℕ
  pub count : ℕ
  pub body : List ℕ

-- how many bytes an entry takes, with its columns where the subsection has them
abbrev pub entry_width : Bool → ℕ
entry_width columns = if columns then 12 else 8

-- the block's bytes behind a header, where its entries fit
abbrev pub block_in : Bool → List ℕ → List ℕ → Result LineBlock Error
block_in columns header body =
    if nat_lt (length body) (number header 4 4 * entry_width columns) then Err (InvalidStreamLength LinesBlock)
    else Ok (record { file = number header 0 4; count = number header 4 4; body = body })

-- what stands behind a header: as many bytes as the size says, less the header's own
abbrev pub block_behind : Bool → List ℕ → ℕ → List ℕ → Result LineBlock Error
block_behind columns b p header =
    if nat_lt (number header 8 4) 12 then Err (InvalidStreamLength LinesBlock)
    else bytes_at b (p + 12) (number header 8 4 - 12) >>= block_in columns header

-- the block at p
unfoldable pub block_at : Bool → List ℕ → ℕ → Result LineBlock Error
block_at columns b p = bytes_at b p 12 >>= block_behind columns b p

abbrev pub block_length : ℕ → LineBlock → ℕ
block_length p block = 12 + length block.body

abbrev pub blocks : Bool → Row LineBlock
blocks columns = read_row (block_at columns) block_length

unfoldable pub blocks_from : Bool → List ℕ → ℕ → Left LineBlock
blocks_from columns b p = listing (blocks columns) b p

-- the column pair of entry i, behind all n entries
abbrev pub columns_at : Bool → List ℕ → ℕ → ℕ → Option Columns
columns_at columns body n i =
    if columns then Some (record { start = number body (8 * n + 4 * i) 2; end = number body (8 * n + 4 * i + 2) 2 }) else None

-- entry i of a block
abbrev pub entry_of : Bool → LineBlock → ℕ → Entry
entry_of columns block i = record {
  offset = number block.body (8 * i) 4;
  line = record { file = record { 0 = block.file }; flags = number block.body (8 * i + 4) 4; columns = columns_at columns block.body block.count i };
}

-- the entries of a block
abbrev pub entries_of : Bool → LineBlock → List Entry
entries_of columns block = map (entry_of columns block) (range_with_len 0 block.count)
