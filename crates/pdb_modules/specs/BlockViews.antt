-- What contracts see of a block.
use Rattle.pdb_modules.specs.declared.blocks.Block.{Block}
use Rattle.pdb_modules.specs.Blocks.{LineBlock}

abbrev pub block_of : Block → LineBlock
block_of block = record { file = block.file.0; count = block.count; body = block.body.now }
