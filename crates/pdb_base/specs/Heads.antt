-- What the code keeps of a file's front, as the definitions have it.
use Rattle.pdb_base.specs.declared.error.Error.{Error}
use Rattle.pdb_base.specs.declared.error.Error.TheVariants.{UnexpectedEof, UnrecognizedFileFormat}
use Rattle.pdb_base.specs.declared.directory.FileHead.{FileHead}
use Rattle.pdb_base.specs.Container.{Head}

abbrev pub head : FileHead → Head
head h = record { page_size = h.page_size; pages_used = h.pages_used; directory_size = h.directory_size }

-- a file that ends in its front is no file of this format
abbrev pub as_format : Error → Error
as_format UnexpectedEof = UnrecognizedFileFormat
as_format e = e
