-- Words of private functions: the name that a symbol says.
use Rattle.std.specs.Prelude.{ℕ, List, Option, Some, None, Result, Ok, Err}
use Rattle.pdb.specs.Error.{Error}
use Rattle.pdb.specs.Data.{Data}
use Rattle.pdb_symbols.specs.Data.{name_of}
use Rattle.pdb_symbols.specs.Headings.{Titled}

-- the name that is said, if one is
abbrev pub name_said : Option Data → Option (List ℕ)
name_said None = None
name_said (Some d) = name_of d

-- the name of a heading, if it can be read and has one
abbrev pub name_titled : Result Titled Error → Option (List ℕ)
name_titled (Ok t) = t.1
name_titled (Err e) = None
