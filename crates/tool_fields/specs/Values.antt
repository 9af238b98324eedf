-- How values are told.
use Rattle.std.specs.Prelude.{ℕ, List, [], ◌∷◌, ◌++◌, Option, Some, None, codes}
use Rattle.std.specs.Fmt.{decimal}
use Rattle.pdb.specs.PdbInternalSectionOffset.{PdbInternalSectionOffset}
use Rattle.pdb_text.specs.Digits.{hex, short_hex}
use Rattle.pdb_text.specs.OneLine.{one_line}

-- a place: a section and an offset in it
abbrev pub place_text : PdbInternalSectionOffset → List ℕ
place_text o = hex 4 o.section ++ codes ":" ++ hex 8 o.offset

-- a number, `-` where there is none
abbrev pub optional_text : Option ℕ → List ℕ
optional_text None = codes "-"
optional_text (Some n) = decimal n

-- an address of the image, `-` where there is none
abbrev pub address_text : Option ℕ → List ℕ
address_text None = codes "-"
address_text (Some address) = codes "0x" ++ short_hex address

-- a name on one line, behind a blank; nothing where it is empty
abbrev pub behind_blank : List ℕ → List ℕ
behind_blank [] = []
behind_blank (b ∷ name) = codes " " ++ one_line (b ∷ name)
