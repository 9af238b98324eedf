-- What values of the code stand for in the definitions.
use Rattle.std.specs.Prelude.{map}
use Rattle.pdb_names.specs.ItaniumNames as itanium
use Rattle.pdb_names.specs.KeptNames as names
use Rattle.pdb_names.specs.MicrosoftNames as microsoft
use Rattle.pdb_names.specs.Numbers as numbers
use Rattle.pdb_names.specs.RustNames as rust
use Rattle.pdb_names.specs.SpecialNames as specials
use Rattle.pdb_names.specs.TypeHeads as heads
use Rattle.pdb_names.specs.declared.itanium_name.Cut.{Cut}
use Rattle.pdb_names.specs.declared.itanium_name.Parts.{Parts}
use Rattle.pdb_names.specs.declared.itanium_name.Piece.{Piece}
use Rattle.pdb_names.specs.declared.microsoft_name.First.{First}
use Rattle.pdb_names.specs.declared.numbers.Number.{Number}
use Rattle.pdb_names.specs.declared.reader.Kept.{Kept}
use Rattle.pdb_names.specs.declared.reader.Reader.{Reader}
use Rattle.pdb_names.specs.declared.reader.Text.{Text}
use Rattle.pdb_names.specs.declared.reader.Word.{Word}
use Rattle.pdb_names.specs.declared.rust_name.Decoded.{Decoded}
use Rattle.pdb_names.specs.declared.special_name.Special.{Special}
use Rattle.pdb_names.specs.declared.type_heads.Head.{Head}

-- ---- names of the Itanium ABI

abbrev pub decoded_of : Decoded → rust.Decoded
decoded_of d = rust.decoded d.text.items d.rest.now

abbrev pub cut_of : Cut → itanium.Piece
cut_of c = itanium.piece c.name.now c.rest.now

abbrev pub piece_of : Piece → itanium.Piece
piece_of p = itanium.piece p.text.items p.rest.now

abbrev pub parts_of : Parts → itanium.Parts
parts_of p = record { texts = map (λ v. v.items) p.texts.items; rest = p.rest.now }

-- ---- names of Microsoft's C++

abbrev pub special_of : Special → specials.Special
special_of p = specials.special p.text.now p.of_class p.rest.now

abbrev pub kept_of : Kept → names.Kept
kept_of k = names.pair k.bytes.items k.text.items

abbrev pub word_of : Word → names.Word
word_of w = names.word_of w.bytes.now w.rest.now

abbrev pub text_of : Text → names.Word
text_of t = names.word_of t.text.items t.rest.now

abbrev pub left_of : Reader → names.Left
left_of r = names.left r.rest.now (map kept_of r.kept.items)

abbrev pub number_of : Number → numbers.Number
number_of n = numbers.number n.value n.rest.now

abbrev pub head_of : Head → heads.Head
head_of h = heads.head h.shape h.text.now h.set h.rest.now

abbrev pub first_of : First → microsoft.First
first_of f = microsoft.first f.before.items f.of_class f.behind.items (left_of f.reader)
