-- Names, and their text.
use Rattle.std.specs.Prelude.{ℕ, List}
use Rattle.std.specs.Str.{encode_utf8_all}
use Rattle.bstr.specs.Utf8.{lossy_chars}
use Rattle.pdb_base.specs.declared.text.RawString.{RawString}

-- the bytes of a name
abbrev pub name_bytes : RawString → List ℕ
name_bytes s = s.bytes.now

-- the bytes as text, with U+FFFD for each maximal piece that is no character
abbrev pub lossy_text : List ℕ → List ℕ
lossy_text bytes = encode_utf8_all (lossy_chars bytes)
