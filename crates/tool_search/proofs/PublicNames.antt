-- Names of public symbols that spell no other name.
use Rattle.std.proofs.Common.{◌≡◌, List, ℕ, Bool, true, false, Option, Some, None, refl}
use Rattle.std.specs.Prelude.{◌||◌, codes, is_some}
use Rattle.std.proofs.lemmas.Slice.Eq.{bytes_eq-Decides}
use Rattle.pdb.specs.PdbInternalSectionOffset.{PdbInternalSectionOffset}
use Rattle.pdb_names.specs.Spelling.{text_of}
use Rattle.tool_search.specs.FindTexts.{Finding, is_asked, line_if_asked, public_line, public_name}

twice : (asked : Bool) → (asked || asked) ≡ asked
twice true = refl
twice false = refl

own_name : (name : List ℕ) → public_name name name ≡ name
own_name name = rw ((bytes_eq-Decides name name).1 refl) refl

pub as_it_is : (f : Finding) (q : PdbInternalSectionOffset) (name : List ℕ) (s : Option (List ℕ)) → is_some s ≡ false → public_line f q name (text_of name s) ≡ line_if_asked (codes "public") f q None name
unfolding public_line
as_it_is f q name (Some t) e = absurd cc
as_it_is f q name None e = rw (twice (is_asked f.words name), own_name name) refl
