-- What is left to read of a name of Microsoft's C++, and the table of ten names that are kept for back-references.
use Rattle.std.specs.Prelude.{ℕ, ◌+◌, ◌==◌, ◌&&◌, Bool, false, not, List, [], ◌∷◌, ◌++◌, length, take, drop, position, Option, Some, None, codes, nat_eq, nat_lt, if◌then◌else◌}
use Rattle.std.specs.Char.{is_ascii_digit}
use Rattle.std.specs.List.{list_any}
use Rattle.std.specs.Cmp.Lexicographic.{pointwise}
use Rattle.pdb_names.specs.CNames.{is_name}

-- ---- the table

-- bytes that are kept, and the text that they spell
pub record Kept : Type 0 where
  pub bytes : List ℕ
  pub text : List ℕ

abbrev pub pair : List ℕ → List ℕ → Kept
pair bytes text = record { bytes = bytes; text = text }

abbrev pub has_bytes : List ℕ → Kept → Bool
has_bytes bytes k = pointwise nat_eq k.bytes bytes

-- at most ten pairs are kept, and the same bytes once
unfoldable pub is_wanted : List ℕ → List Kept → Bool
is_wanted bytes table = nat_lt (length table) 10 && not (list_any (has_bytes bytes) table)

unfoldable pub with_pair : List ℕ → List ℕ → List Kept → List Kept
with_pair bytes text table = if is_wanted bytes table then table ++ pair bytes text ∷ [] else table

-- ---- what is left

-- what is left to read, and the table
pub record Left : Type 0 where
  pub rest : List ℕ
  pub table : List Kept

abbrev pub left : List ℕ → List Kept → Left
left rest table = record { rest = rest; table = table }

-- a text, and what is left behind it
pub record Got : Type 0 where
  pub text : List ℕ
  pub left : Left

abbrev pub got : List ℕ → Left → Got
got text left = record { text = text; left = left }

-- ---- names

-- bytes up to an @, and those behind it
pub record Word : Type 0 where
  pub bytes : List ℕ
  pub rest : List ℕ

abbrev pub word_of : List ℕ → List ℕ → Word
word_of bytes rest = record { bytes = bytes; rest = rest }

abbrev pub word_at : Option ℕ → List ℕ → Option Word
word_at None s = None
word_at (Some n) s = Some (word_of (take n s) (drop (n + 1) s))

unfoldable pub word : List ℕ → Option Word
word s = word_at (position (λ x. x == 64) s) s

abbrev pub begins_with_digit : List ℕ → Bool
begins_with_digit [] = false
begins_with_digit (b ∷ s) = is_ascii_digit b

-- the text of a pair once more
abbrev pub again : Option Kept → Left → Option Got
again None l = None
again (Some k) l = Some (got k.text (left (drop 1 l.rest) l.table))

-- a name as it stands there
abbrev pub plain : List Kept → Word → Option Got
plain table w = if is_name w.bytes then Some (got w.bytes (left w.rest (with_pair w.bytes w.bytes table))) else None

abbrev pub unnamed : List Kept → Word → Option Got
unnamed table w = Some (got (codes "`anonymous namespace'") (left w.rest (with_pair w.bytes (codes "`anonymous namespace'") table)))
