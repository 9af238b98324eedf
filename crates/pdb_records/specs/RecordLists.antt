-- Lists that stand in a record: gaps, numbers, names.
use Rattle.std.specs.Prelude.{ℕ, zero, suc, ◌+◌, ◌-◌, ◌*◌, ◌/◌, ◌%◌, List, [], ◌∷◌, length, map, take, Result, Ok, Err}
use Rattle.std.specs.List.{range_with_len}
use Rattle.pdb_base.specs.declared.error.Error.{Error}
use Rattle.pdb_base.specs.Fields.{number, cstring_at}
use Rattle.std.specs.Int.{w32, cast_signed}
use Rattle.pdb_records.specs.declared.lists.AddressGap.{AddressGap}
use Rattle.pdb_records.specs.declared.shared.PointerTag.{PointerTag}

-- the items of w bytes each, from item k on: as many as are whole
abbrev pub items_from : {A : Type 0} → ℕ → (List ℕ → ℕ → A) → List ℕ → ℕ → List A
items_from w item b k = map (λ i. item b (w * i)) (range_with_len k (length b / w - k))

-- the bytes of the items of w bytes each that are whole
abbrev pub whole_items : ℕ → List ℕ → List ℕ
whole_items w b = take (length b - length b % w) b

-- a gap: a start of two bytes, a length of two
abbrev pub gap_at : List ℕ → ℕ → AddressGap
gap_at b p = record { start = number b p 2; len = number b (p + 2) 2 }

abbrev pub number_of_four : List ℕ → ℕ → ℕ
number_of_four b p = number b p 4

-- a pointer's tag: its value, and a signed number of four bytes behind it
abbrev pub tag_at : List ℕ → ℕ → PointerTag
tag_at b p = record { tag = number b p 4; record_offset = cast_signed w32 (number b (p + 4) 4) }

-- the gaps, and the numbers, that stand in these bytes; bytes behind the last whole one are nobody's
abbrev pub gaps_of : List ℕ → List AddressGap
gaps_of b = items_from 4 gap_at b 0

abbrev pub numbers_of : List ℕ → List ℕ
numbers_of b = items_from 4 number_of_four b 0

-- the tags, of eight bytes each
abbrev pub tags_of : List ℕ → List PointerTag
tags_of b = items_from 8 tag_at b 0

-- a name, where one was read, and those behind it
abbrev pub name_and : Result (List ℕ) Error → (List ℕ → List (List ℕ)) → List (List ℕ)
name_and (Ok s) behind = s ∷ behind s
name_and (Err e) behind = []

-- at most n names, each before a zero byte, one behind another from p on
abbrev pub names_from : ℕ → List ℕ → ℕ → List (List ℕ)
names_from zero b p = []
names_from (suc n) b p = name_and (cstring_at b p) (λ s. names_from n b (p + (length s + 1)))
