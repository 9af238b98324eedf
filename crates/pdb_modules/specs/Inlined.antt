-- The line records of an inline site, read off the whole list of its annotations.
use Rattle.std.specs.Prelude.{ℕ, suc, ◌+◌, ◌-◌, ◌%◌, ◌^◌, ◌==◌, Bool, true, false, not, ◌&&◌, List, [], ◌∷◌, ◌++◌, length, take, drop, map, slice_index_or, if◌then◌else◌, Option, Some, None}
use Rattle.std.specs.List.{fold, filter, find, list_any, range_with_len}
use Rattle.std.specs.Option.{option_map, option_or, option_to_list, is_some, unwrap_or}
use Rattle.std.specs.Int.{w32, cast_unsigned}
use Rattle.pdb_base.specs.declared.error.Error.{Error}
use Rattle.pdb_base.specs.declared.index.FileIndex.{FileIndex}
use Rattle.pdb_base.specs.declared.index.PdbInternalSectionOffset.{PdbInternalSectionOffset}
use Rattle.pdb_base.specs.Left.{Left, ended}
use Rattle.pdb_symbols.specs.declared.annotations.BinaryAnnotation.{BinaryAnnotation}
use Rattle.pdb_symbols.specs.declared.annotations.BinaryAnnotation.TheVariants.{CodeOffset, ChangeCodeOffsetBase, ChangeCodeOffset, ChangeCodeLength, ChangeFile, ChangeLineOffset, ChangeLineEndDelta, ChangeRangeKind, ChangeColumnStart, ChangeColumnEndDelta, ChangeCodeOffsetAndLineOffset, ChangeCodeLengthAndCodeOffset, ChangeColumnEnd}
use Rattle.pdb_modules.specs.declared.line_info.LineInfo.{LineInfo}
use Rattle.pdb_modules.specs.declared.line_info.LineInfoKind.{LineInfoKind}
use Rattle.pdb_modules.specs.declared.line_info.LineInfoKind.TheVariants.{Expression, Statement}
use Rattle.pdb_modules.specs.declared.seen.Seen.{Seen}
use Rattle.pdb_modules.specs.Inlinees.{InlineeEntry}
use Rattle.pdb_symbols.specs.Annotations.{emits, annotations_of}

-- ---- what each annotation sets, and what it moves

abbrev pub sets_offset : BinaryAnnotation → Option ℕ
sets_offset (CodeOffset offset) = Some offset
sets_offset a = None

abbrev pub sets_base : BinaryAnnotation → Option ℕ
sets_base (ChangeCodeOffsetBase base) = Some base
sets_base a = None

abbrev pub sets_file : BinaryAnnotation → Option FileIndex
sets_file (ChangeFile file) = Some file
sets_file a = None

abbrev pub sets_line_count : BinaryAnnotation → Option ℕ
sets_line_count (ChangeLineEndDelta count) = Some count
sets_line_count a = None

abbrev pub sets_kind : BinaryAnnotation → Option LineInfoKind
sets_kind (ChangeRangeKind n) = if n == 0 then Some Expression else if n == 1 then Some Statement else None
sets_kind a = None

abbrev pub sets_column_start : BinaryAnnotation → Option (Option ℕ)
sets_column_start (ChangeColumnStart column) = Some (Some column)
sets_column_start a = None

abbrev pub sets_column_end : BinaryAnnotation → Option (Option ℕ)
sets_column_end (ChangeColumnEnd column) = Some (Some column)
sets_column_end a = None

-- a number moved by so much, modulo 2^32
abbrev pub plus : ℕ → ℕ → ℕ
plus delta n = (n + delta) % 2 ^ 32

abbrev pub moves_offset : BinaryAnnotation → ℕ → ℕ
moves_offset (ChangeCodeOffset delta) n = plus delta n
moves_offset (ChangeCodeLength size) n = plus size n
moves_offset (ChangeCodeOffsetAndLineOffset delta lines) n = plus delta n
moves_offset (ChangeCodeLengthAndCodeOffset size delta) n = plus delta n
moves_offset a n = n

abbrev pub moves_line : BinaryAnnotation → ℕ → ℕ
moves_line (ChangeLineOffset lines) n = plus (cast_unsigned w32 lines) n
moves_line (ChangeCodeOffsetAndLineOffset delta lines) n = plus (cast_unsigned w32 lines) n
moves_line a n = n

-- an end column that isn't there stays so
abbrev pub moves_column_end : BinaryAnnotation → Option ℕ → Option ℕ
moves_column_end (ChangeColumnEndDelta columns) column = option_map (plus (cast_unsigned w32 columns)) column
moves_column_end a column = column

-- ---- what is seen behind some annotations

-- the last value that one of them sets, or the one before them
abbrev pub latest : {A : Type 0} → (BinaryAnnotation → Option A) → A → List BinaryAnnotation → A
latest sets start xs = fold (λ value x. unwrap_or (sets x) value) start xs

-- those behind the last one that sets a value, or all where none does
abbrev pub since : {A : Type 0} → (BinaryAnnotation → Option A) → List BinaryAnnotation → List BinaryAnnotation
since sets [] = []
since sets (x ∷ xs) = if list_any (λ y. is_some (sets y)) (x ∷ xs) then since sets xs else x ∷ xs

-- a value that each of them moves
abbrev pub moved : {A : Type 0} → (BinaryAnnotation → A → A) → A → List BinaryAnnotation → A
moved moves start xs = fold (λ value x. moves x value) start xs

-- the last value that one of them sets, or the one before them, moved by those since
abbrev pub latest_moved : {A : Type 0} → (BinaryAnnotation → Option A) → (BinaryAnnotation → A → A) → A → List BinaryAnnotation → A
latest_moved sets moves start xs = moved moves (latest sets start xs) (since sets xs)

-- what is seen behind the annotations xs, where s is seen before them
unfoldable pub seen : Seen → List BinaryAnnotation → Seen
seen s xs = record {
  offset = latest_moved sets_offset moves_offset s.offset xs;
  base = latest sets_base s.base xs;
  file_index = latest sets_file s.file_index xs;
  line = moved moves_line s.line xs;
  line_count = latest sets_line_count s.line_count xs;
  column_start = latest sets_column_start s.column_start xs;
  column_end = latest_moved sets_column_end moves_column_end s.column_end xs;
  kind = latest sets_kind s.kind xs;
}

-- annotation i, and what is seen at it: that one counts, and all before it
abbrev pub nth : List BinaryAnnotation → ℕ → BinaryAnnotation
nth xs i = slice_index_or xs i (CodeOffset 0)

abbrev pub seen_at : Seen → List BinaryAnnotation → ℕ → Seen
seen_at s xs i = seen s (take (suc i) xs)

-- where the code stands that a record tells of
abbrev pub code_offset : Seen → ℕ
code_offset s = (s.offset + s.base) % 2 ^ 32

-- ---- lengths

abbrev pub same_kind : LineInfoKind → LineInfoKind → Bool
same_kind Expression Expression = true
same_kind Statement Statement = true
same_kind a b = false

-- whether an annotation can tell the length of a record before it
abbrev pub tells : BinaryAnnotation → Bool
tells (ChangeCodeLength size) = true
tells a = emits a

-- the length that an annotation tells of a record at this offset, where s is seen at it: its operand, or how far the code moved
abbrev pub told : BinaryAnnotation → Seen → ℕ → ℕ
told (ChangeCodeLength size) s offset = size
told a s offset = (code_offset s + (2 ^ 32 - offset)) % 2 ^ 32

-- the length that an annotation says of its own record
abbrev pub own_length : BinaryAnnotation → Option ℕ
own_length (ChangeCodeLengthAndCodeOffset size delta) = Some size
own_length a = None

-- annotation j decides the length of the record of annotation i, which stands before it: it can tell one, at the same kind, and none between them emits
abbrev pub decides : Seen → List BinaryAnnotation → ℕ → ℕ → Bool
decides s xs i j = tells (nth xs j) && same_kind (seen_at s xs j).kind (seen_at s xs i).kind && not (list_any emits (drop (suc i) (take j xs)))

-- the length of the record of annotation i: its own, or what the first annotation behind it that decides tells
abbrev pub length_at : Seen → List BinaryAnnotation → ℕ → Option ℕ
length_at s xs i = option_or (own_length (nth xs i)) (option_map (λ j. told (nth xs j) (seen_at s xs j) (code_offset (seen_at s xs i))) (find (decides s xs i) (range_with_len (suc i) (length xs - suc i))))

-- ---- records

-- the record of what is seen, with a length
abbrev pub record_of : ℕ → Seen → Option ℕ → LineInfo
record_of section s size = record {
  offset = record { offset = code_offset s; section = section };
  length = size;
  file_index = s.file_index;
  line_start = s.line;
  line_end = (s.line + s.line_count) % 2 ^ 32;
  column_start = s.column_start;
  column_end = s.column_end;
  kind = s.kind;
}

-- the record of annotation i
abbrev pub record_at : ℕ → Seen → List BinaryAnnotation → ℕ → LineInfo
record_at section s xs i = record_of section (seen_at s xs i) (length_at s xs i)

-- the records of those that emit one
unfoldable pub records : ℕ → Seen → List BinaryAnnotation → List LineInfo
records section s xs = map (record_at section s xs) (filter (λ i. emits (nth xs i)) (range_with_len 0 (length xs)))

-- all but the last
abbrev but_last_of : {A : Type 0} → A → List A → List A
but_last_of x [] = []
but_last_of x (y ∷ ys) = x ∷ but_last_of y ys

abbrev pub but_last : {A : Type 0} → List A → List A
but_last [] = []
but_last (x ∷ xs) = but_last_of x xs

-- before a fault the last record is missing
abbrev pub unless_open : {A : Type 0} → Option Error → List A → List A
unless_open None xs = xs
unless_open (Some e) xs = but_last xs

-- the records of a list of annotations, and its fault
abbrev pub lines_of : ℕ → Seen → Left BinaryAnnotation → Left LineInfo
lines_of section s rest = record { items = unless_open rest.fault (records section s rest.items); fault = rest.fault }

-- what is seen before the first annotation
abbrev pub start : ℕ → FileIndex → ℕ → Seen
start offset file line = record { offset = offset; base = 0; file_index = file; line = line; line_count = 1; column_start = None; column_end = None; kind = Statement }

-- the line records of an inlined function from this file and line, in the procedure that begins at parent, by these annotations
abbrev pub inlined_lines : PdbInternalSectionOffset → FileIndex → ℕ → List ℕ → Left LineInfo
inlined_lines parent file line b = lines_of parent.section (start parent.offset file line) (annotations_of b)

-- ---- in the middle of a list: a record is pending, of which the length may still come

-- annotation j of xs decides the length of a record of this kind that was made before xs: it can tell one, at the same kind, and none of xs before it emits
abbrev pub decides_pending : Seen → List BinaryAnnotation → LineInfoKind → ℕ → Bool
decides_pending s xs kind j = tells (nth xs j) && same_kind (seen_at s xs j).kind kind && not (list_any emits (take j xs))

-- what the first of xs that decides tells of the length of such a record at this offset
unfoldable pub length_told : Seen → List BinaryAnnotation → LineInfoKind → ℕ → Option ℕ
length_told s xs kind offset = option_map (λ j. told (nth xs j) (seen_at s xs j) offset) (find (decides_pending s xs kind) (range_with_len 0 (length xs)))

-- the record with the length that the first of xs that decides tells, if it has none yet
abbrev pub completed : Seen → List BinaryAnnotation → LineInfo → LineInfo
completed s xs r = record r { length = option_or r.length (length_told s xs r.kind r.offset.offset) }

-- the record with this length, if it has none yet and its kind is seen
abbrev pub sized : Seen → ℕ → LineInfo → LineInfo
sized s size r = record r { length = option_or r.length (if same_kind s.kind r.kind then Some size else None) }

-- the record with a length up to the code that is seen, likewise
abbrev pub ended_at : Seen → LineInfo → LineInfo
ended_at s r = sized s ((code_offset s + (2 ^ 32 - r.offset.offset)) % 2 ^ 32) r

-- the record with the length that a tells, if it has none yet
abbrev pub given : BinaryAnnotation → Seen → LineInfo → LineInfo
given a s r = record r { length = option_or r.length (if tells a && same_kind s.kind r.kind then Some (told a s r.offset.offset) else None) }

-- what is left: the pending record, completed, and then the records of the annotations that are left; before a fault the last one is missing
abbrev pub lines_left : ℕ → Seen → Option LineInfo → Left BinaryAnnotation → Left LineInfo
lines_left section s pending rest = record {
  items = unless_open rest.fault (option_to_list (option_map (completed s rest.items) pending) ++ records section s rest.items);
  fault = rest.fault;
}

-- the records of a site with these annotations, in a procedure that begins there: those of its inlined function; none where that isn't listed
abbrev pub lines_of_site : PdbInternalSectionOffset → List ℕ → Option InlineeEntry → Left LineInfo
lines_of_site parent annotations None = ended
lines_of_site parent annotations (Some x) = inlined_lines parent (record { 0 = x.file_index }) x.line annotations
