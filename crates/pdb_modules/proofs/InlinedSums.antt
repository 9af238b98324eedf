-- What annotations move, as sums.
use Rattle.std.proofs.Common.{◌≡◌, ℕ, ◌+◌, ◌%◌, ◌^◌, ◌<◌, List, [], ◌∷◌, ◌++◌, refl, sym, ap, ◌∙◌, arith}
use Rattle.std.specs.List.{sum_by}
use Rattle.std.proofs.lemmas.List.Sums.{sum_by-cons}
use Rattle.pdb_symbols.specs.declared.annotations.BinaryAnnotation.{BinaryAnnotation}
use Rattle.pdb_symbols.specs.declared.annotations.BinaryAnnotation.TheVariants.{CodeOffset, ChangeCodeOffsetBase, ChangeCodeOffset, ChangeCodeLength, ChangeFile, ChangeLineOffset, ChangeLineEndDelta, ChangeRangeKind, ChangeColumnStart, ChangeColumnEndDelta, ChangeCodeOffsetAndLineOffset, ChangeCodeLengthAndCodeOffset, ChangeColumnEnd}
use Rattle.pdb_modules.specs.declared.seen.Seen.{Seen}
use Rattle.pdb_modules.specs.Inlined.{moved, moves_offset, moves_line, latest, since, sets_offset, sets_base, seen}
use Rattle.pdb_modules.specs.InlinedSums.{adds_offset, adds_line}
use Rattle.pdb_modules.proofs.InlinedSteps.{seen_cons}

-- how much one annotation moves a number, modulo 2^32
abbrev Moves : (BinaryAnnotation → ℕ → ℕ) → (BinaryAnnotation → ℕ) → Type 0
Moves moves adds = (x : BinaryAnnotation) (n : ℕ) → moves x n % 2 ^ 32 ≡ (n + adds x) % 2 ^ 32

step : (m n d total : ℕ) → m % 2 ^ 32 ≡ (n + d) % 2 ^ 32 → (m + total) % 2 ^ 32 ≡ (n + (d + total)) % 2 ^ 32
step m n d total e = omega arith

twice : (n : ℕ) → n % 2 ^ 32 % 2 ^ 32 ≡ n % 2 ^ 32
twice n = omega arith

still : (n : ℕ) → n % 2 ^ 32 ≡ (n + 0) % 2 ^ 32
still n = omega arith

offset_moves : Moves moves_offset adds_offset
offset_moves (CodeOffset a) n = still n
offset_moves (ChangeCodeOffsetBase a) n = still n
offset_moves (ChangeCodeOffset a) n = twice (n + a)
offset_moves (ChangeCodeLength a) n = twice (n + a)
offset_moves (ChangeFile a) n = still n
offset_moves (ChangeLineOffset a) n = still n
offset_moves (ChangeLineEndDelta a) n = still n
offset_moves (ChangeRangeKind a) n = still n
offset_moves (ChangeColumnStart a) n = still n
offset_moves (ChangeColumnEndDelta a) n = still n
offset_moves (ChangeCodeOffsetAndLineOffset a b) n = twice (n + a)
offset_moves (ChangeCodeLengthAndCodeOffset a b) n = twice (n + b)
offset_moves (ChangeColumnEnd a) n = still n

line_moves : Moves moves_line adds_line
line_moves (CodeOffset a) n = still n
line_moves (ChangeCodeOffsetBase a) n = still n
line_moves (ChangeCodeOffset a) n = still n
line_moves (ChangeCodeLength a) n = still n
line_moves (ChangeFile a) n = still n
line_moves (ChangeLineOffset a) n = twice (n + adds_line (ChangeLineOffset a))
line_moves (ChangeLineEndDelta a) n = still n
line_moves (ChangeRangeKind a) n = still n
line_moves (ChangeColumnStart a) n = still n
line_moves (ChangeColumnEndDelta a) n = still n
line_moves (ChangeCodeOffsetAndLineOffset a b) n = twice (n + adds_line (ChangeCodeOffsetAndLineOffset a b))
line_moves (ChangeCodeLengthAndCodeOffset a b) n = still n
line_moves (ChangeColumnEnd a) n = still n

moved_sum : (moves : BinaryAnnotation → ℕ → ℕ) (adds : BinaryAnnotation → ℕ) → Moves moves adds → (n : ℕ) (xs : List BinaryAnnotation) → moved moves n xs % 2 ^ 32 ≡ (n + sum_by adds xs) % 2 ^ 32
moved_sum moves adds h n [] = still n
moved_sum moves adds h n (x ∷ xs) =
    moved_sum moves adds h (moves x n) xs
    ∙ (step (moves x n) n (adds x) (sum_by adds xs) (h x n) ∙ ap (λ (total : ℕ). (n + total) % 2 ^ 32) (sym (sum_by-cons adds x xs)))

based : (m n base : ℕ) → m % 2 ^ 32 ≡ n % 2 ^ 32 → (m + base) % 2 ^ 32 ≡ (base + n) % 2 ^ 32
based m n base e = omega arith

regroup : (base n total : ℕ) → (base + (n + total)) % 2 ^ 32 ≡ (base + n + total) % 2 ^ 32
regroup base n total = omega arith

pub offset_sum : (s : Seen) (xs : List BinaryAnnotation) → ((seen s xs).offset + (seen s xs).base) % 2 ^ 32 ≡ (latest sets_base s.base xs + latest sets_offset s.offset xs + sum_by adds_offset (since sets_offset xs)) % 2 ^ 32
unfolding seen
offset_sum s xs =
    let sum = moved_sum moves_offset adds_offset offset_moves (latest sets_offset s.offset xs) (since sets_offset xs) in
    based _ _ (latest sets_base s.base xs) sum ∙ regroup (latest sets_base s.base xs) (latest sets_offset s.offset xs) (sum_by adds_offset (since sets_offset xs))

-- a number of 32 bits stays one
small_moves : (x : BinaryAnnotation) (n : ℕ) → n < 2 ^ 32 → moves_line x n < 2 ^ 32
small_moves (CodeOffset a) n h = h
small_moves (ChangeCodeOffsetBase a) n h = h
small_moves (ChangeCodeOffset a) n h = h
small_moves (ChangeCodeLength a) n h = h
small_moves (ChangeFile a) n h = h
small_moves (ChangeLineOffset a) n h = omega arith
small_moves (ChangeLineEndDelta a) n h = h
small_moves (ChangeRangeKind a) n h = h
small_moves (ChangeColumnStart a) n h = h
small_moves (ChangeColumnEndDelta a) n h = h
small_moves (ChangeCodeOffsetAndLineOffset a b) n h = omega arith
small_moves (ChangeCodeLengthAndCodeOffset a b) n h = h
small_moves (ChangeColumnEnd a) n h = h

small_line : (n : ℕ) (xs : List BinaryAnnotation) → n < 2 ^ 32 → moved moves_line n xs < 2 ^ 32
small_line n [] h = h
small_line n (x ∷ xs) h = small_line (moves_line x n) xs (small_moves x n h)

whole : (n : ℕ) → n < 2 ^ 32 → n ≡ n % 2 ^ 32
whole n h = omega arith

pub line_sum : (s : Seen) (xs : List BinaryAnnotation) → s.line < 2 ^ 32 → (seen s xs).line ≡ (s.line + sum_by adds_line xs) % 2 ^ 32
unfolding seen
line_sum s xs h = whole (moved moves_line s.line xs) (small_line s.line xs h) ∙ moved_sum moves_line adds_line line_moves s.line xs

seen_nothing : (s : Seen) → seen s [] ≡ s
unfolding seen
seen_nothing s = refl

pub seen_more : (s : Seen) (xs ys : List BinaryAnnotation) → seen (seen s xs) ys ≡ seen s (xs ++ ys)
seen_more s [] ys = ap (λ (t : Seen). seen t ys) (seen_nothing s)
seen_more s (x ∷ xs) ys =
    ap (λ (t : Seen). seen t ys) (seen_cons s x xs)
    ∙ (seen_more (seen s (x ∷ [])) xs ys ∙ sym (seen_cons s x (xs ++ ys)))
