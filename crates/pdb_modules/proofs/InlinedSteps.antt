-- What one more annotation does to what is seen, to a length and to the records.
use Rattle.std.specs.Prelude.{not, ◌&&◌}
use Rattle.std.proofs.Common.{◌≡◌, ℕ, zero, suc, ◌+◌, ◌-◌, ◌≤◌, Bool, true, false, cond, List, [], ◌∷◌, length, take, drop, map, Option, Some, None, Result, Ok, refl, sym, ap, ◌∙◌, arith}
use Rattle.std.specs.List.{filter, find, list_any, range_with_len}
use Rattle.std.specs.Option.{option_map, option_or, option_len, is_some}
use Rattle.pdb_base.specs.declared.error.Error.{Error}
use Rattle.pdb_base.specs.Left.{Left, Follows, Ends, Yields, ended}
use Rattle.pdb_symbols.specs.declared.annotations.BinaryAnnotation.{BinaryAnnotation}
use Rattle.pdb_symbols.specs.declared.annotations.BinaryAnnotation.TheVariants.{CodeOffset, ChangeCodeOffsetBase, ChangeCodeOffset, ChangeCodeLength, ChangeFile, ChangeLineOffset, ChangeLineEndDelta, ChangeRangeKind, ChangeColumnStart, ChangeColumnEndDelta, ChangeCodeOffsetAndLineOffset, ChangeCodeLengthAndCodeOffset, ChangeColumnEnd}
use Rattle.pdb_modules.specs.declared.line_info.LineInfo.{LineInfo}
use Rattle.pdb_modules.specs.declared.line_info.LineInfoKind.{LineInfoKind}
use Rattle.pdb_modules.specs.declared.pending.Lines.{Lines}
use Rattle.pdb_modules.specs.declared.seen.Seen.{Seen}
use Rattle.pdb_symbols.specs.Annotations.{emits}
use Rattle.pdb_modules.specs.Inlined.{code_offset, latest, since, moved, latest_moved, seen, nth, seen_at, same_kind, tells, decides, told, decides_pending, length_told, own_length, record_of, record_at, records, sets_offset, moves_offset, sets_column_end, moves_column_end, but_last, unless_open, completed, given, ended_at, lines_left}

-- ---- what is seen

module _ {A : Type 0} (sets : BinaryAnnotation → Option A) where
  abbrev some_sets : List BinaryAnnotation → Bool
  some_sets xs = list_any (λ y. is_some (sets y)) xs

  -- where none sets a value, it is the one before, and all stand behind it
  latest_none : (v : A) (xs : List BinaryAnnotation) → some_sets xs ≡ false → latest sets v xs ≡ v
  latest_none v [] e = refl
  latest_none v (x ∷ xs) e = by_value (sets x) refl (λ d. latest_none v xs d)
    where
      by_value : (o : Option A) → sets x ≡ o → (some_sets xs ≡ false → latest sets v xs ≡ v) → latest sets v (x ∷ xs) ≡ v
      by_value None q more = rw q (more (rw q at e))
      by_value (Some n) q more = let never : true ≡ false = rw q at e in absurd cc

  since_none : (xs : List BinaryAnnotation) → some_sets xs ≡ false → since sets xs ≡ xs
  since_none [] e = refl
  since_none (x ∷ xs) e = rw e refl

  -- where one does, it isn't the one before
  latest_some : (v w : A) (xs : List BinaryAnnotation) → some_sets xs ≡ true → latest sets v xs ≡ latest sets w xs
  latest_some v w [] e = absurd cc
  latest_some v w (x ∷ xs) e = by_value (sets x) refl (λ d. latest_some v w xs d)
    where
      by_value : (o : Option A) → sets x ≡ o → (some_sets xs ≡ true → latest sets v xs ≡ latest sets w xs) → latest sets v (x ∷ xs) ≡ latest sets w (x ∷ xs)
      by_value None q more = rw q (more (rw q at e))
      by_value (Some n) q more = rw q refl

  module _ (moves : BinaryAnnotation → A → A) where
    latest_moved_cons : (v : A) (x : BinaryAnnotation) (xs : List BinaryAnnotation) → latest_moved sets moves v (x ∷ xs) ≡ latest_moved sets moves (latest_moved sets moves v (x ∷ [])) xs
    latest_moved_cons v x xs = by_value (sets x) refl (some_sets xs) refl
      where
        by_value : (o : Option A) → sets x ≡ o → (t : Bool) → some_sets xs ≡ t → latest_moved sets moves v (x ∷ xs) ≡ latest_moved sets moves (latest_moved sets moves v (x ∷ [])) xs
        by_value (Some n) q t e = rw q refl
        by_value None q true e = rw (q, e) (ap (λ (u : A). moved moves u (since sets xs)) (latest_some v (moves x v) xs e))
        by_value None q false e = rw (q, e) (rw (latest_none v xs e, latest_none (moves x v) xs e, since_none xs e) refl)

pub seen_cons : (s : Seen) (x : BinaryAnnotation) (xs : List BinaryAnnotation) → seen s (x ∷ xs) ≡ seen (seen s (x ∷ [])) xs
unfolding seen
seen_cons s x xs =
    let offset = latest_moved_cons sets_offset moves_offset s.offset x xs in
    let column_end = latest_moved_cons sets_column_end moves_column_end s.column_end x xs in
    λ i. record (seen s (x ∷ xs)) { offset = offset i; column_end = column_end i }

-- ---- places in a list that begins with one more

range_suc : (a n : ℕ) → range_with_len (suc a) n ≡ map suc (range_with_len a n)
range_suc a zero = refl
range_suc a (suc n) =
    let same : suc a + 1 ≡ suc (a + 1) = omega arith in
    ap (λ (k : ℕ). suc a ∷ range_with_len k n) same ∙ ap (λ (is : List ℕ). suc a ∷ is) (range_suc (a + 1) n)

module _ {B : Type 0} (f g : ℕ → B) (p q : ℕ → Bool) (same : (i : ℕ) → f (suc i) ≡ g i) (tests : (i : ℕ) → p (suc i) ≡ q i) where
  shift_filter : (is : List ℕ) → map f (filter p (map suc is)) ≡ map g (filter q is)
  shift_filter [] = refl
  shift_filter (i ∷ is) = rw (tests i) (by_test (q i) (shift_filter is))
    where
      by_test : (t : Bool) → map f (filter p (map suc is)) ≡ map g (filter q is) → map f (cond t (suc i ∷ filter p (map suc is)) (filter p (map suc is))) ≡ map g (cond t (i ∷ filter q is) (filter q is))
      by_test true more = ap (λ (y : B). y ∷ map f (filter p (map suc is))) (same i) ∙ ap (λ (ys : List B). g i ∷ ys) more
      by_test false more = more

  shift_find : (is : List ℕ) → option_map f (find p (map suc is)) ≡ option_map g (find q is)
  shift_find [] = refl
  shift_find (i ∷ is) = rw (tests i) (by_test (q i) (shift_find is))
    where
      by_test : (t : Bool) → option_map f (find p (map suc is)) ≡ option_map g (find q is) → option_map f (cond t (Some (suc i)) (find p (map suc is))) ≡ option_map g (cond t (Some i) (find q is))
      by_test true more = ap Some (same i)
      by_test false more = more

find_none : (p : ℕ → Bool) → ((i : ℕ) → p (suc i) ≡ false) → (is : List ℕ) → find p (map suc is) ≡ None
find_none p fails [] = refl
find_none p fails (i ∷ is) = rw (fails i) (find_none p fails is)

-- ---- lengths

and_true : (a b : Bool) → (a && b && true) ≡ (a && b)
and_true true true = refl
and_true true false = refl
and_true false b = refl

and_false : (a b : Bool) → (a && b && false) ≡ false
and_false true true = refl
and_false true false = refl
and_false false b = refl

abbrev Told : Seen → BinaryAnnotation → List BinaryAnnotation → LineInfoKind → ℕ → Option ℕ
Told t x xs kind offset = cond (tells x && same_kind t.kind kind) (Some (told x t offset)) (cond (emits x) None (length_told t xs kind offset))

-- the first annotation decides, or emits, or the length is told behind it
pub length_told_cons : (s : Seen) (x : BinaryAnnotation) (xs : List BinaryAnnotation) (kind : LineInfoKind) (offset : ℕ) → length_told s (x ∷ xs) kind offset ≡ Told (seen s (x ∷ [])) x xs kind offset
unfolding length_told
length_told_cons s x xs kind offset = rw (range_suc 0 (length xs), and_true (tells x) (same_kind t.kind kind)) (first (tells x && same_kind t.kind kind))
  where
    t : Seen
    t = seen s (x ∷ [])

    says : ℕ → ℕ
    says j = told (nth (x ∷ xs) j) (seen_at s (x ∷ xs) j) offset

    says_behind : ℕ → ℕ
    says_behind i = told (nth xs i) (seen_at t xs i) offset

    same : (i : ℕ) → says (suc i) ≡ says_behind i
    same i = ap (λ (u : Seen). told (nth xs i) u offset) (seen_cons s x (take (suc i) xs))

    behind : (e : Bool) → emits x ≡ e → option_map says (find (decides_pending s (x ∷ xs) kind) (map suc (range_with_len 0 (length xs)))) ≡ cond e None (option_map says_behind (find (decides_pending t xs kind) (range_with_len 0 (length xs))))
    behind true h = ap (option_map says) (find_none (decides_pending s (x ∷ xs) kind) (λ i. rw h (and_false (tells (nth xs i)) (same_kind (seen s (x ∷ take (suc i) xs)).kind kind))) (range_with_len 0 (length xs)))
    behind false h = shift_find says says_behind (decides_pending s (x ∷ xs) kind) (decides_pending t xs kind) same (λ i. rw h (ap (λ (u : Seen). tells (nth xs i) && same_kind u.kind kind && not (list_any emits (take i xs))) (seen_cons s x (take (suc i) xs)))) (range_with_len 0 (length xs))

    first : (c : Bool) → option_map says (cond c (Some 0) (find (decides_pending s (x ∷ xs) kind) (map suc (range_with_len 0 (length xs))))) ≡ cond c (Some (told x t offset)) (cond (emits x) None (option_map says_behind (find (decides_pending t xs kind) (range_with_len 0 (length xs)))))
    first true = refl
    first false = behind (emits x) refl

-- ---- records

-- the record of a, at which t is seen, before the annotations xs
abbrev record_before : ℕ → BinaryAnnotation → Seen → List BinaryAnnotation → LineInfo
record_before section x t xs = record_of section t (option_or (own_length x) (length_told t xs t.kind (code_offset t)))

-- the record of the first annotation
first_record : (section : ℕ) (s : Seen) (x : BinaryAnnotation) (xs : List BinaryAnnotation) → record_at section s (x ∷ xs) 0 ≡ record_before section x (seen s (x ∷ [])) xs
unfolding length_told
first_record section s x xs = ap (λ (l : Option ℕ). record_of section t (option_or (own_length x) l)) (ap (λ (n : ℕ). option_map says (find (decides s (x ∷ xs) 0) (range_with_len 1 n))) places ∙ (ap (λ (is : List ℕ). option_map says (find (decides s (x ∷ xs) 0) is)) (range_suc 0 (length xs)) ∙ shifted))
  where
    t : Seen
    t = seen s (x ∷ [])

    says : ℕ → ℕ
    says j = told (nth (x ∷ xs) j) (seen_at s (x ∷ xs) j) (code_offset t)

    says_behind : ℕ → ℕ
    says_behind i = told (nth xs i) (seen_at t xs i) (code_offset t)

    places : length (x ∷ xs) - 1 ≡ length xs
    places = omega arith

    shifted : option_map says (find (decides s (x ∷ xs) 0) (map suc (range_with_len 0 (length xs)))) ≡ option_map says_behind (find (decides_pending t xs t.kind) (range_with_len 0 (length xs)))
    shifted = shift_find says says_behind (decides s (x ∷ xs) 0) (decides_pending t xs t.kind)
        (λ i. ap (λ (u : Seen). told (nth xs i) u (code_offset t)) (seen_cons s x (take (suc i) xs)))
        (λ i. ap (λ (u : Seen). tells (nth xs i) && same_kind u.kind t.kind && not (list_any emits (take i xs))) (seen_cons s x (take (suc i) xs)))
        (range_with_len 0 (length xs))

-- the record of a later one doesn't know that one stands before
later_record : (section : ℕ) (s : Seen) (x : BinaryAnnotation) (xs : List BinaryAnnotation) (i : ℕ) → record_at section s (x ∷ xs) (suc i) ≡ record_at section (seen s (x ∷ [])) xs i
later_record section s x xs i = λ k. record_of section (here k) (option_or (own_length (nth xs i)) (lengths k))
  where
    t : Seen
    t = seen s (x ∷ [])

    here : seen s (x ∷ take (suc i) xs) ≡ seen_at t xs i
    here = seen_cons s x (take (suc i) xs)

    says : ℕ → ℕ
    says j = told (nth (x ∷ xs) j) (seen_at s (x ∷ xs) j) (code_offset (seen_at s (x ∷ xs) (suc i)))

    says_behind : ℕ → ℕ
    says_behind j = told (nth xs j) (seen_at t xs j) (code_offset (seen_at t xs i))

    places : length (x ∷ xs) - suc (suc i) ≡ length xs - suc i
    places = omega arith

    shifted : option_map says (find (decides s (x ∷ xs) (suc i)) (map suc (range_with_len (suc i) (length xs - suc i)))) ≡ option_map says_behind (find (decides t xs i) (range_with_len (suc i) (length xs - suc i)))
    shifted = shift_find says says_behind (decides s (x ∷ xs) (suc i)) (decides t xs i)
        (λ j k. told (nth xs j) (seen_cons s x (take (suc j) xs) k) (code_offset (here k)))
        (λ j k. tells (nth xs j) && same_kind (seen_cons s x (take (suc j) xs) k).kind (here k).kind && not (list_any emits (drop (suc i) (take j xs))))
        (range_with_len (suc i) (length xs - suc i))

    lengths : option_map says (find (decides s (x ∷ xs) (suc i)) (range_with_len (suc (suc i)) (length (x ∷ xs) - suc (suc i)))) ≡ option_map says_behind (find (decides t xs i) (range_with_len (suc i) (length xs - suc i)))
    lengths = ap (λ (n : ℕ). option_map says (find (decides s (x ∷ xs) (suc i)) (range_with_len (suc (suc i)) n))) places ∙ (ap (λ (is : List ℕ). option_map says (find (decides s (x ∷ xs) (suc i)) is)) (range_suc (suc i) (length xs - suc i)) ∙ shifted)

pub records_cons : (section : ℕ) (s : Seen) (x : BinaryAnnotation) (xs : List BinaryAnnotation) → records section s (x ∷ xs) ≡ cond (emits x) (record_before section x (seen s (x ∷ [])) xs ∷ records section (seen s (x ∷ [])) xs) (records section (seen s (x ∷ [])) xs)
unfolding records
records_cons section s x xs = rw (range_suc 0 (length xs)) (first (emits x))
  where
    t : Seen
    t = seen s (x ∷ [])

    f : ℕ → LineInfo
    f = record_at section s (x ∷ xs)

    g : ℕ → LineInfo
    g = record_at section t xs

    rest : map f (filter (λ i. emits (nth (x ∷ xs) i)) (map suc (range_with_len 0 (length xs)))) ≡ map g (filter (λ i. emits (nth xs i)) (range_with_len 0 (length xs)))
    rest = shift_filter f g (λ i. emits (nth (x ∷ xs) i)) (λ i. emits (nth xs i)) (later_record section s x xs) (λ i. refl) (range_with_len 0 (length xs))

    first : (e : Bool) → map f (cond e (0 ∷ filter (λ i. emits (nth (x ∷ xs) i)) (map suc (range_with_len 0 (length xs)))) (filter (λ i. emits (nth (x ∷ xs) i)) (map suc (range_with_len 0 (length xs))))) ≡ cond e (record_before section x t xs ∷ map g (filter (λ i. emits (nth xs i)) (range_with_len 0 (length xs)))) (map g (filter (λ i. emits (nth xs i)) (range_with_len 0 (length xs))))
    first true = λ k. first_record section s x xs k ∷ rest k
    first false = rest

pub records_none : (section : ℕ) (s : Seen) → records section s [] ≡ []
unfolding records
records_none section s = refl

pub length_told_none : (s : Seen) (kind : LineInfoKind) (offset : ℕ) → length_told s [] kind offset ≡ None
unfolding length_told
length_told_none s kind offset = refl

-- ---- the pending record

abbrev Given : BinaryAnnotation → Seen → LineInfo → Option ℕ
Given x t r = cond (tells x && same_kind t.kind r.kind) (Some (told x t r.offset.offset)) None

told_emits : (s : Seen) (x : BinaryAnnotation) (xs : List BinaryAnnotation) (r : LineInfo) → emits x ≡ true → length_told s (x ∷ xs) r.kind r.offset.offset ≡ Given x (seen s (x ∷ [])) r
told_emits s x xs r e = rw (length_told_cons s x xs r.kind r.offset.offset, e) refl

told_quiet : (s : Seen) (x : BinaryAnnotation) (xs : List BinaryAnnotation) (r : LineInfo) → emits x ≡ false → length_told s (x ∷ xs) r.kind r.offset.offset ≡ option_or (Given x (seen s (x ∷ [])) r) (length_told (seen s (x ∷ [])) xs r.kind r.offset.offset)
told_quiet s x xs r e = rw (length_told_cons s x xs r.kind r.offset.offset, e) (by_test (tells x && same_kind (seen s (x ∷ [])).kind r.kind))
  where
    by_test : (t : Bool) → cond t (Some (told x (seen s (x ∷ [])) r.offset.offset)) (length_told (seen s (x ∷ [])) xs r.kind r.offset.offset) ≡ option_or (cond t (Some (told x (seen s (x ∷ [])) r.offset.offset)) None) (length_told (seen s (x ∷ [])) xs r.kind r.offset.offset)
    by_test true = refl
    by_test false = refl

or_assoc : (a b c : Option ℕ) → option_or a (option_or b c) ≡ option_or (option_or a b) c
or_assoc None b c = refl
or_assoc (Some n) b c = refl

or_none : (a : Option ℕ) → option_or a None ≡ a
or_none None = refl
or_none (Some n) = refl

completed_emits : (s : Seen) (x : BinaryAnnotation) (xs : List BinaryAnnotation) (r : LineInfo) → emits x ≡ true → completed s (x ∷ xs) r ≡ given x (seen s (x ∷ [])) r
completed_emits s x xs r e = ap (λ (l : Option ℕ). record r { length = option_or r.length l }) (told_emits s x xs r e)

completed_quiet : (s : Seen) (x : BinaryAnnotation) (xs : List BinaryAnnotation) (r : LineInfo) → emits x ≡ false → completed s (x ∷ xs) r ≡ completed (seen s (x ∷ [])) xs (given x (seen s (x ∷ [])) r)
completed_quiet s x xs r e = ap (λ (l : Option ℕ). record r { length = l }) (ap (option_or r.length) (told_quiet s x xs r e) ∙ or_assoc r.length (Given x (seen s (x ∷ [])) r) (length_told (seen s (x ∷ [])) xs r.kind r.offset.offset))

completed_none : (s : Seen) (r : LineInfo) → completed s [] r ≡ r
completed_none s r = ap (λ (l : Option ℕ). record r { length = l }) (ap (option_or r.length) (length_told_none s r.kind r.offset.offset) ∙ or_none r.length)

-- ---- turns

abbrev Opened : ℕ → Seen → BinaryAnnotation → LineInfo
Opened section t x = record_of section t (own_length x)

module _ (section : ℕ) (s t : Seen) (x : BinaryAnnotation) (rest behind : Left BinaryAnnotation) (follows : Follows rest (x ∷ []) behind) (now : t ≡ seen s (x ∷ [])) where
  -- an annotation that emits nothing may tell the length of the pending record
  pub quiet_turn : (pending : Option LineInfo) → emits x ≡ false → lines_left section s pending rest ≡ lines_left section t (option_map (given x t) pending) behind
  quiet_turn None e = rw (follows.0, follows.1, now, records_cons section s x behind.items, e) refl
  quiet_turn (Some r) e = rw (follows.0, follows.1, now, records_cons section s x behind.items, e, completed_quiet s x behind.items r e) refl

  -- the first record
  pub first_turn : emits x ≡ true → lines_left section s None rest ≡ lines_left section t (Some (Opened section t x)) behind
  first_turn e = rw (follows.0, follows.1, now, records_cons section s x behind.items, e) refl

  -- a record, which gives the one before it
  pub closing_turn : (r : LineInfo) → emits x ≡ true → Follows (lines_left section s (Some r) rest) (given x t r ∷ []) (lines_left section t (Some (Opened section t x)) behind)
  closing_turn r e = (rw (follows.0, follows.1, now, records_cons section s x behind.items, e, completed_emits s x behind.items r e) (by_fault behind.fault), follows.1)
    where
      u : Seen
      u = seen s (x ∷ [])

      by_fault : (f : Option Error) → unless_open f (given x u r ∷ record_before section x u behind.items ∷ records section u behind.items) ≡ given x u r ∷ unless_open f (record_before section x u behind.items ∷ records section u behind.items)
      by_fault None = refl
      by_fault (Some d) = refl

pub nothing_left : (section : ℕ) (s : Seen) (behind : Left BinaryAnnotation) → behind ≡ ended → lines_left section s None behind ≡ ended
nothing_left section s behind e = rw e (ap (λ (ls : List LineInfo). record { items = ls; fault = None }) (records_none section s))

module _ (section : ℕ) (s : Seen) (rest behind : Left BinaryAnnotation) where
  -- at the end the pending record is the last one
  pub last_turn : (pending : Option LineInfo) → Ends rest [] None behind → Yields (λ (l : LineInfo). l) (lines_left section s pending rest) (Ok pending) (lines_left section s None behind)
  last_turn None ends = (rw (ends.0, ends.1) (records_none section s), ends.1, nothing_left section s behind ends.2)
  last_turn (Some r) ends = (rw (ends.0, ends.1, ends.2) (ap (λ (q : LineInfo). q ∷ records section s []) (completed_none s r)), ends.1 ∙ sym (ap (λ (l : Left BinaryAnnotation). l.fault) ends.2))

  pub taken_turn : (pending took after : Option LineInfo) → took ≡ pending → after ≡ None → Ends rest [] None behind → Yields (λ (l : LineInfo). l) (lines_left section s pending rest) (Ok took) (lines_left section s after behind)
  taken_turn pending took after e f ends = rw (e, f) (last_turn pending ends)

  -- a fault comes in its place
  pub fault_turn : (pending : Option LineInfo) (e : Error) → Ends rest [] (Some e) behind → Ends (lines_left section s pending rest) [] (Some e) (lines_left section s None behind)
  fault_turn None e ends = (rw (ends.0, ends.1) (ap but_last (records_none section s)), ends.1, nothing_left section s behind ends.2)
  fault_turn (Some r) e ends = (rw (ends.0, ends.1) (ap (λ (ls : List LineInfo). but_last (completed s [] r ∷ ls)) (records_none section s)), ends.1, nothing_left section s behind ends.2)

-- ---- how many records are left

but_last_few : (x : LineInfo) (xs : List LineInfo) → length (but_last (x ∷ xs)) ≤ length xs
but_last_few x [] = omega arith
but_last_few x (y ∷ ys) = let more = but_last_few y ys in omega arith

unless_open_few : (f : Option Error) (xs : List LineInfo) → length (unless_open f xs) ≤ length xs
unless_open_few None xs = omega arith
unless_open_few (Some e) [] = omega arith
unless_open_few (Some e) (x ∷ xs) = let few = but_last_few x xs in omega arith

records_few : (section : ℕ) (s : Seen) (xs : List BinaryAnnotation) → length (records section s xs) ≤ length xs
records_few section s [] = rw (records_none section s) (omega arith)
records_few section s (x ∷ xs) = rw (records_cons section s x xs) (by_test (emits x) (records_few section (seen s (x ∷ [])) xs))
  where
    by_test : (e : Bool) → length (records section (seen s (x ∷ [])) xs) ≤ length xs → length (cond e (record_before section x (seen s (x ∷ [])) xs ∷ records section (seen s (x ∷ [])) xs) (records section (seen s (x ∷ [])) xs)) ≤ length (x ∷ xs)
    by_test true few = omega arith
    by_test false few = omega arith

pub lines_few : (section : ℕ) (s : Seen) (pending : Option LineInfo) (rest : Left BinaryAnnotation) → length (lines_left section s pending rest).items ≤ length rest.items + option_len pending
lines_few section s None rest = let one = unless_open_few rest.fault (records section s rest.items) in let two = records_few section s rest.items in omega arith
lines_few section s (Some r) rest = let one = unless_open_few rest.fault (completed s rest.items r ∷ records section s rest.items) in let two = records_few section s rest.items in omega arith

-- ---- one turn of the loop, by what taking in an annotation leaves

-- an annotation that emits a record tells how far the code moved
emits_ends : (x : BinaryAnnotation) (t : Seen) (r : LineInfo) → emits x ≡ true → given x t r ≡ ended_at t r
emits_ends (CodeOffset n) t r e = absurd cc
emits_ends (ChangeCodeOffsetBase n) t r e = absurd cc
emits_ends (ChangeCodeOffset n) t r e = refl
emits_ends (ChangeCodeLength n) t r e = absurd cc
emits_ends (ChangeFile n) t r e = absurd cc
emits_ends (ChangeLineOffset n) t r e = absurd cc
emits_ends (ChangeLineEndDelta n) t r e = absurd cc
emits_ends (ChangeRangeKind n) t r e = absurd cc
emits_ends (ChangeColumnStart n) t r e = absurd cc
emits_ends (ChangeColumnEndDelta n) t r e = absurd cc
emits_ends (ChangeCodeOffsetAndLineOffset n m) t r e = refl
emits_ends (ChangeCodeLengthAndCodeOffset n m) t r e = refl
emits_ends (ChangeColumnEnd n) t r e = absurd cc

module _
    (old mid : Lines) (x : BinaryAnnotation) (rest behind : Left BinaryAnnotation) (took : Option (Option ℕ)) (follows : Follows rest (x ∷ []) behind)
    (section : mid.section ≡ old.section) (now : mid.seen ≡ seen old.seen (x ∷ []))
    (quiet : emits x ≡ false → (took ≡ None) × (mid.pending ≡ option_map (given x mid.seen) old.pending))
    (emitting : emits x ≡ true → (took ≡ Some (own_length x)) × (mid.pending ≡ old.pending))
  where
    pub turn_passes : took ≡ None → lines_left old.section old.seen old.pending rest ≡ lines_left mid.section mid.seen mid.pending behind
    turn_passes is = by_cases (emits x) refl
      where
        by_cases : (t : Bool) → emits x ≡ t → lines_left old.section old.seen old.pending rest ≡ lines_left mid.section mid.seen mid.pending behind
        by_cases true e = let some : took ≡ Some (own_length x) = (emitting e).0 in absurd cc
        by_cases false e = rw ((quiet e).1, section) (quiet_turn old.section old.seen mid.seen x rest behind follows now old.pending e)

    module _
        (new : Lines) (size : Option ℕ) (gave : Option LineInfo) (took_is : took ≡ Some size)
        (gives : gave ≡ option_map (ended_at mid.seen) mid.pending) (pends : new ≡ record mid { pending = Some (record_of mid.section mid.seen size) })
      where
        pub turn_gives : (line : LineInfo) → gave ≡ Some line → Follows (lines_left old.section old.seen old.pending rest) (line ∷ []) (lines_left new.section new.seen new.pending behind)
        turn_gives line is = by_cases (emits x) refl old.pending refl
          where
            by_cases : (t : Bool) → emits x ≡ t → (p : Option LineInfo) → old.pending ≡ p → Follows (lines_left old.section old.seen old.pending rest) (line ∷ []) (lines_left new.section new.seen new.pending behind)
            by_cases true e (Some r) q =
                let on = emitting e in
                let its : gave ≡ Some (ended_at mid.seen r) = gives ∙ ap (option_map (ended_at mid.seen)) (on.1 ∙ q) in
                let line_is : line ≡ ended_at mid.seen r = cc in
                let same : line ≡ given x mid.seen r = line_is ∙ sym (emits_ends x mid.seen r e) in
                let own : size ≡ own_length x = cc in
                rw (q, pends, section, same, own) (closing_turn old.section old.seen mid.seen x rest behind follows now r e)
            by_cases true e None q =
                let none : gave ≡ None = gives ∙ ap (option_map (ended_at mid.seen)) ((emitting e).1 ∙ q) in
                absurd cc
            by_cases false e p q = let none : took ≡ None = (quiet e).0 in absurd cc

        pub turn_opens : gave ≡ None → lines_left old.section old.seen old.pending rest ≡ lines_left new.section new.seen new.pending behind
        turn_opens is = by_cases (emits x) refl old.pending refl
          where
            by_cases : (t : Bool) → emits x ≡ t → (p : Option LineInfo) → old.pending ≡ p → lines_left old.section old.seen old.pending rest ≡ lines_left new.section new.seen new.pending behind
            by_cases true e (Some r) q =
                let its : gave ≡ Some (ended_at mid.seen r) = gives ∙ ap (option_map (ended_at mid.seen)) ((emitting e).1 ∙ q) in
                absurd cc
            by_cases true e None q =
                let on = emitting e in
                let own : size ≡ own_length x = cc in
                rw (q, pends, section, own) (first_turn old.section old.seen mid.seen x rest behind follows now e)
            by_cases false e p q = let none : took ≡ None = (quiet e).0 in absurd cc

pub yields_from : (a b new : Left LineInfo) (r : Result (Option LineInfo) Error) → a ≡ b → Yields (λ (l : LineInfo). l) b r new → Yields (λ (l : LineInfo). l) a r new
yields_from a b new r e h = rw e h

-- what has ended has neither an item nor a fault
pub none_more : (xs ys : List BinaryAnnotation) (a : BinaryAnnotation) → xs ≡ [] → xs ≡ a ∷ ys → ⊥
none_more xs ys a over more = let e = sym over ∙ more in absurd cc

pub no_fault : (f : Option Error) (e : Error) → f ≡ None → f ≡ Some e → ⊥
no_fault f e over told = let d = sym over ∙ told in absurd cc

pub items_ended : (left : Left BinaryAnnotation) → left ≡ ended → left.items ≡ []
items_ended left e = ap (λ (l : Left BinaryAnnotation). l.items) e

pub fault_ended : (left : Left BinaryAnnotation) → left ≡ ended → left.fault ≡ None
fault_ended left e = ap (λ (l : Left BinaryAnnotation). l.fault) e
