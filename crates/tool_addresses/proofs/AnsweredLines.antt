-- Lines that were read and answered, one after another.
use Rattle.std.proofs.Common.{◌≡◌, ℕ, ◌<◌, List, [], ◌∷◌, ◌++◌, length, Option, Some, None, Bool, true, false, ◌||◌, ◌==◌, Result, Ok, Err, refl, sym, ap, ◌∙◌, append_assoc, append-nil, arith}
use Rattle.std.specs.Prelude.{IfSome, IsErrAnd, IsErrOf, OnOk}
use Rattle.std.specs.Io.KnownBytes.{IsAtEnd}
use Rattle.std.specs.Io.BufRead.{drop_through, first_piece, strip_last, take_through}
use Rattle.std.proofs.lemmas.Grind.{common_steps}
use Rattle.tool_addresses.specs.AnsweredLines.{AnsweredUpTo, first_longer, lines_of, of_first_line}
use Rattle.tool_printing.specs.Printing.{Halted, Printed, Printing, Prints, Shown, all_shown, join, nothing}
use Rattle.tool_printing.proofs.All.{all_shown-append}
use Rattle.tool_printing.proofs.Printed.{halted_more, halted_then, printed_front, printed_none, printed_then}

-- ---- the first line of some bytes

strip_longer : (b : ℕ) (xs : List ℕ) → 0 < length xs → strip_last 10 (b ∷ xs) ≡ b ∷ strip_last 10 xs
strip_longer b xs h = grind (arith, common_steps)

strip_end : (b : ℕ) → (b == 10) ≡ true → strip_last 10 (b ∷ []) ≡ []
strip_end b e = grind (arith, common_steps)

strip_one : (b : ℕ) → (b == 10) ≡ false → strip_last 10 (b ∷ []) ≡ b ∷ []
strip_one b e = grind (arith, common_steps)

through_some : (c : ℕ) (cs : List ℕ) → 0 < length (take_through 10 (c ∷ cs))
through_some c cs = grind (arith, common_steps)

line_by : (b : ℕ) (bs : List ℕ) (ends : Bool) → (b == 10) ≡ ends → lines_of (b ∷ bs) ≡ first_piece 10 (b ∷ bs) ∷ lines_of (drop_through 10 (b ∷ bs))
line_by b bs true e =
    let piece = strip_end b e in
    rw (e, piece) refl
line_by b [] false e =
    let piece = strip_one b e in
    rw (e, piece) refl
line_by b (c ∷ cs) false e =
    let next = line_by c cs (c == 10) refl in
    let piece = strip_longer b (take_through 10 (c ∷ cs)) (through_some c cs) in
    let longer = ap (first_longer b) next in
    rw (e, piece) longer

pub first_line_of : (b : ℕ) (bs : List ℕ) → lines_of (b ∷ bs) ≡ first_piece 10 (b ∷ bs) ∷ lines_of (drop_through 10 (b ∷ bs))
first_line_of b bs = line_by b bs (b == 10) refl

-- ---- what was read and answered so far

or_none : (a : Bool) → (a || false) ≡ a
or_none true = refl
or_none false = refl

join_nothing : (a : Shown) → join a nothing ≡ a
join_nothing a = rw (append-nil a.bytes, or_none a.damaged) refl

-- of the bytes that were there some first lines were read, and the answers to them printed
abbrev pub Answered : (List ℕ → Shown) → Option (List ℕ) → Option (List ℕ) → Printing → Printing → Type 0
Answered answer None left s t = Unit {0}
Answered answer (Some xs) left s t = (rest : List ℕ) × (done : List (List ℕ)) × (left ≡ Some rest) × (lines_of xs ≡ done ++ lines_of rest) × Printed (all_shown answer done) s t

-- at first none was
pub answered_none : (answer : List ℕ → Shown) (old : Option (List ℕ)) (s : Printing) → Answered answer old old s s
answered_none answer None s = tt
answered_none answer (Some xs) s = (xs, [], refl, refl, printed_none s)

more_by : (answer : List ℕ → Shown) (xs rest : List ℕ) (done : List (List ℕ)) (left : Option (List ℕ)) (s t u : Printing) → lines_of xs ≡ done ++ lines_of rest → Printed (all_shown answer done) s t
    → left ≡ Some (drop_through 10 rest) → Printed (of_first_line answer rest) t u → Answered answer (Some xs) left s u
more_by answer xs [] done left s t u e h r w =
    let same : join (all_shown answer done) nothing ≡ all_shown answer done = join_nothing (all_shown answer done) in
    ([], done, r, e, rw same at (printed_then (all_shown answer done) nothing s t u h w))
more_by answer xs (x ∷ rest) done left s t u e h r w =
    let line = first_piece 10 (x ∷ rest) in
    let all : lines_of xs ≡ (done ++ line ∷ []) ++ lines_of (drop_through 10 (x ∷ rest)) = e ∙ ap (λ ls. done ++ ls) (first_line_of x rest) ∙ sym (append_assoc done (line ∷ []) (lines_of (drop_through 10 (x ∷ rest)))) in
    let one : all_shown answer (line ∷ []) ≡ answer line = join_nothing (answer line) in
    let answers : all_shown answer (done ++ line ∷ []) ≡ join (all_shown answer done) (answer line) = all_shown-append answer done (line ∷ []) ∙ ap (join (all_shown answer done)) one in
    (drop_through 10 (x ∷ rest), done ++ line ∷ [], r, all, rw answers (printed_then (all_shown answer done) (answer line) s t u h w))

more_of : (answer : List ℕ → Shown) (xs rest : List ℕ) (done : List (List ℕ)) (mid left : Option (List ℕ)) (s t u : Printing) → mid ≡ Some rest → lines_of xs ≡ done ++ lines_of rest → Printed (all_shown answer done) s t
    → IfSome mid (λ ys. left ≡ Some (drop_through 10 ys)) → IfSome mid (λ ys. Printed (of_first_line answer ys) t u) → Answered answer (Some xs) left s u
more_of answer xs rest done mid left s t u m e h r w =
    let r1 = rw m at r in
    let w1 = rw m at w in
    more_by answer xs rest done left s t u e h r1 w1

-- one more line was read and answered; none, where none is left
pub answered_more : (answer : List ℕ → Shown) (old mid left : Option (List ℕ)) (s t u : Printing) → Answered answer old mid s t
    → IfSome mid (λ xs. left ≡ Some (drop_through 10 xs)) → IfSome mid (λ xs. Printed (of_first_line answer xs) t u) → Answered answer old left s u
answered_more answer None mid left s t u h r w = tt
answered_more answer (Some xs) mid left s t u h r w = more_of answer xs h.0 h.1 mid left s t u h.2 h.3 h.4 r w

-- a beginning of the next answer was printed: a beginning of all
halted_by : (answer : List ℕ → Shown) (xs rest : List ℕ) (done : List (List ℕ)) (s t u : Printing) → lines_of xs ≡ done ++ lines_of rest → Printed (all_shown answer done) s t
    → Halted (of_first_line answer rest) t u → Halted (all_shown answer (lines_of xs)) s u
halted_by answer xs [] done s t u e h w =
    let whole = ap (all_shown answer) e ∙ all_shown-append answer done [] in
    rw whole (halted_then (all_shown answer done) nothing s t u h w)
halted_by answer xs (x ∷ rest) done s t u e h w =
    let line = first_piece 10 (x ∷ rest) in
    let others = lines_of (drop_through 10 (x ∷ rest)) in
    let whole : all_shown answer (lines_of xs) ≡ join (all_shown answer done) (join (answer line) (all_shown answer others)) = ap (all_shown answer) (e ∙ ap (λ ls. done ++ ls) (first_line_of x rest)) ∙ all_shown-append answer done (line ∷ others) in
    rw whole (halted_then (all_shown answer done) (join (answer line) (all_shown answer others)) s t u h (halted_more (answer line) (all_shown answer others) t u w))

halted_from : (answer : List ℕ → Shown) (xs rest : List ℕ) (done : List (List ℕ)) (mid : Option (List ℕ)) (s t u : Printing) → mid ≡ Some rest → lines_of xs ≡ done ++ lines_of rest → Printed (all_shown answer done) s t
    → IfSome mid (λ ys. Halted (of_first_line answer ys) t u) → Halted (all_shown answer (lines_of xs)) s u
halted_from answer xs rest done mid s t u m e h w = let w1 = rw m at w in halted_by answer xs rest done s t u e h w1

pub answered_halted : (answer : List ℕ → Shown) (old mid : Option (List ℕ)) (s t u : Printing) → Answered answer old mid s t
    → IfSome mid (λ xs. Halted (of_first_line answer xs) t u) → IfSome old (λ xs. Halted (all_shown answer (lines_of xs)) s u)
answered_halted answer None mid s t u h w = tt
answered_halted answer (Some xs) mid s t u h w = halted_from answer xs h.0 h.1 mid s t u h.2 h.3 h.4 w

-- what was printed so far is a beginning
pub answered_so_far : (answer : List ℕ → Shown) (old mid : Option (List ℕ)) (s t : Printing) → Answered answer old mid s t → IfSome old (λ xs. Halted (all_shown answer (lines_of xs)) s t)
answered_so_far answer None mid s t h = tt
answered_so_far answer (Some xs) mid s t h =
    let whole = ap (all_shown answer) h.3 ∙ all_shown-append answer h.1 (lines_of h.0) in
    rw whole (halted_more (all_shown answer h.1) (all_shown answer (lines_of h.0)) s t (printed_front (all_shown answer h.1) s t h.4))

-- all lines were answered, where none was left
end_by : (answer : List ℕ → Shown) (xs rest : List ℕ) (done : List (List ℕ)) (s t u : Printing) → lines_of xs ≡ done ++ lines_of rest → Printed (all_shown answer done) s t
    → rest ≡ [] → Printed (of_first_line answer rest) t u → Printed (all_shown answer (lines_of xs)) s u
end_by answer xs rest done s t u e h none w =
    let last : Printed nothing t u = rw none at w in
    let whole : all_shown answer (lines_of xs) ≡ join (all_shown answer done) nothing = ap (all_shown answer) (e ∙ ap (λ ys. done ++ lines_of ys) none) ∙ all_shown-append answer done [] in
    rw whole (printed_then (all_shown answer done) nothing s t u h last)

end_from : (answer : List ℕ → Shown) (xs rest : List ℕ) (done : List (List ℕ)) (mid : Option (List ℕ)) (s t u : Printing) → mid ≡ Some rest → lines_of xs ≡ done ++ lines_of rest → Printed (all_shown answer done) s t
    → IsAtEnd mid → IfSome mid (λ ys. Printed (of_first_line answer ys) t u) → Printed (all_shown answer (lines_of xs)) s u
end_from answer xs rest done mid s t u m e h none w =
    let none1 : rest ≡ [] = rw m at none in
    let w1 = rw m at w in
    end_by answer xs rest done s t u e h none1 w1

pub answered_end : (answer : List ℕ → Shown) (old mid : Option (List ℕ)) (s t u : Printing) → Answered answer old mid s t → IsAtEnd mid → IfSome mid (λ xs. Printed (of_first_line answer xs) t u)
    → IfSome old (λ xs. Printed (all_shown answer (lines_of xs)) s u)
answered_end answer None mid s t u h none w = tt
answered_end answer (Some xs) mid s t u h none w = end_from answer xs h.0 h.1 mid s t u h.2 h.3 h.4 none w

-- ---- calls that failed, and what they passed on

pub if_some_on : {A : Type 0} (P Q : A → Type 0) (o : Option A) → ((x : A) → P x → Q x) → IfSome o P → IfSome o Q
if_some_on P Q None f h = tt
if_some_on P Q (Some x) f h = f x h

-- ---- lines that were there, and the one whose answer couldn't be printed

some_by : (xs line : List ℕ) → line ≡ take_through 10 xs → 0 < length line → 0 < length xs
some_by [] line e h = rw e at h
some_by (x ∷ xs) line e h = omega arith

-- where bytes were read, bytes were left
pub some_left : (o : Option (List ℕ)) (line : List ℕ) → IfSome o (λ xs. line ≡ take_through 10 xs) → 0 < length line → IfSome o (λ xs. 0 < length xs)
some_left None line e h = tt
some_left (Some xs) line e h = some_by xs line e h

upto_by : (answer : List ℕ → Shown) (xs rest : List ℕ) (done : List (List ℕ)) (s t u : Printing) → lines_of xs ≡ done ++ lines_of rest → Printed (all_shown answer done) s t
    → 0 < length rest → Halted (of_first_line answer rest) t u → AnsweredUpTo answer xs (drop_through 10 rest) s u
upto_by answer xs [] done s t u e h some w = absurd (omega (arith, some))
upto_by answer xs (x ∷ rest) done s t u e h some w =
    (done, first_piece 10 (x ∷ rest), t, e ∙ ap (λ ls. done ++ ls) (first_line_of x rest), h, w)

upto_from : (answer : List ℕ → Shown) (xs rest : List ℕ) (done : List (List ℕ)) (mid left : Option (List ℕ)) (s t u : Printing) → mid ≡ Some rest → lines_of xs ≡ done ++ lines_of rest → Printed (all_shown answer done) s t
    → IfSome mid (λ ys. (0 < length ys) × (left ≡ Some (drop_through 10 ys))) → IfSome mid (λ ys. Halted (of_first_line answer ys) t u) → IfSome left (λ ys. AnsweredUpTo answer xs ys s u)
upto_from answer xs rest done mid left s t u m e h r w =
    let r1 = rw m at r in
    let w1 = rw m at w in
    let is = r1.1 in
    rw is (upto_by answer xs rest done s t u e h r1.0 w1)

-- one more line was read, and a beginning of its answer printed
pub answered_upto : (answer : List ℕ → Shown) (old mid left : Option (List ℕ)) (s t u : Printing) → Answered answer old mid s t
    → IfSome mid (λ ys. (0 < length ys) × (left ≡ Some (drop_through 10 ys))) → IfSome mid (λ ys. Halted (of_first_line answer ys) t u)
    → IfSome old (λ xs. IfSome left (λ ys. AnsweredUpTo answer xs ys s u))
answered_upto answer None mid left s t u h r w = tt
answered_upto answer (Some xs) mid left s t u h r w = upto_from answer xs h.0 h.1 mid left s t u h.2 h.3 h.4 r w

-- a call that failed with what it was given
pub stopped_by : {T U E : Type 0} (r : Result T E) (e w : E) → IsErrAnd r (λ x. x ≡ e) → IsErrOf r w → IsErrOf {T = U} (Err e) w
stopped_by (Ok x) e w is of = absurd is
stopped_by (Err x) e w is of =
    let same : x ≡ w = cc in
    ap Err (sym is ∙ same)
