-- What was printed, text after text.
use Rattle.std.proofs.Common.{◌≡◌, ℕ, Bool, true, false, ◌||◌, List, [], ◌∷◌, ◌++◌, Option, Some, None, refl, sym, ap, ◌∙◌, Result, Ok, Err, append_assoc, append-nil, arith}
use Rattle.std.specs.Prelude.{IsErrAnd}
use Rattle.std.specs.Io.KnownBytes.{Appends}
use Rattle.pdb_text.proofs.Written.{appends_then, front_all, front_of, front_then}
use Rattle.tool_printing.specs.Printing.{Before, Halted, Printed, Printing, Prints, Shown, has_bytes, has_mark, join, shown, unmarked}
use Rattle.tool_printing.proofs.Marks.{shown-append}

pub or_assoc : (a b c : Bool) → ((a || b) || c) ≡ (a || (b || c))
or_assoc true b c = refl
or_assoc false b c = refl

has_bytes-append : (xs ys : List ℕ) → has_bytes (xs ++ ys) ≡ (has_bytes xs || has_bytes ys)
has_bytes-append [] ys = refl
has_bytes-append (x ∷ xs) ys = refl

-- one text and then another
pub printed_then : (a b : Shown) (s t u : Printing) → Printed a s t → Printed b t u → Printed (join a b) s u
printed_then a b s t u h k = record {
  contents = appends_then s.contents t.contents u.contents a.bytes b.bytes h.contents k.contents;
  damaged = k.damaged ∙ ap (λ d. d || b.damaged) h.damaged ∙ or_assoc s.damaged a.damaged b.damaged;
  some = k.some ∙ ap (λ d. d || has_bytes b.bytes) h.some ∙ or_assoc s.some (has_bytes a.bytes) (has_bytes b.bytes) ∙ ap (λ d. s.some || d) (sym (has_bytes-append a.bytes b.bytes));
}

pub halted_then : (a b : Shown) (s t u : Printing) → Printed a s t → Halted b t u → Halted (join a b) s u
halted_then a b s t u h k = record {
  contents = front_then s.contents t.contents u.contents a.bytes b.bytes h.contents k.contents;
  damaged = λ d. sym (ap (λ x. x || b.damaged) h.damaged ∙ or_assoc s.damaged a.damaged b.damaged) ∙ k.damaged d;
}

or_more : (a b c : Bool) → (a || b) ≡ true → (a || (b || c)) ≡ true
or_more true b c h = refl
or_more false true c h = refl
or_more false false c h = cc

pub halted_more : (a b : Shown) (s t : Printing) → Halted a s t → Halted (join a b) s t
halted_more a b s t h = record {
  contents = front_of s.contents t.contents a.bytes b.bytes h.contents;
  damaged = λ d. or_more s.damaged a.damaged b.damaged (h.damaged d);
}

-- all of a text is a beginning of it
pub printed_front : (a : Shown) (s t : Printing) → Printed a s t → Halted a s t
printed_front a s t h = record {
  contents = front_all s.contents t.contents a.bytes h.contents;
  damaged = λ d. sym h.damaged ∙ d;
}

appends_none : (a : Option (List ℕ)) → Appends a a []
appends_none None = tt
appends_none (Some xs) = sym (append-nil xs)

or_false : (a : Bool) → a ≡ (a || false)
or_false true = refl
or_false false = refl

pub printed_none : (s : Printing) → Printed (record { bytes = []; damaged = false }) s s
printed_none s = record {
  contents = appends_none s.contents;
  damaged = or_false s.damaged;
  some = or_false s.some;
}

or_left : (a b : Bool) → a ≡ true → (a || b) ≡ true
or_left true b h = refl
or_left false b h = cc

pub halted_none : (a : Shown) (s : Printing) → Halted a s s
halted_none a s = record {
  contents = (0, omega arith, appends_none s.contents);
  damaged = or_left s.damaged a.damaged;
}

-- ---- a whole, of which a beginning was printed

pub before_none : (s : Printing) (whole : List ℕ) → Before s s whole whole
unfolding unmarked has_mark
before_none s whole = ([], printed_none s, refl)

pub before_more : (s t u : Printing) (piece rest left whole : List ℕ) → Before s t left whole → left ≡ piece ++ rest → Printed (shown piece) t u → Before s u rest whole
before_more s t u piece rest left whole h e k =
    let one : Printed (shown (h.0 ++ piece)) s u = rw (shown-append h.0 piece) (printed_then (shown h.0) (shown piece) s t u h.1 k) in
    (h.0 ++ piece, one, append_assoc h.0 piece rest ∙ ap (λ xs. h.0 ++ xs) (sym e) ∙ h.2)

pub before_halted : (s t u : Printing) (piece rest left whole : List ℕ) → Before s t left whole → left ≡ piece ++ rest → Halted (shown piece) t u → Halted (shown whole) s u
before_halted s t u piece rest left whole h e k =
    let all : whole ≡ h.0 ++ (piece ++ rest) = sym h.2 ∙ ap (λ xs. h.0 ++ xs) e in
    let more : Halted (shown (piece ++ rest)) t u = rw (shown-append piece rest) (halted_more (shown piece) (shown rest) t u k) in
    rw (all, shown-append h.0 (piece ++ rest)) (halted_then (shown h.0) (shown (piece ++ rest)) s t u h.1 more)

pub before_here : (s t : Printing) (left whole : List ℕ) → Before s t left whole → Halted (shown whole) s t
before_here s t left whole h = rw (← h.2, shown-append h.0 left) (halted_more (shown h.0) (shown left) s t (printed_front (shown h.0) s t h.1))

pub before_end : (s t : Printing) (left whole : List ℕ) → Before s t left whole → left ≡ [] → Printed (shown whole) s t
before_end s t left whole h e =
    let all : whole ≡ h.0 = sym h.2 ∙ ap (λ xs. h.0 ++ xs) e ∙ append-nil h.0 in
    rw all h.1

pub before_last : (s t u : Printing) (left whole : List ℕ) → Before s t left whole → Printed (shown left) t u → Printed (shown whole) s u
before_last s t u left whole h k = rw (← h.2, shown-append h.0 left) (printed_then (shown h.0) (shown left) s t u h.1 k)

pub before_last_halted : (s t u : Printing) (left whole : List ℕ) → Before s t left whole → Halted (shown left) t u → Halted (shown whole) s u
before_last_halted s t u left whole h k = rw (← h.2, shown-append h.0 left) (halted_then (shown h.0) (shown left) s t u h.1 k)

-- ---- a text without bytes

pub shows_nothing : (s : Printing) → Printed (shown []) s s
unfolding unmarked has_mark
shows_nothing s = printed_none s

-- ---- calls that passed on how another one ended

pub prints_err : {X E : Type 0} (text : Shown) (s t : Printing) (r : Result X E) (P : E → Type 0) → IsErrAnd r P → Halted text s t → Prints text s t r
prints_err text s t (Ok x) P is h = absurd is
prints_err text s t (Err e) P is h = h

pub prints_then : {X E : Type 0} (a b : Shown) (s t u : Printing) (r : Result X E) → Printed a s t → Prints b t u r → Prints (join a b) s u r
prints_then a b s t u (Ok x) h k = printed_then a b s t u h k
prints_then a b s t u (Err e) h k = halted_then a b s t u h k

pub prints_is : {X E : Type 0} (a b : Shown) (s t : Printing) (r : Result X E) → b ≡ a → Prints a s t r → Prints b s t r
prints_is a b s t r is h = rw is h

-- the last of a whole
pub before_prints : {X E : Type 0} (s t u : Printing) (piece left whole : List ℕ) (r : Result X E) → Before s t left whole → left ≡ piece → Prints (shown piece) t u r → Prints (shown whole) s u r
before_prints s t u piece left whole (Ok x) h e k = before_last s t u left whole h (rw e k)
before_prints s t u piece left whole (Err f) h e k = before_last_halted s t u left whole h (rw e k)
