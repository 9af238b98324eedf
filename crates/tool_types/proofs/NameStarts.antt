-- What a line shows of a long name is decided by its beginning.
use Rattle.std.proofs.Common.{◌≡◌, ℕ, ◌≤◌, ◌<◌, ◌++◌, Bool, true, false, cond, List, length, take, drop, map, get_or, ap, ◌∙◌, refl, arith, leb-true, leb-false}
use Rattle.std.proofs.lemmas.Bool.{lt-leb}
use Rattle.std.specs.Prelude.{codes, nat_le, Result, Ok, Err, OnOk}
use Rattle.std.proofs.Math.Seq.{drop-append_seam, take-append_seam}
use Rattle.std.proofs.lemmas.List.{get_or-take, length-take-le, take-take, take_all}
use Rattle.pdb_text.specs.OneLine.{cut, goes_on, in_line, one_line}

cut_start : (bytes : List ℕ) → cut (take 4097 bytes) ≡ cut bytes
unfolding cut
cut_start bytes = rw (get_or-take 4097 bytes 4096 0 (omega arith), get_or-take 4097 bytes 4095 0 (omega arith), get_or-take 4097 bytes 4094 0 (omega arith)) refl

most : (a b c : Bool) → cond a (cond b (cond c 4093 4094) 4095) 4096 ≤ 4096
most true true true = omega arith
most true true false = omega arith
most true false c = omega arith
most false b c = omega arith

cut_most : (bytes : List ℕ) → cut bytes ≤ 4096
unfolding cut
cut_most bytes = most (goes_on (get_or bytes 4096 0)) (goes_on (get_or bytes 4095 0)) (goes_on (get_or bytes 4094 0))

abbrev line_by : Bool → List ℕ → List ℕ
line_by is_short bytes = cond is_short (map in_line bytes) (map in_line (take (cut bytes) bytes) ++ codes "...")

long_start : (bytes : List ℕ) → 4096 < length bytes → nat_le (length (take 4097 bytes)) 4096 ≡ false
long_start bytes more =
    let all : length (take 4097 bytes) ≡ 4097 = length-take-le 4097 bytes (omega (arith, more)) in
    lt-leb (length (take 4097 bytes)) 4096 (omega (arith, all))

start_by : (bytes : List ℕ) (b : Bool) → nat_le (length bytes) 4096 ≡ b → line_by (nat_le (length (take 4097 bytes)) 4096) (take 4097 bytes) ≡ line_by b bytes
start_by bytes true e =
    let few = leb-true (length bytes) 4096 e in
    let whole : take 4097 bytes ≡ bytes = take_all 4097 bytes (omega (arith, few)) in
    rw (whole, e) refl
start_by bytes false e =
    let more = leb-false (length bytes) 4096 e in
    let front : take (cut (take 4097 bytes)) (take 4097 bytes) ≡ take (cut bytes) bytes = ap (λ (n : ℕ). take n (take 4097 bytes)) (cut_start bytes) ∙ take-take (cut bytes) 4097 bytes (let few = cut_most bytes in omega (arith, few)) in
    rw (long_start bytes more) (ap (λ (l : List ℕ). map in_line l ++ codes "...") front)

shown_start : (bytes : List ℕ) → one_line (take 4097 bytes) ≡ one_line bytes
unfolding one_line
shown_start bytes = start_by bytes (nat_le (length bytes) 4096) refl

behind : (old name mid now : List ℕ) (start : ℕ) → start ≡ length old → mid ≡ old ++ take 4097 name → now ≡ take start mid ++ one_line (drop start mid) → now ≡ old ++ one_line name
behind old name mid now start at is line =
    let front : take start mid ≡ old = ap (λ (n : ℕ). take n mid) at ∙ (ap (take (length old)) is ∙ take-append_seam old (take 4097 name)) in
    let back : drop start mid ≡ take 4097 name = ap (λ (n : ℕ). drop n mid) at ∙ (ap (drop (length old)) is ∙ drop-append_seam old (take 4097 name)) in
    line ∙ (ap (λ (l : List ℕ). l ++ one_line (drop start mid)) front ∙ ap (λ (l : List ℕ). old ++ l) (ap one_line back ∙ shown_start name))

-- behind what was there stands what a line shows of the whole name
pub shown_behind : {E : Type 0} (r : Result (Unit {0}) E) (old name mid now : List ℕ) (start : ℕ) → start ≡ length old → mid ≡ old ++ take 4097 name → OnOk r (now ≡ take start mid ++ one_line (drop start mid)) → OnOk r (now ≡ old ++ one_line name)
shown_behind (Ok x) old name mid now start at is line = behind old name mid now start at is line
shown_behind (Err e) old name mid now start at is line = line
