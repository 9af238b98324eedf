-- The number that a word of digits is.
use Rattle.std.proofs.Common.{◌≡◌, ℕ, List, [], length, map, false, Err, refl, arith, nat_lt, ltb-false, codes}
use Rattle.std.specs.Fmt.{decimal}
use Rattle.std.proofs.lemmas.Fmt.{decimal_digit}
use Rattle.std.proofs.lemmas.List.{get_or_past, length-map}
use Rattle.pdb_text.specs.Numbers.{number_in}
use Rattle.pdb_list.specs.Words.{number_at}

-- behind the last word there is no number
pub no_word : {X : Type 0} (bytes : X → List ℕ) (words : List X) (p : ℕ) → nat_lt p (length words) ≡ false → number_at (map bytes words) p ≡ Err p
unfolding number_in
no_word bytes words p h =
    let n = ltb-false p (length words) h in
    let e = get_or_past (map bytes words) p [] (omega (arith, n, length-map words bytes)) in
    rw e refl

-- the digit of 0
pub zero_digit : decimal 0 ≡ codes "0"
zero_digit = decimal_digit 0 (omega arith)
