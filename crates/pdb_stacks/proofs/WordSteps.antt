-- The addresses of a line from an offset on, by one step.
use Rattle.std.proofs.Common.{◌≡◌, ℕ, suc, ◌+◌, ◌<◌, ◌≤◌, List, ◌∷◌, ◌++◌, length, drop, drop-cons, add-one, ap, ◌∙◌, get_or, Bool, true, false, not, ◌||◌, nat_lt, Option, Some, None, refl}
use Rattle.std.specs.Prelude.{option_to_list, slice_get}
use Rattle.std.specs.List.{find}
use Rattle.std.specs.Option.{option_or}
use Rattle.std.proofs.lemmas.Bool.{le-ltb, lt-ltb}
use Rattle.std.proofs.lemmas.List.{drop_all}
use Rattle.pdb_stacks.specs.LineBytes.{is_of, run_end}
use Rattle.pdb_stacks.specs.ProcessAddresses.{address_of, addresses_from, is_long, process_address, word_at}
use Rattle.pdb_stacks.specs.declared.bytes.Kind.TheVariants.{Word}
use Rattle.pdb_stacks.specs.declared.hex_numbers.SpelledNumber.{SpelledNumber}

-- the address that is chosen, where one was kept and these are left
abbrev pub chosen_of : Option SpelledNumber → List SpelledNumber → Option SpelledNumber
chosen_of kept left = option_or (find is_long left) (option_or kept (slice_get left 0))

-- the address that is chosen of what is left of a line
abbrev pub chosen_from : List ℕ → Option SpelledNumber → ℕ → ℕ → Option SpelledNumber
chosen_from line kept free i = chosen_of kept (addresses_from line free i (drop i line))

one_past : (line : List ℕ) (free i b : ℕ) (rest : List ℕ) → (nat_lt i free || not (is_of Word b)) ≡ true → addresses_from line free i (b ∷ rest) ≡ addresses_from line free (i + 1) rest
unfolding addresses_from
one_past line free i b rest e = rw e refl

one_word : (line : List ℕ) (free i b : ℕ) (rest : List ℕ) → (nat_lt i free || not (is_of Word b)) ≡ false
    → addresses_from line free i (b ∷ rest) ≡ option_to_list (address_of line (word_at line i)) ++ addresses_from line (run_end Word line i) (i + 1) rest
unfolding addresses_from
one_word line free i b rest e = rw e refl

passed : (line : List ℕ) (free i : ℕ) → i < length line → (nat_lt i free || not (is_of Word (get_or line i 0))) ≡ true
    → addresses_from line free i (drop i line) ≡ addresses_from line free (i + 1) (drop (i + 1) line)
passed line free i h e = rw (drop-cons line i 0 h, add-one) (rw add-one at (one_past line free i (get_or line i 0) (drop (suc i) line) e))

at_word : (line : List ℕ) (free i : ℕ) → i < length line → (nat_lt i free || not (is_of Word (get_or line i 0))) ≡ false
    → addresses_from line free i (drop i line) ≡ option_to_list (address_of line (word_at line i)) ++ addresses_from line (run_end Word line i) (i + 1) (drop (i + 1) line)
at_word line free i h e = rw (drop-cons line i 0 h, add-one) (rw add-one at (one_word line free i (get_or line i 0) (drop (suc i) line) e))

or_true : (b : Bool) → (b || true) ≡ true
or_true true = refl
or_true false = refl

-- what was read before
pub read_before : (line : List ℕ) (kept : Option SpelledNumber) (free i : ℕ) → i < length line → i < free → chosen_from line kept free i ≡ chosen_from line kept free (i + 1)
read_before line kept free i h before = ap (chosen_of kept) (passed line free i h (rw (lt-ltb i free before) refl))

-- a byte of no word
pub other_byte : (line : List ℕ) (kept : Option SpelledNumber) (free i : ℕ) → i < length line → is_of Word (get_or line i 0) ≡ false → chosen_from line kept free i ≡ chosen_from line kept free (i + 1)
other_byte line kept free i h e = ap (chosen_of kept) (passed line free i h (rw e (or_true (nat_lt i free))))

step : (line : List ℕ) (free i : ℕ) → i < length line → free ≤ i → is_of Word (get_or line i 0) ≡ true
    → addresses_from line free i (drop i line) ≡ option_to_list (address_of line (word_at line i)) ++ addresses_from line (run_end Word line i) (i + 1) (drop (i + 1) line)
step line free i h le e = at_word line free i h (rw (le-ltb i free le, e) refl)

-- a word that is no address
pub no_address : (line : List ℕ) (kept : Option SpelledNumber) (free i : ℕ) → i < length line → free ≤ i → is_of Word (get_or line i 0) ≡ true
    → address_of line (word_at line i) ≡ None → chosen_from line kept free i ≡ chosen_from line kept (run_end Word line i) (i + 1)
no_address line kept free i h le e none = ap (chosen_of kept) (rw none at (step line free i h le e))

long_first : (kept : Option SpelledNumber) (a : SpelledNumber) (left : List SpelledNumber) → is_long a ≡ true → chosen_of kept (a ∷ left) ≡ Some a
long_first kept a left e = rw e refl

short_by : (kept : Option SpelledNumber) (a : SpelledNumber) (left : List SpelledNumber) → option_or kept (Some a) ≡ option_or (option_or kept (Some a)) (slice_get left 0)
short_by None a left = refl
short_by (Some k) a left = refl

short_first : (kept : Option SpelledNumber) (a : SpelledNumber) (left : List SpelledNumber) → is_long a ≡ false → chosen_of kept (a ∷ left) ≡ chosen_of (option_or kept (Some a)) left
short_first kept a left e = rw e (ap (option_or (find is_long left)) (short_by kept a left))

-- an address of at least 2^32
pub long_address : (line : List ℕ) (kept : Option SpelledNumber) (free i : ℕ) (a : SpelledNumber) → i < length line → free ≤ i → is_of Word (get_or line i 0) ≡ true
    → address_of line (word_at line i) ≡ Some a → is_long a ≡ true → chosen_from line kept free i ≡ Some a
long_address line kept free i a h le e one long =
    ap (chosen_of kept) (rw one at (step line free i h le e)) ∙ long_first kept a (addresses_from line (run_end Word line i) (i + 1) (drop (i + 1) line)) long

-- another one
pub short_address : (line : List ℕ) (kept : Option SpelledNumber) (free i : ℕ) (a : SpelledNumber) → i < length line → free ≤ i → is_of Word (get_or line i 0) ≡ true
    → address_of line (word_at line i) ≡ Some a → is_long a ≡ false → chosen_from line kept free i ≡ chosen_from line (option_or kept (Some a)) (run_end Word line i) (i + 1)
short_address line kept free i a h le e one short =
    ap (chosen_of kept) (rw one at (step line free i h le e)) ∙ short_first kept a (addresses_from line (run_end Word line i) (i + 1) (drop (i + 1) line)) short

-- behind the last byte
or_none : (kept : Option SpelledNumber) → option_or kept None ≡ kept
or_none None = refl
or_none (Some a) = refl

pub behind_all : (line : List ℕ) (kept : Option SpelledNumber) (free i : ℕ) → length line ≤ i → chosen_from line kept free i ≡ kept
unfolding addresses_from
behind_all line kept free i h = rw (drop_all i line h) (or_none kept)

-- before the first byte
pub whole : (line : List ℕ) → process_address line ≡ chosen_from line None 0 0
unfolding process_address
whole line = refl
