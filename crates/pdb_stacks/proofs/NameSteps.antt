-- The references from an offset of a line on, by one step.
use Rattle.std.proofs.Common.{◌≡◌, ℕ, suc, ◌+◌, ◌<◌, ◌≤◌, List, [], ◌∷◌, ◌++◌, length, drop, drop-cons, add-one, append_assoc, ap, sym, get_or, Bool, true, false, not, ◌||◌, nat_lt, refl}
use Rattle.std.specs.Prelude.{option_to_list}
use Rattle.std.proofs.lemmas.Bool.{le-ltb, lt-ltb}
use Rattle.std.proofs.lemmas.List.{drop_all}
use Rattle.pdb_stacks.specs.LineBytes.{is_of}
use Rattle.pdb_stacks.specs.LineReferences.{candidates_from, free_behind, module_at, reference_of}
use Rattle.pdb_stacks.specs.declared.bytes.Kind.TheVariants.{Module}
use Rattle.pdb_stacks.specs.declared.references.Reference.{Reference}

-- an offset is passed over
abbrev pub is_passed : List ℕ → ℕ → ℕ → Bool
is_passed line free i = nat_lt i free || not (is_of Module (get_or line i 0))

one_past : (line : List ℕ) (free i b : ℕ) (rest : List ℕ) → (nat_lt i free || not (is_of Module b)) ≡ true → candidates_from line free i (b ∷ rest) ≡ candidates_from line free (i + 1) rest
unfolding candidates_from
one_past line free i b rest e = rw e refl

one_name : (line : List ℕ) (free i b : ℕ) (rest : List ℕ) → (nat_lt i free || not (is_of Module b)) ≡ false
    → candidates_from line free i (b ∷ rest)
    ≡ option_to_list (reference_of line (module_at line i)) ++ candidates_from line (free_behind (module_at line i) (reference_of line (module_at line i))) (i + 1) rest
unfolding candidates_from
one_name line free i b rest e = rw e refl

passed : (line : List ℕ) (free i : ℕ) → i < length line → is_passed line free i ≡ true → candidates_from line free i (drop i line) ≡ candidates_from line free (i + 1) (drop (i + 1) line)
passed line free i h e = rw (drop-cons line i 0 h, add-one) (rw add-one at (one_past line free i (get_or line i 0) (drop (suc i) line) e))

at_name : (line : List ℕ) (free i : ℕ) → i < length line → is_passed line free i ≡ false
    → candidates_from line free i (drop i line)
    ≡ option_to_list (reference_of line (module_at line i)) ++ candidates_from line (free_behind (module_at line i) (reference_of line (module_at line i))) (i + 1) (drop (i + 1) line)
at_name line free i h e = rw (drop-cons line i 0 h, add-one) (rw add-one at (one_name line free i (get_or line i 0) (drop (suc i) line) e))

-- what was read before
pub read_before : (line : List ℕ) (free i : ℕ) → i < length line → i < free → candidates_from line free i (drop i line) ≡ candidates_from line free (i + 1) (drop (i + 1) line)
read_before line free i h before = passed line free i h (rw (lt-ltb i free before) refl)

-- a byte of no name
or_true : (b : Bool) → (b || true) ≡ true
or_true true = refl
or_true false = refl

pub other_byte : (line : List ℕ) (free i : ℕ) → i < length line → is_of Module (get_or line i 0) ≡ false → candidates_from line free i (drop i line) ≡ candidates_from line free (i + 1) (drop (i + 1) line)
other_byte line free i h e = passed line free i h (rw e (or_true (nat_lt i free)))

-- the reference of a name is behind those so far
pub one_more : (line : List ℕ) (free i : ℕ) (front out : List Reference) → i < length line → free ≤ i → is_of Module (get_or line i 0) ≡ true
    → out ≡ front ++ option_to_list (reference_of line (module_at line i))
    → out ++ candidates_from line (free_behind (module_at line i) (reference_of line (module_at line i))) (i + 1) (drop (i + 1) line) ≡ front ++ candidates_from line free i (drop i line)
one_more line free i front out h le e puts =
    let no : is_passed line free i ≡ false = rw (le-ltb i free le, e) refl in
    let step = at_name line free i h no in
    rw (puts, append_assoc) (ap (λ l. front ++ l) (sym step))

-- behind the last byte
pub behind_all : (line : List ℕ) (free i : ℕ) → length line ≤ i → candidates_from line free i (drop i line) ≡ []
unfolding candidates_from
behind_all line free i h = rw (drop_all i line h) refl
