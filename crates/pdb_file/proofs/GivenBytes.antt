-- Bytes that a reader gave, and those that it gave then.
use Rattle.std.proofs.Common.{◌≡◌, ℕ, ◌+◌, ◌<◌, ◌≤◌, List, ◌++◌, length, Option, Some, None, Err, take, drop, inl, inr, sym, ap, ◌∙◌, append_assoc}
use Rattle.std.proofs.lemmas.List.{take-append-drop}
use Rattle.std.specs.Io.KnownBytes.{Consumes, Keeps}
use Rattle.pdb_file.specs.Causes.{IsCause, failures_behind}
use Rattle.pdb_file.specs.declared.reading.FetchError.{FetchError}
use Rattle.pdb_file.specs.declared.reading.FetchError.TheVariants.{Read, Memory}

pub given_more : (a b c : Option (List ℕ)) (xs ys : List ℕ) (n : ℕ) → take n ys ≡ xs → Consumes a b xs → Consumes b c (drop n ys) → Consumes a c ys
given_more None b c xs ys n front h more = tt
given_more (Some us) None c xs ys n front h more = absurd h
given_more (Some us) (Some vs) None xs ys n front h more = absurd more
given_more (Some us) (Some vs) (Some ws) xs ys n front h more =
    h ∙ ap (λ (r : List ℕ). xs ++ r) more ∙ sym (append_assoc xs (drop n ys) ws)
    ∙ ap (λ (zs : List ℕ). zs ++ ws) (ap (λ (zs : List ℕ). zs ++ drop n ys) (sym front) ∙ take-append-drop n ys)

-- ---- why not all bytes are there

-- nothing was given since
given_same : (a b c : Option (List ℕ)) (xs : List ℕ) → Consumes a b xs → Keeps b c → Consumes a c xs
given_same None b c xs h k = tt
given_same (Some us) None c xs h k = absurd h
given_same (Some us) (Some vs) None xs h k = absurd k
given_same (Some us) (Some vs) (Some ws) xs h k = h ∙ ap (λ (r : List ℕ). xs ++ r) (sym k)

-- a read failed, or memory ran out
pub cause_of : (e : FetchError) (most : ℕ) (a b c : Option (List ℕ)) (xs : List ℕ) (n m k : ℕ) → Consumes a b xs → length xs ≤ most → Keeps b c → m ≡ n → k ≡ failures_behind {X = ℕ} m (Err e)
    → IsCause most a c n k e
cause_of Read most a b c xs n m k told few kept same counted = inl (counted ∙ ap (λ (i : ℕ). i + 1) same, (xs, given_same a b c xs told kept, few))
cause_of Memory most a b c xs n m k told few kept same counted = (counted ∙ same, (xs, given_same a b c xs told kept, few))

-- the reader gave more
pub cause_of_more : (most : ℕ) (a b c : Option (List ℕ)) (xs ys : List ℕ) (i n m k : ℕ) → take i ys ≡ xs → Consumes a b xs → Consumes b c (drop i ys) → most < length ys → m ≡ n → k ≡ m
    → IsCause most a c n k Read
cause_of_more most a b c xs ys i n m k front told more long same counted = inr (counted ∙ same, (ys, given_more a b c xs ys i front told more, long))
