-- What is put piece after piece, by calls of which the last may want memory.
use Rattle.std.proofs.Common.{◌≡◌, ℕ, List, ◌++◌, Result, Ok, Err, OnOk, IfOk, is_ok, if◌then◌else◌, ap, ◌∙◌, append_assoc}

pub on_ok : {A E : Type 0} {P Q : Type 0} (r : Result A E) → (P → Q) → OnOk r P → OnOk r Q
on_ok (Ok x) f h = f h
on_ok (Err e) f h = tt

-- one more piece behind those before it
pub more : {A E : Type 0} (r : Result A E) (o m n a b : List ℕ) → OnOk r (n ≡ m ++ b) → m ≡ o ++ a → OnOk r (n ≡ o ++ (a ++ b))
more r o m n a b h first = on_ok r (λ e. e ∙ ap (λ (xs : List ℕ). xs ++ b) first ∙ append_assoc o a b) h

pub joined : (o m n a b : List ℕ) → n ≡ m ++ b → m ≡ o ++ a → n ≡ o ++ (a ++ b)
joined o m n a b e first = e ∙ ap (λ (xs : List ℕ). xs ++ b) first ∙ append_assoc o a b

pub if_ok : {A E : Type 0} {P Q : A → Type 0} (r : Result A E) → ((x : A) → P x → Q x) → IfOk r P → IfOk r Q
if_ok (Ok x) f h = f x h
if_ok (Err e) f h = tt

-- what a call appends that may want memory
pub appended : {A E : Type 0} (r : Result A E) (n o a : List ℕ) → n ≡ (if is_ok r then o ++ a else o) → OnOk r (n ≡ o ++ a)
appended (Ok x) n o a e = e
appended (Err x) n o a e = tt
