-- What is put over a room.
use Rattle.std.proofs.Common.{◌≡◌, ℕ, ◌+◌, ◌≤◌, ◌<◌, suc, zero, min, get_or, drop-cons, add-one, List, [], ◌∷◌, ◌++◌, map, length, take, drop, set, refl, sym, ap, ◌∙◌, arith}
use Rattle.std.proofs.lemmas.Grind.{common_steps}
use Rattle.std.proofs.lemmas.List.{take_min, drop_min}
use Rattle.pdb_c.specs.Rooms.{over, put}

-- as much as fits, and then what was there
pub over_is : {A : Type 0} (xs room : List A) → over xs room ≡ take (length room) xs ++ drop (length xs) room
over_is [] room = grind (arith, common_steps)
over_is (x ∷ xs) [] = refl
over_is {A = A} (x ∷ xs) (y ∷ room) = ap (λ (r : List A). x ∷ r) (over_is xs room)

pub over_length : {A : Type 0} (xs room : List A) → length (over xs room) ≡ length room
over_length [] room = refl
over_length (x ∷ xs) [] = refl
over_length (x ∷ xs) (y ∷ room) = ap suc (over_length xs room)

pub over_none : {A : Type 0} (xs : List A) → over xs [] ≡ []
over_none [] = refl
over_none (x ∷ xs) = refl

-- one thing behind the other, from the start on
over_behind : {A : Type 0} (xs ys room : List A) → put (length xs) ys (over xs room) ≡ over (xs ++ ys) room
over_behind [] ys room = refl
over_behind (x ∷ xs) ys [] = over_none ys
over_behind {A = A} (x ∷ xs) ys (y ∷ room) = ap (λ (r : List A). x ∷ r) (over_behind xs ys room)

pub put_past : {A : Type 0} (n : ℕ) (xs room : List A) → length room ≤ n → put n xs room ≡ room
put_past n xs [] h = grind (arith, common_steps, over_none)
put_past zero xs (y ∷ room) h = absurd (omega (arith, h))
put_past {A = A} (suc n) xs (y ∷ room) h = ap (λ (r : List A). y ∷ r) (put_past n xs room (omega (arith, h)))

pub put_there : {A : Type 0} (n : ℕ) (x : A) (room : List A) → n < length room → put n (x ∷ []) room ≡ set room n x
put_there n x [] h = absurd (omega (arith, h))
put_there zero x (y ∷ room) h = refl
put_there {A = A} (suc n) x (y ∷ room) h = ap (λ (r : List A). y ∷ r) (put_there n x room (omega (arith, h)))

pub put_length : {A : Type 0} (n : ℕ) (xs room : List A) → length (put n xs room) ≡ length room
put_length n xs [] = grind (arith, common_steps, over_none)
put_length zero xs (y ∷ room) = over_length xs (y ∷ room)
put_length (suc n) xs (y ∷ room) = ap suc (put_length n xs room)

pub put_none : {A : Type 0} (n : ℕ) (room : List A) → put n [] room ≡ room
put_none n room = grind (arith, common_steps)

-- one thing behind the other
pub put_behind : {A : Type 0} (n : ℕ) (xs ys room : List A) → put (n + length xs) ys (put n xs room) ≡ put n (xs ++ ys) room
put_behind n xs ys [] = put_past (n + length xs) ys (put n xs []) (rw (put_length n xs []) (omega arith)) ∙ put_past n xs [] (omega arith) ∙ sym (put_past n (xs ++ ys) [] (omega arith))
put_behind {A = A} zero xs ys (y ∷ room) =
    let none : 0 + length xs ≡ length xs = omega arith in
    ap (λ (m : ℕ). put m ys (over xs (y ∷ room))) none ∙ over_behind xs ys (y ∷ room)
put_behind {A = A} (suc n) xs ys (y ∷ room) =
    let more : suc n + length xs ≡ suc (n + length xs) = omega arith in
    ap (λ (m : ℕ). put m ys (put (suc n) xs (y ∷ room))) more ∙ ap (λ (r : List A). y ∷ r) (put_behind n xs ys room)

pub map_over : {A B : Type 0} (f : A → B) (xs room : List A) → map f (over xs room) ≡ over (map f xs) (map f room)
map_over f [] room = refl
map_over f (x ∷ xs) [] = refl
map_over {B = B} f (x ∷ xs) (y ∷ room) = ap (λ (r : List B). f x ∷ r) (map_over f xs room)

pub map_put : {A B : Type 0} (f : A → B) (n : ℕ) (xs room : List A) → map f (put n xs room) ≡ put n (map f xs) (map f room)
map_put f n xs [] = ap (map f) (put_past n xs [] (omega arith)) ∙ sym (put_past n (map f xs) [] (omega arith))
map_put f zero xs (y ∷ room) = map_over f xs (y ∷ room)
map_put {B = B} f (suc n) xs (y ∷ room) = ap (λ (r : List B). f y ∷ r) (map_put f n xs room)

-- a front of bytes that are copied
pub put_front : {A : Type 0} (n k : ℕ) (xs room : List A) → k ≡ min (length (drop n room)) (length xs) → take n room ++ (take k xs ++ drop k (drop n room)) ≡ put n xs room
put_front {A = A} n k xs room e =
    let d = drop n room in
    let xs_front : take k xs ≡ take (length d) xs = ap (λ (m : ℕ). take m xs) e ∙ take_min (length d) xs in
    let least : k ≡ min (length xs) (length d) = omega arith in
    let room_rest : drop k d ≡ drop (length xs) d = ap (λ (m : ℕ). drop m d) least ∙ drop_min (length xs) d in
    ap (λ (r : List A). take n room ++ r) (ap (λ (r : List A). r ++ drop k d) xs_front ∙ ap (λ (r : List A). take (length d) xs ++ r) room_rest ∙ sym (over_is xs d))

-- what is put next
pub put_next : {A : Type 0} (n m : ℕ) (ys xs room after : List A) → after ≡ put n ys room → m ≡ n + length ys → put m xs after ≡ put n (ys ++ xs) room
put_next n m ys xs room after r e = rw (r, e) (put_behind n ys xs room)

-- nothing is left to put
pub put_last : {A : Type 0} (n : ℕ) (xs room all : List A) → xs ≡ [] → put n xs room ≡ all → room ≡ all
put_last {A = A} n xs room all none h = sym (put_none n room) ∙ ap (λ (ys : List A). put n ys room) (sym none) ∙ h

-- what is left begins with the item there
pub drop_next : {A : Type 0} (xs : List A) (n : ℕ) (d : A) → n < length xs → drop n xs ≡ get_or xs n d ∷ drop (n + 1) xs
drop_next xs n d h = rw (add-one, drop-cons xs n d) refl

pub put_start : {A : Type 0} (xs room : List A) → put 0 xs room ≡ over xs room
put_start xs [] = refl
put_start xs (y ∷ room) = refl
