-- The lines of variables, kept by the frames behind which they stand.
use Rattle.std.proofs.Common.{◌≡◌, ◌↔◌, ℕ, zero, suc, ◌+◌, ◌-◌, ◌<◌, ◌≤◌, Bool, true, false, eq-eqb, List, [], ◌∷◌, ◌++◌, length, map, reverse, take, drop, get_or, Option, Some, None, IsSome, option_to_list, refl, sym, ap, subst, ◌∙◌, arith}
use Rattle.std.specs.Prelude.{replicate, ◌==◌}
use Rattle.std.specs.List.{range_with_len, slice_index_or, slice_set}
use Rattle.std.proofs.lemmas.Grind.{flat_map-append}
use Rattle.std.proofs.lemmas.Bool.{eqb-true}
use Rattle.std.proofs.Math.Seq.{drop-cons}
use Rattle.std.proofs.lemmas.List.{append-nil, append_assoc, drop_all, length-drop, length-map, map-append, reverse-append, reverse-reverse, take_more}
use Rattle.std.proofs.lemmas.List.FromFn.{map-range_with_len_more}
use Rattle.pdb_records.specs.declared.machine.Machine.{Machine}
use Rattle.pdb_resolve.specs.Frames.{Frame, frame_text}
use Rattle.pdb_variables.specs.Variables.{Variable}
use Rattle.tool_addresses.specs.OwnedLines.{Keeps, call_texts, calls_behind, first_text, further_texts, last_texts, lines_of_calls, own_behind, with_line}
use Rattle.tool_addresses.specs.declared.variable_texts.OwnedLines.{OwnedLines}
use Rattle.tool_addresses.specs.VariableTexts.{framed, is_owner, line_of, lines_of, owner_before, variable_line}

-- ---- no lines

none_from : (machine : Option Machine) (a n : ℕ) → replicate n [] ≡ map (λ k. lines_of machine (Some k) []) (range_with_len a n)
none_from machine a zero = refl
none_from machine a (suc n) = ap (λ (texts : List (List ℕ)). [] ∷ texts) (none_from machine (a + 1) n)

no_lines : (machine : Option Machine) (n : ℕ) → replicate n [] ≡ lines_of_calls machine [] n
no_lines machine n = none_from machine 0 n

pub none_kept : (machine : Option Machine) (n : ℕ) (t : OwnedLines) → t.own.items ≡ [] → call_texts t ≡ replicate n [] → Keeps machine [] n t
none_kept machine n t own calls = record { own = own; calls = calls ∙ no_lines machine n }

-- ---- one line more, in a list of texts

pub put_there : {X : Type 0} (f : X → List ℕ) (xs : List X) (i : ℕ) (x y : X) (line : List ℕ) → i < length xs → x ≡ slice_index_or xs i x → f y ≡ f x ++ line → map f (slice_set xs i y) ≡ with_line line i (map f xs)
put_there f [] i x y line lt e h = absurd (omega arith)
put_there f (z ∷ xs) zero x y line lt e h = ap (λ (text : List ℕ). text ∷ map f xs) (h ∙ ap (λ w. f w ++ line) e)
put_there f (z ∷ xs) (suc i) x y line lt e h = ap (λ (texts : List (List ℕ)). f z ∷ texts) (put_there f xs i x y line (omega arith) e h)

pub put_nowhere : {X : Type 0} (f : X → List ℕ) (xs : List X) (i : ℕ) (line : List ℕ) → length xs ≤ i → map f xs ≡ with_line line i (map f xs)
put_nowhere f [] i line le = refl
put_nowhere f (z ∷ xs) zero line le = absurd (omega arith)
put_nowhere f (z ∷ xs) (suc i) line le = ap (λ (texts : List (List ℕ)). f z ∷ texts) (put_nowhere f xs i line (omega arith))

-- ---- one line more, of a variable

differ : (a b : ℕ) (t : Bool) → (a == b) ≡ t → (a ≡ b → ⊥) → t ≡ false
differ a b true e apart = absurd (apart (eqb-true a b e))
differ a b false e apart = refl

lines_more : (machine : Option Machine) (owner : Option ℕ) (vs : List Variable) (v : Variable) → lines_of machine owner (vs ++ v ∷ []) ≡ lines_of machine owner vs ++ line_of machine owner v
lines_more machine owner vs v = flat_map-append (line_of machine owner) vs (v ∷ []) ∙ ap (λ (t : List ℕ). lines_of machine owner vs ++ t) (append-nil (line_of machine owner v))

module _ (f g : ℕ → List ℕ) where
  same_from : (a n c : ℕ) → c < a → ((k : ℕ) → (k ≡ c → ⊥) → g k ≡ f k) → map f (range_with_len a n) ≡ map g (range_with_len a n)
  same_from a zero c lt others = refl
  same_from a (suc n) c lt others =
      let here : g a ≡ f a = others a (λ e. omega arith) in
      let behind : map f (range_with_len (a + 1) n) ≡ map g (range_with_len (a + 1) n) = same_from (a + 1) n c (omega arith) others in
      cc

  one_changed : (line : List ℕ) (a n i c : ℕ) → a + i ≡ c → g c ≡ f c ++ line → ((k : ℕ) → (k ≡ c → ⊥) → g k ≡ f k) → with_line line i (map f (range_with_len a n)) ≡ map g (range_with_len a n)
  one_changed line a zero i c e there others = refl
  one_changed line a (suc n) zero c e there others =
      let same : c ≡ a = omega arith in
      let here : g a ≡ f a ++ line = subst (λ (k : ℕ). g k ≡ f k ++ line) same there in
      let behind : map f (range_with_len (a + 1) n) ≡ map g (range_with_len (a + 1) n) = same_from (a + 1) n c (omega arith) others in
      cc
  one_changed line a (suc n) (suc i) c e there others =
      let here : g a ≡ f a = others a (λ h. omega arith) in
      let behind : with_line line i (map f (range_with_len (a + 1) n)) ≡ map g (range_with_len (a + 1) n) = one_changed line (a + 1) n i c (omega arith) there others in
      cc

of_a_call : (machine : Option Machine) (vs : List Variable) (v : Variable) (n c : ℕ) → v.owner ≡ Some c → with_line (variable_line machine v) c (lines_of_calls machine vs n) ≡ lines_of_calls machine (vs ++ v ∷ []) n
of_a_call machine vs v n c e =
    one_changed (λ k. lines_of machine (Some k) vs) (λ k. lines_of machine (Some k) (vs ++ v ∷ [])) (variable_line machine v) 0 n c c (omega arith)
    (lines_more machine (Some c) vs v ∙ ap (λ (t : List ℕ). lines_of machine (Some c) vs ++ t) (own_line c refl))
    (λ k apart. lines_more machine (Some k) vs v ∙ (ap (λ (t : List ℕ). lines_of machine (Some k) vs ++ t) (other_line k apart) ∙ append-nil (lines_of machine (Some k) vs)))
  where
    own_line : (k : ℕ) → k ≡ c → line_of machine (Some k) v ≡ variable_line machine v
    own_line k same = let yes : is_owner (Some k) v.owner ≡ true = rw (e, same) (eq-eqb c c refl) in rw yes refl

    other_line : (k : ℕ) → (k ≡ c → ⊥) → line_of machine (Some k) v ≡ []
    other_line k apart = let not_it : is_owner (Some k) v.owner ≡ false = rw e (differ k c (k == c) refl apart) in rw not_it refl

of_no_call : (machine : Option Machine) (vs : List Variable) (v : Variable) (n : ℕ) → v.owner ≡ None → lines_of_calls machine vs n ≡ lines_of_calls machine (vs ++ v ∷ []) n
of_no_call machine vs v n e = all_same 0 n
  where
    same : (k : ℕ) → lines_of machine (Some k) (vs ++ v ∷ []) ≡ lines_of machine (Some k) vs
    same k =
        let not_it : is_owner (Some k) v.owner ≡ false = rw e refl in
        let none : line_of machine (Some k) v ≡ [] = rw not_it refl in
        lines_more machine (Some k) vs v ∙ (ap (λ (t : List ℕ). lines_of machine (Some k) vs ++ t) none ∙ append-nil (lines_of machine (Some k) vs))

    all_same : (a n : ℕ) → map (λ k. lines_of machine (Some k) vs) (range_with_len a n) ≡ map (λ k. lines_of machine (Some k) (vs ++ v ∷ [])) (range_with_len a n)
    all_same a zero = refl
    all_same a (suc n) = let here = same a in let behind = all_same (a + 1) n in cc

own_more : (machine : Option Machine) (vs : List Variable) (v : Variable) → v.owner ≡ None → lines_of machine None vs ++ variable_line machine v ≡ lines_of machine None (vs ++ v ∷ [])
own_more machine vs v e =
    let it : is_owner None v.owner ≡ true = rw e refl in
    let line : line_of machine None v ≡ variable_line machine v = rw it refl in
    sym (lines_more machine None vs v ∙ ap (λ (t : List ℕ). lines_of machine None vs ++ t) line)

own_same : (machine : Option Machine) (vs : List Variable) (v : Variable) (c : ℕ) → v.owner ≡ Some c → lines_of machine None vs ≡ lines_of machine None (vs ++ v ∷ [])
own_same machine vs v c e =
    let not_it : is_owner None v.owner ≡ false = rw e refl in
    let none : line_of machine None v ≡ [] = rw not_it refl in
    sym (lines_more machine None vs v ∙ (ap (λ (t : List ℕ). lines_of machine None vs ++ t) none ∙ append-nil (lines_of machine None vs)))

kept_by : (machine : Option Machine) (vs : List Variable) (v : Variable) (n : ℕ) (old new : OwnedLines) (owner : Option ℕ) → v.owner ≡ owner → Keeps machine vs n old
    → new.own.items ≡ own_behind (variable_line machine v) owner old.own.items → call_texts new ≡ calls_behind (variable_line machine v) owner (call_texts old) → Keeps machine (vs ++ v ∷ []) n new
kept_by machine vs v n old new None is kept own calls = record {
  own = own ∙ (ap (λ (t : List ℕ). t ++ variable_line machine v) kept.own ∙ own_more machine vs v is);
  calls = calls ∙ (kept.calls ∙ of_no_call machine vs v n is);
}
kept_by machine vs v n old new (Some c) is kept own calls = record {
  own = own ∙ (kept.own ∙ own_same machine vs v c is);
  calls = calls ∙ (ap (λ (ts : List (List ℕ)). with_line (variable_line machine v) c ts) kept.calls ∙ of_a_call machine vs v n c is);
}

pub kept_more : (machine : Option Machine) (vs : List Variable) (v : Variable) (n : ℕ) (old new : OwnedLines) → Keeps machine vs n old
    → new.own.items ≡ own_behind (variable_line machine v) v.owner old.own.items → call_texts new ≡ calls_behind (variable_line machine v) v.owner (call_texts old) → Keeps machine (vs ++ v ∷ []) n new
kept_more machine vs v n old new kept own calls = kept_by machine vs v n old new v.owner refl kept own calls

-- ---- the last call's lines

reversed : {X : Type 0} (f : X → List ℕ) (old new : List X) (x : X) → old ≡ new ++ x ∷ [] → reverse (map f old) ≡ f x ∷ reverse (map f new)
reversed f old new x e = ap (λ l. reverse (map f l)) e ∙ (ap (λ (l : List (List ℕ)). reverse l) (map-append f new (x ∷ [])) ∙ reverse-append (map f new) (f x ∷ []))

pub popped_first : {X : Type 0} (f : X → List ℕ) (own : List ℕ) (old new : List X) (r : Option X) → old ≡ new ++ option_to_list r → IsSome r ↔ (0 < length old) → first_text own (reverse (map f old)) ≡ first_text own (map f (option_to_list r))
popped_first f own old new (Some x) e there = ap (first_text own) (reversed f old new x e)
popped_first f own [] [] None e there = refl
popped_first f own (x ∷ old) new None e there = let h = there.1 (omega arith) in absurd cc
popped_first f own [] (x ∷ new) None e there = absurd cc

pub popped_rest : {X : Type 0} (f : X → List ℕ) (old new : List X) (r : Option X) → old ≡ new ++ option_to_list r → IsSome r ↔ (0 < length old) → reverse (map f new) ≡ further_texts (reverse (map f old))
popped_rest f old new (Some x) e there = sym (ap further_texts (reversed f old new x e))
popped_rest f [] [] None e there = refl
popped_rest f (x ∷ old) new None e there = let h = there.1 (omega arith) in absurd cc
popped_rest f [] (x ∷ new) None e there = absurd cc

turned : (f : ℕ → List ℕ) (n : ℕ) → reverse (map f (range_with_len 0 (suc n))) ≡ f n ∷ reverse (map f (range_with_len 0 n))
turned f n = let more : suc n ≡ n + 1 = omega arith in ap (λ (l : List (List ℕ)). reverse l) (ap (λ (k : ℕ). map f (range_with_len 0 k)) more ∙ map-range_with_len_more f 0 n n (omega arith)) ∙ reverse-append (map f (range_with_len 0 n)) (f n ∷ [])

unturned : (xs ys : List (List ℕ)) → reverse xs ≡ reverse ys → xs ≡ ys
unturned xs ys e = sym (reverse-reverse xs) ∙ (ap (λ (l : List (List ℕ)). reverse l) e ∙ reverse-reverse ys)

pub kept_last : (machine : Option Machine) (vs : List Variable) (n : ℕ) (old new : OwnedLines) → Keeps machine vs n old → new.own.items ≡ old.own.items → last_texts new ≡ further_texts (last_texts old)
    → (first_text old.own.items (last_texts old) ≡ lines_of machine (owner_before n) vs) × Keeps machine vs (n - 1) new
kept_last machine vs zero old new kept own rest =
    let none : last_texts old ≡ [] = ap (λ (l : List (List ℕ)). reverse l) kept.calls in
    let none_left : last_texts new ≡ [] = rest ∙ ap further_texts none in
    (ap (first_text old.own.items) none ∙ kept.own, record { own = own ∙ kept.own; calls = unturned (call_texts new) [] none_left })
kept_last machine vs (suc n) old new kept own rest =
    let all : last_texts old ≡ lines_of machine (Some n) vs ∷ reverse (lines_of_calls machine vs n) = ap (λ (l : List (List ℕ)). reverse l) kept.calls ∙ turned (λ k. lines_of machine (Some k) vs) n in
    let left : last_texts new ≡ reverse (lines_of_calls machine vs n) = rest ∙ ap further_texts all in
    let kept_now : Keeps machine vs n new = record { own = own ∙ kept.own; calls = unturned (call_texts new) (lines_of_calls machine vs n) left } in
    let fewer : n ≡ suc n - 1 = omega arith in
    (ap (first_text old.own.items) all, subst (λ (k : ℕ). Keeps machine vs k new) fewer kept_now)

-- ---- variables and frames, one after another

pub more_shown : {X Y : Type 0} (shown : X → Y) (xs : List X) (i : ℕ) (x : X) → i < length xs → x ≡ get_or xs i x → map shown (take (i + 1) xs) ≡ map shown (take i xs) ++ shown x ∷ []
more_shown {X} shown xs i x lt is =
    ap (λ l. map shown l) (take_more xs i x lt ∙ ap (λ (r : X). take i xs ++ r ∷ []) (sym is)) ∙ map-append shown (take i xs) (x ∷ [])

pub next_frame : {X : Type 0} (shown : X → Frame) (machine : Option Machine) (vs : List Variable) (xs : List X) (i : ℕ) (x : X) → i < length xs → x ≡ get_or xs i x
    → framed machine vs (map shown (drop i xs)) ≡ frame_text (shown x) ++ lines_of machine (owner_before (length xs - (i + 1))) vs ++ framed machine vs (map shown (drop (i + 1) xs))
next_frame {X} shown machine vs xs i x lt is =
    let front = ap (λ (l : List X). framed machine vs (map shown l)) (drop-cons xs i x lt ∙ ap (λ (r : X). r ∷ drop (suc i) xs) (sym is)) in
    let same : suc i ≡ i + 1 = omega arith in
    let many : length (map shown (drop (i + 1) xs)) ≡ length xs - (i + 1) = length-map (drop (i + 1) xs) shown ∙ length-drop (i + 1) xs in
    let behind = subst (λ (j : ℕ). framed machine vs (map shown (drop i xs)) ≡ frame_text (shown x) ++ lines_of machine (owner_before (length (map shown (drop j xs)))) vs ++ framed machine vs (map shown (drop j xs))) same front in
    subst (λ (n : ℕ). framed machine vs (map shown (drop i xs)) ≡ frame_text (shown x) ++ lines_of machine (owner_before n) vs ++ framed machine vs (map shown (drop (i + 1) xs))) many behind

put_next : (out a b rest whole : List ℕ) → whole ≡ a ++ b ++ rest → ((out ++ a) ++ b) ++ rest ≡ out ++ whole
put_next out a b rest whole e = ap (λ (t : List ℕ). t ++ rest) (append_assoc out a b) ∙ (append_assoc out (a ++ b) rest ∙ ap (λ (t : List ℕ). out ++ t) (sym e))

-- a frame was put, and then its lines
pub frame_put : (out0 out1 out2 a b lines rest whole start : List ℕ) → out1 ≡ out0 ++ a → out2 ≡ out1 ++ lines → lines ≡ b → whole ≡ a ++ b ++ rest → out0 ++ whole ≡ start → out2 ++ rest ≡ start
frame_put out0 out1 out2 a b lines rest whole start first second are next so_far =
    ap (λ (t : List ℕ). t ++ rest) (second ∙ (ap (λ (t : List ℕ). out1 ++ t) are ∙ ap (λ (t : List ℕ). t ++ b) first)) ∙ (put_next out0 a b rest whole next ∙ so_far)

pub kept_fewer : (machine : Option Machine) (vs : List Variable) (m i : ℕ) (t : OwnedLines) → Keeps machine vs (m - (i + 1) - 1) t → Keeps machine vs (m - (i + 1 + 1)) t
kept_fewer machine vs m i t kept = subst (λ (n : ℕ). Keeps machine vs n t) (omega arith) kept

pub all_put : {X : Type 0} (shown : X → Frame) (machine : Option Machine) (vs : List Variable) (xs : List X) (i : ℕ) (out start : List ℕ) → length xs ≤ i → out ++ framed machine vs (map shown (drop i xs)) ≡ start → out ≡ start
all_put {X} shown machine vs xs i out start le e = sym (append-nil out) ∙ (sym (ap (λ (l : List X). out ++ framed machine vs (map shown l)) (drop_all i xs le)) ∙ e)
