-- Texts that are cut off at a limit.
use Rattle.std.proofs.Common.{◌≡◌, ℕ, zero, suc, ◌+◌, ◌-◌, ◌≤◌, ◌<◌, cond, List, [], ◌∷◌, ◌++◌, length, get_or, take, refl, sym, ap, ◌∙◌, arith, append_assoc}
use Rattle.std.specs.Prelude.{codes, min, nat_lt, Bool, true, false, Result, Ok, Err, OnErr, OnOk}
use Rattle.std.specs.List.{flat_map}
use Rattle.std.proofs.lemmas.Bool.{le-ltb, lt-ltb, ltb-true}
use Rattle.std.proofs.lemmas.List.{take_all, take_at, take_more, take-append-le, take-take, flat_map_more, append-nil, get_or_default, length-append, length-take, length-take-le}
use Rattle.pdb_base.specs.declared.index.TypeIndex.{TypeIndex}
use Rattle.pdb_text.specs.Written.{PutFront}
use Rattle.pdb_types.specs.Cuts.{IsCut, IsKept}
use Rattle.pdb_types.specs.TypeTexts.{cut_off, last_text, list_text, with_comma}

pub take_cut : (n : ℕ) (x s : List ℕ) → take n (take n x ++ s) ≡ take n (x ++ s)
take_cut zero x s = refl
take_cut (suc n) [] s = refl
take_cut (suc n) (a ∷ x) s = ap (λ (l : List ℕ). a ∷ l) (take_cut n x s)

pub take_beyond : (x s : List ℕ) (m n : ℕ) → n ≡ length x + m → take n (x ++ s) ≡ x ++ take m s
take_beyond [] s m n e = let same : n ≡ m = omega arith in ap (λ k. take k s) same
take_beyond (a ∷ x) s m zero e = absurd (omega arith)
take_beyond (a ∷ x) s m (suc n) e = ap (λ (l : List ℕ). a ∷ l) (take_beyond x s m n (omega arith))

pub cut_full : (limit : ℕ) (before text : List ℕ) → length before ≤ limit → limit ≤ length before → IsCut limit before text before
cut_full limit before text short full =
    let same : length before ≡ limit = omega arith in
    record { is = sym (take_at before text limit same); fits = short; grows = omega arith }

pub cut_none : (limit : ℕ) (before : List ℕ) → length before ≤ limit → IsCut limit before [] before
cut_none limit before short = record { is = sym (ap (take limit) (append-nil before) ∙ take_all limit before short); fits = short; grows = omega arith }

pub cut_then : (limit : ℕ) (before first second middle now : List ℕ) → IsCut limit before first middle → IsCut limit middle second now → IsCut limit before (first ++ second) now
cut_then limit before first second middle now a b = record {
  is = b.is ∙ ap (λ (m : List ℕ). take limit (m ++ second)) a.is ∙ take_cut limit (before ++ first) second ∙ ap (take limit) (append_assoc before first second);
  fits = b.fits;
  grows = (let low = a.grows in let high = b.grows in omega (arith, low, high));
}

pub cut_three : (limit : ℕ) (before first second third one two now : List ℕ) → IsCut limit before first one → IsCut limit one second two → IsCut limit two third now → IsCut limit before (first ++ (second ++ third)) now
cut_three limit before first second third one two now a b c = cut_then limit before first (second ++ third) one now a (cut_then limit one second third two now b c)

pub cut_four : (limit : ℕ) (before first second third fourth one two three now : List ℕ) → IsCut limit before first one → IsCut limit one second two → IsCut limit two third three → IsCut limit three fourth now → IsCut limit before (first ++ (second ++ (third ++ fourth))) now
cut_four limit before first second third fourth one two three now a b c d = cut_then limit before first (second ++ (third ++ fourth)) one now a (cut_three limit one second third fourth two three now b c d)

-- below the limit the text is whole
pub cut_whole : (limit : ℕ) (before text now : List ℕ) → IsCut limit before text now → length now < limit → length now ≡ length before + length text
cut_whole limit before text now cut below =
    let sized : length (before ++ text) ≡ length before + length text = length-append before text in
    let taken = ap length cut.is ∙ length-take limit (before ++ text) in
    omega (arith, sized, taken, below)

-- ---- what was there

kept_front : (limit : ℕ) (before first middle : List ℕ) → length before ≤ limit → IsCut limit before first middle → take (length before) middle ≡ before
kept_front limit before first middle short a = ap (take (length before)) a.is ∙ take-take (length before) limit (before ++ first) short ∙ take_at before first (length before) refl

kept_size : (n : ℕ) (before middle : List ℕ) → n ≡ length before → take n middle ≡ before → n ≤ length middle
kept_size n before middle e is =
    let sized = ap length is in
    let cut = length-take n middle in
    omega (arith, sized, cut)

pub kept_then : (limit : ℕ) (before first middle now : List ℕ) → length before ≤ limit → IsCut limit before first middle → IsKept middle now → IsKept before now
kept_then limit before first middle now short a b =
    let front = kept_front limit before first middle short a in
    let few = kept_size (length before) before middle refl front in
    record { is = sym (take-take (length before) (length middle) now few) ∙ ap (take (length before)) b.is ∙ front }

pub on_kept : {E : Type 0} (r : Result (Unit {0}) E) (limit : ℕ) (before first middle now : List ℕ) → length before ≤ limit → IsCut limit before first middle → OnErr r (IsKept middle now) → OnErr r (IsKept before now)
on_kept (Ok x) limit before first middle now short a b = b
on_kept (Err e) limit before first middle now short a b = kept_then limit before first middle now short a b

pub kept_same : (before now : List ℕ) → now ≡ before → IsKept before now
kept_same before now e = record { is = ap (take (length before)) e ∙ take_all (length before) before (omega arith) }

pub kept_more : (before more now : List ℕ) → now ≡ before ++ more → IsKept before now
kept_more before more now e = record { is = ap (take (length before)) e ∙ take_at before more (length before) refl }

pub kept_front_put : (before text now : List ℕ) → PutFront before now text → IsKept before now
kept_front_put before text now h = kept_more before (take h.count text) now h.is

-- of what was cut a front is left
pub kept_cut : (limit n : ℕ) (before text middle now : List ℕ) → length before ≤ limit → length before ≤ n → IsCut limit before text middle → now ≡ take n middle → IsKept before now
kept_cut limit n before text middle now short long a e = record { is = ap (take (length before)) e ∙ take-take (length before) n middle long ∙ kept_front limit before text middle short a }

-- the last piece of a text is put by a call that may fail

pub on_then : {E : Type 0} (r : Result (Unit {0}) E) (limit : ℕ) (before first second middle now : List ℕ) → IsCut limit before first middle → OnOk r (IsCut limit middle second now) → OnOk r (IsCut limit before (first ++ second) now)
on_then (Ok x) limit before first second middle now a b = cut_then limit before first second middle now a b
on_then (Err e) limit before first second middle now a b = b

pub on_three : {E : Type 0} (r : Result (Unit {0}) E) (limit : ℕ) (before first second third one two now : List ℕ) → IsCut limit before first one → IsCut limit one second two → OnOk r (IsCut limit two third now) → OnOk r (IsCut limit before (first ++ (second ++ third)) now)
on_three r limit before first second third one two now a b c = on_then r limit before first (second ++ third) one now a (on_then r limit one second third two now b c)

pub on_four : {E : Type 0} (r : Result (Unit {0}) E) (limit : ℕ) (before first second third fourth one two three now : List ℕ) → IsCut limit before first one → IsCut limit one second two → IsCut limit two third three → OnOk r (IsCut limit three fourth now) → OnOk r (IsCut limit before (first ++ (second ++ (third ++ fourth))) now)
on_four r limit before first second third fourth one two three now a b c d = on_then r limit before first (second ++ (third ++ fourth)) one now a (on_three r limit one second third fourth two three now b c d)

pub put_all : (limit : ℕ) (before text : List ℕ) → length before ≤ limit → length text ≤ limit - length before → IsCut limit before text (before ++ text)
put_all limit before text short room =
    let sized : length (before ++ text) ≡ length before + length text = length-append before text in
    let fits : length (before ++ text) ≤ limit = omega (arith, sized) in
    record { is = sym (take_all limit (before ++ text) fits); fits = fits; grows = omega (arith, sized) }

pub put_some : (limit : ℕ) (before text : List ℕ) → length before ≤ limit → limit - length before < length text → IsCut limit before text (before ++ take (limit - length before) text)
put_some limit before text short room =
    let m = limit - length before in
    let here : length (take m text) ≡ m = length-take-le m text (omega arith) in
    let sized : length (before ++ take m text) ≡ length before + length (take m text) = length-append before (take m text) in
    record { is = sym (take_beyond before text m limit (omega arith)); fits = omega (arith, sized, here); grows = omega (arith, sized) }

pub truncated : (limit : ℕ) (before text whole : List ℕ) → length before ≤ limit → whole ≡ before ++ text → IsCut limit before text (take limit whole)
truncated limit before text whole short e =
    let sized = length-take limit whole in
    let longer = ap length e ∙ length-append before text in
    record { is = ap (take limit) e; fits = omega (arith, sized); grows = omega (arith, sized, longer) }

-- ---- a list of arguments

flat_map_step : (f : TypeIndex → List ℕ) (js : List TypeIndex) (i : ℕ) (d : TypeIndex) → i < length js → flat_map f (take (i + 1) js) ≡ flat_map f (take i js) ++ f (get_or js i d)
flat_map_step f js i d lt = ap (flat_map f) (take_more js i d lt) ∙ sym (flat_map_more f [] (take i js) (get_or js i d))

-- one more argument, with a comma
pub list_more : (limit : ℕ) (name : ℕ → List ℕ) (js : List TypeIndex) (i : ℕ) (d : TypeIndex) (o a b n : List ℕ) → i < length js → IsCut limit o (flat_map (with_comma name) (take i js)) a → IsCut limit a (name (get_or js i d).0) b → IsCut limit b (codes ", ") n
    → IsCut limit o (flat_map (with_comma name) (take (i + 1) js)) n
list_more limit name js i d o a b n lt before named comma =
    rw (flat_map_step (with_comma name) js i d lt)
    (cut_then limit o (flat_map (with_comma name) (take i js)) (with_comma name (get_or js i d)) a n before (cut_then limit a (name (get_or js i d).0) (codes ", ") b n named comma))

list_end_of : {E : Type 0} (r : Result (Unit {0}) E) (limit : ℕ) (name : ℕ → List ℕ) (j : TypeIndex) (js : List TypeIndex) (d : TypeIndex) (o a b e n : List ℕ) → IsCut limit o (codes "(") a → IsCut limit a (flat_map (with_comma name) (take (length js) (j ∷ js))) b → IsCut limit b (last_text name (get_or (j ∷ js) (length js) d)) e → OnOk r (IsCut limit e (codes ")") n)
    → OnOk r (IsCut limit o (list_text name (j ∷ js)) n)
list_end_of r limit name j js d o a b e n opened before last closed =
    let same : get_or (j ∷ js) (length js) d ≡ get_or (j ∷ js) (length js) j = get_or_default (j ∷ js) (length js) d j (omega arith) in
    on_four r limit o (codes "(") (flat_map (with_comma name) (take (length js) (j ∷ js))) (last_text name (get_or (j ∷ js) (length js) j)) (codes ")") a b e n opened before (rw (sym same) last) closed

-- the last argument
pub list_end : {E : Type 0} (r : Result (Unit {0}) E) (limit : ℕ) (name : ℕ → List ℕ) (js : List TypeIndex) (last : ℕ) (d : TypeIndex) (o a b e n : List ℕ) → length js ≡ last + 1 → IsCut limit o (codes "(") a → IsCut limit a (flat_map (with_comma name) (take last js)) b → IsCut limit b (last_text name (get_or js last d)) e → OnOk r (IsCut limit e (codes ")") n)
    → OnOk r (IsCut limit o (list_text name js) n)
list_end r limit name [] last d o a b e n size opened before named closed = absurd (omega arith)
list_end r limit name (j ∷ js) last d o a b e n size opened before named closed =
    let here : last ≡ length js = omega arith in
    list_end_of r limit name j js d o a b e n opened (rw here at before) (rw here at named) closed

-- ---- a whole name

cut_is : (most : ℕ) (before text now : List ℕ) → IsCut (length before + most + 1) before text now → now ≡ before ++ take (most + 1) text
cut_is most before text now h = h.is ∙ take_beyond before text (most + 1) (length before + most + 1) (omega arith)

cut_size : (most : ℕ) (before text now : List ℕ) → now ≡ before ++ take (most + 1) text → length now ≡ length before + min (most + 1) (length text)
cut_size most before text now is = ap length is ∙ length-append before (take (most + 1) text) ∙ ap (λ (n : ℕ). length before + n) (length-take (most + 1) text)

pub cut_short : (most : ℕ) (before text now : List ℕ) → IsCut (length before + most + 1) before text now → length now ≤ length before + most → now ≡ before ++ cut_off most text
cut_short most before text now h short =
    let is = cut_is most before text now h in
    let sized = cut_size most before text now is in
    let few : length text ≤ most = omega (arith, sized, short) in
    let whole : take (most + 1) text ≡ text = take_all (most + 1) text (omega (arith, few)) in
    rw (le-ltb most (length text) few) (is ∙ ap (λ (l : List ℕ). before ++ l) whole)

pub cut_long : (most : ℕ) (before text now : List ℕ) → IsCut (length before + most + 1) before text now → length before + most < length now → take (length before + most) now ++ codes "<...>" ≡ before ++ cut_off most text
cut_long most before text now h long =
    let is = cut_is most before text now h in
    let sized = cut_size most before text now is in
    let many : most < length text = omega (arith, sized, long) in
    let inner : take most (take (most + 1) text) ≡ take most text = take-take most (most + 1) text (omega arith) in
    let outer : take (length before + most) now ≡ before ++ take most text = ap (take (length before + most)) is ∙ take_beyond before (take (most + 1) text) most (length before + most) refl ∙ ap (λ (l : List ℕ). before ++ l) inner in
    rw (outer, lt-ltb most (length text) many) (append_assoc before (take most text) (codes "<...>"))

-- the mark stands behind as many bytes as are asked for
take_marked : (n most : ℕ) (text mark : List ℕ) → n ≤ most → most < length text → take n (take most text ++ mark) ≡ take n text
take_marked n most text mark few many =
    let here : length (take most text) ≡ most = length-take-le most text (omega (arith, many)) in
    take-append-le n (take most text) mark (omega (arith, here, few)) ∙ take-take n most text few

take_shown : (n most : ℕ) (text : List ℕ) (b : Bool) → b ≡ nat_lt most (length text) → n ≤ most → take n (cond b (take most text ++ codes "<...>") text) ≡ take n text
take_shown n most text true e few = take_marked n most text (codes "<...>") few (ltb-true most (length text) (sym e))
take_shown n most text false e few = refl

-- of a whole name no more is asked for than has to stand before its mark
pub cut_start : (n : ℕ) (before text now : List ℕ) → n ≤ 65536 → IsCut (length before + n) before text now → now ≡ before ++ take n (cut_off 65536 text)
cut_start n before text now few h =
    h.is ∙ take_beyond before text n (length before + n) refl ∙ ap (λ (l : List ℕ). before ++ l) (sym (take_shown n 65536 text (nat_lt 65536 (length text)) refl few))

pub on_start : {E : Type 0} (r : Result (Unit {0}) E) (n : ℕ) (before text now : List ℕ) → n ≤ 65536 → OnOk r (IsCut (length before + n) before text now) → OnOk r (now ≡ before ++ take n (cut_off 65536 text))
on_start (Ok x) n before text now few h = cut_start n before text now few h
on_start (Err e) n before text now few h = h
