-- How the records change when one more mark comes.
use Rattle.std.proofs.Common.{◌≡◌, ℕ, min, List, [], ◌∷◌, ◌++◌, length, drop, Option, Some, None, refl, sym, ap, ◌∙◌, arith, append_assoc}
use Rattle.std.proofs.lemmas.List.{append-nil, take_at, drop_at}
use Rattle.pdb_base.specs.declared.index.PdbInternalSectionOffset.{PdbInternalSectionOffset}
use Rattle.pdb_modules.specs.declared.line.Line.{Line}
use Rattle.pdb_modules.specs.declared.line_info.LineInfo.{LineInfo}
use Rattle.pdb_modules.specs.Lines.{Mark, begins, stands, place_of, line_info, distance, lesser, reach_of, records}
use Rattle.pdb_modules.specs.KeptRows.{noted, begun, stepped, stepped_from, after}

lesser_none : (a : Option ℕ) → lesser a None ≡ a
lesser_none None = refl
lesser_none (Some a) = refl

min_assoc : (a b c : ℕ) → min (min a b) c ≡ min a (min b c)
min_assoc a b c = omega arith

pub lesser_assoc : (a b c : Option ℕ) → lesser (lesser a b) c ≡ lesser a (lesser b c)
lesser_assoc None b c = refl
lesser_assoc (Some a) None c = refl
lesser_assoc (Some a) (Some b) None = refl
lesser_assoc (Some a) (Some b) (Some c) = ap Some (min_assoc a b c)

-- while no record begins, one more mark may be the nearest
reach_open : (p : PdbInternalSectionOffset) (ms : List Mark) (x : Mark) → records ms ≡ [] → reach_of p (ms ++ x ∷ []) ≡ lesser (reach_of p ms) (distance p (place_of x))
reach_open p [] (begins q line) e = refl
reach_open p [] (stands q) e = lesser_none (distance p q)
reach_open p (begins q line ∷ ms) x e = absurd cc
reach_open p (stands q ∷ ms) x e = ap (lesser (distance p q)) (reach_open p ms x e) ∙ sym (lesser_assoc (distance p q) (reach_of p ms) (distance p (place_of x)))

-- once one began, no further mark counts
pub reach_closed : (p : PdbInternalSectionOffset) (ms more : List Mark) (r : LineInfo) (rs : List LineInfo) → records ms ≡ r ∷ rs → reach_of p (ms ++ more) ≡ reach_of p ms
reach_closed p [] more r rs e = absurd cc
reach_closed p (begins q line ∷ ms) more r rs e = refl
reach_closed p (stands q ∷ ms) more r rs e = ap (lesser (distance p q)) (reach_closed p ms more r rs e)

-- one more mark
begins_more : (p : PdbInternalSectionOffset) (line : Line) (ms : List Mark) (x : Mark) (rs : List LineInfo) → records ms ≡ rs → records (ms ++ x ∷ []) ≡ stepped x rs → line_info p line (reach_of p (ms ++ x ∷ [])) ∷ records (ms ++ x ∷ []) ≡ stepped x (line_info p line (reach_of p ms) ∷ rs)
begins_more p line ms x [] e more =
    ap (λ (o : Option ℕ). line_info p line o ∷ records (ms ++ x ∷ [])) (reach_open p ms x e)
    ∙ ap (λ (rs : List LineInfo). line_info p line (lesser (reach_of p ms) (distance p (place_of x))) ∷ rs) more
begins_more p line ms x (r ∷ rs) e more =
    ap (λ (o : Option ℕ). line_info p line o ∷ records (ms ++ x ∷ [])) (reach_closed p ms (x ∷ []) r rs e)
    ∙ ap (λ (rs : List LineInfo). line_info p line (reach_of p ms) ∷ rs) more

pub records_more : (ms : List Mark) (x : Mark) → records (ms ++ x ∷ []) ≡ stepped x (records ms)
records_more [] (begins q line) = refl
records_more [] (stands q) = refl
records_more (stands p ∷ ms) x = records_more ms x
records_more (begins p line ∷ ms) x = begins_more p line ms x (records ms) refl (records_more ms x)

-- marks that come one after another
pub after_more : (rs : List LineInfo) (ms : List Mark) (x : Mark) → after rs (ms ++ x ∷ []) ≡ stepped x (after rs ms)
after_more rs [] x = refl
after_more rs (m ∷ ms) x = after_more (stepped m rs) ms x

pub after_append : (rs : List LineInfo) (ms ns : List Mark) → after rs (ms ++ ns) ≡ after (after rs ms) ns
after_append rs [] ns = refl
after_append rs (m ∷ ms) ns = after_append (stepped m rs) ms ns

pub after_records : (ms ns : List Mark) → after (records ms) ns ≡ records (ms ++ ns)
after_records ms [] = ap records (sym (append-nil ms))
after_records ms (x ∷ ns) =
    ap (λ (rs : List LineInfo). after rs ns) (sym (records_more ms x))
    ∙ (after_records (ms ++ x ∷ []) ns ∙ ap records (append_assoc ms (x ∷ []) ns))

-- records behind others
pub stepped_behind : (n : ℕ) (done : List LineInfo) (ms : List Mark) (x : Mark) → length done ≡ n → stepped_from n x (done ++ records ms) ≡ done ++ records (ms ++ x ∷ [])
stepped_behind n done ms x e =
    ap (λ (rs : List LineInfo). (rs ++ noted (place_of x) (drop n (done ++ records ms))) ++ begun x) (take_at done (records ms) n e)
    ∙ (ap (λ (rs : List LineInfo). (done ++ noted (place_of x) rs) ++ begun x) (drop_at done (records ms) n e)
    ∙ (append_assoc done (noted (place_of x) (records ms)) (begun x) ∙ ap (λ (rs : List LineInfo). done ++ rs) (sym (records_more ms x))))
