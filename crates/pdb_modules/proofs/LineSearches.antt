-- The first record that covers a place, while marks come one after another.
use Rattle.std.proofs.Common.{◌≡◌, ℕ, map, take, drop, Bool, true, false, cond, List, [], ◌∷◌, ◌++◌, Option, Some, None, option_map, refl, sym, ap, ◌∙◌}
use Rattle.std.specs.Option.{option_or}
use Rattle.std.proofs.lemmas.List.{append-nil, map-append, take-append-drop}
use Rattle.pdb_base.specs.declared.index.PdbInternalSectionOffset.{PdbInternalSectionOffset}
use Rattle.pdb_modules.specs.declared.line.Line.{Line}
use Rattle.pdb_modules.specs.declared.line.Entry.{Entry}
use Rattle.pdb_modules.specs.declared.line_info.LineInfo.{LineInfo}
use Rattle.pdb_modules.specs.declared.line_search.Begun.{Begun}
use Rattle.pdb_modules.specs.LineCover.{line_covers}
use Rattle.pdb_modules.specs.Lines.{Mark, begins, stands, is_marker, mark_at, line_info, all_but_last}
use Rattle.pdb_modules.specs.KeptRows.{nearer, noted, stepped, after}
use Rattle.pdb_modules.specs.LineSearch.{first_covering, begun_line, last_of, if_covers, IsSearched}
use Rattle.pdb_modules.proofs.Reaching.{after_append}

-- ---- all but the last, and the last

noted_front : (p : PdbInternalSectionOffset) (rs : List LineInfo) → all_but_last (noted p rs) ≡ all_but_last rs
noted_front p [] = refl
noted_front p (r ∷ []) = refl
noted_front p (r ∷ (s ∷ [])) = refl
noted_front p (r ∷ (s ∷ (t ∷ rs))) = ap (λ (xs : List LineInfo). r ∷ xs) (noted_front p (s ∷ (t ∷ rs)))

noted_last : (p : PdbInternalSectionOffset) (rs : List LineInfo) → last_of (noted p rs) ≡ option_map (nearer p) (last_of rs)
noted_last p [] = refl
noted_last p (r ∷ []) = refl
noted_last p (r ∷ (s ∷ [])) = refl
noted_last p (r ∷ (s ∷ (t ∷ rs))) = noted_last p (s ∷ (t ∷ rs))

front_of : (rs : List LineInfo) (x : LineInfo) → all_but_last (rs ++ x ∷ []) ≡ rs
front_of [] x = refl
front_of (r ∷ []) x = refl
front_of (r ∷ (s ∷ rs)) x = ap (λ (xs : List LineInfo). r ∷ xs) (front_of (s ∷ rs) x)

end_of : (rs : List LineInfo) (x : LineInfo) → last_of (rs ++ x ∷ []) ≡ Some x
end_of [] x = refl
end_of (r ∷ []) x = refl
end_of (r ∷ (s ∷ rs)) x = end_of (s ∷ rs) x

module _ (q : PdbInternalSectionOffset) where
  -- the first is one before the last, or the last
  first_else : (b : Bool) (r : LineInfo) (o l : Option LineInfo) → cond b (Some r) (option_or o l) ≡ option_or (cond b (Some r) o) l
  first_else true r o l = refl
  first_else false r o l = refl

  pub by_last : (rs : List LineInfo) → first_covering q rs ≡ option_or (first_covering q (all_but_last rs)) (if_covers q (last_of rs))
  by_last [] = refl
  by_last (r ∷ []) = refl
  by_last (r ∷ (s ∷ rs)) =
      ap (λ (o : Option LineInfo). cond (line_covers q r) (Some r) o) (by_last (s ∷ rs))
      ∙ first_else (line_covers q r) r (first_covering q (all_but_last (s ∷ rs))) (if_covers q (last_of (s ∷ rs)))

  -- ---- a mark comes

  stands_front : (p : PdbInternalSectionOffset) (rs : List LineInfo) → first_covering q (all_but_last (stepped (stands p) rs)) ≡ first_covering q (all_but_last rs)
  stands_front p rs = ap (λ (xs : List LineInfo). first_covering q (all_but_last xs)) (append-nil (noted p rs)) ∙ ap (first_covering q) (noted_front p rs)

  begins_front : (p : PdbInternalSectionOffset) (l : Line) (rs : List LineInfo) → first_covering q (all_but_last (stepped (begins p l) rs)) ≡ option_or (first_covering q (all_but_last rs)) (if_covers q (option_map (nearer p) (last_of rs)))
  begins_front p l rs =
      ap (first_covering q) (front_of (noted p rs) (line_info p l None))
      ∙ (by_last (noted p rs)
      ∙ (ap (λ (xs : List LineInfo). option_or (first_covering q xs) (if_covers q (last_of (noted p rs)))) (noted_front p rs)
      ∙ ap (λ (o : Option LineInfo). option_or (first_covering q (all_but_last rs)) (if_covers q o)) (noted_last p rs)))

  -- what was found stays
  stays : (x : Mark) (rs : List LineInfo) (r : LineInfo) → first_covering q (all_but_last rs) ≡ Some r → first_covering q (all_but_last (stepped x rs)) ≡ Some r
  stays (stands p) rs r e = stands_front p rs ∙ e
  stays (begins p l) rs r e = begins_front p l rs ∙ ap (λ (o : Option LineInfo). option_or o (if_covers q (option_map (nearer p) (last_of rs)))) e

  pub stays_after : (xs : List Mark) (rs : List LineInfo) (r : LineInfo) → first_covering q (all_but_last rs) ≡ Some r → first_covering q (all_but_last (after rs xs)) ≡ Some r
  stays_after [] rs r e = e
  stays_after (x ∷ xs) rs r e = stays_after xs (stepped x rs) r (stays x rs r e)

  -- also behind the entries that are left
  pub stays_to_end : (f : Entry → Mark) (es : List Entry) (n : ℕ) (rs : List LineInfo) (r : LineInfo) → first_covering q (all_but_last (after rs (map f (take n es)))) ≡ Some r → first_covering q (all_but_last (after rs (map f es))) ≡ Some r
  stays_to_end f es n rs r e =
      let whole : map f (take n es) ++ map f (drop n es) ≡ map f es = sym (map-append f (take n es) (drop n es)) ∙ ap (map f) (take-append-drop n es) in
      ap (λ (ms : List Mark). first_covering q (all_but_last (after rs ms))) (sym whole)
      ∙ (ap (λ (xs : List LineInfo). first_covering q (all_but_last xs)) (after_append rs (map f (take n es)) (map f (drop n es)))
      ∙ stays_after (map f (drop n es)) (after rs (map f (take n es))) r e)

  pub found_whole : (rs : List LineInfo) (r : LineInfo) → first_covering q (all_but_last rs) ≡ Some r → first_covering q rs ≡ Some r
  found_whole rs r e = by_last rs ∙ ap (λ (o : Option LineInfo). option_or o (if_covers q (last_of rs))) e

  -- ---- a turn of the search

  module _ (rs : List LineInfo) (last : Option Begun) (s : IsSearched q rs last) (p : PdbInternalSectionOffset) (l : Line) where
    marks_by : (b : Bool) → is_marker l.flags ≡ b → mark_at p l ≡ cond b (stands p) (begins p l)
    marks_by b e = ap (λ (b : Bool). cond b (stands p) (begins p l)) e

    pub at_marker : (next : Option Begun) → is_marker l.flags ≡ true → option_map begun_line next ≡ option_map (nearer p) (option_map begun_line last) → IsSearched q (stepped (mark_at p l) rs) next
    at_marker next m e = record {
      none = ap (λ (x : Mark). first_covering q (all_but_last (stepped x rs))) (marks_by true m) ∙ (stands_front p rs ∙ s.none);
      is_last = ap (λ (x : Mark). last_of (stepped x rs)) (marks_by true m) ∙ (ap last_of (append-nil (noted p rs)) ∙ (noted_last p rs ∙ (ap (option_map (nearer p)) s.is_last ∙ sym e)));
    }

    closed : is_marker l.flags ≡ false → first_covering q (all_but_last (stepped (mark_at p l) rs)) ≡ if_covers q (option_map (nearer p) (option_map begun_line last))
    closed m =
        ap (λ (x : Mark). first_covering q (all_but_last (stepped x rs))) (marks_by false m)
        ∙ (begins_front p l rs
        ∙ (ap (λ (o : Option LineInfo). option_or o (if_covers q (option_map (nearer p) (last_of rs)))) s.none
        ∙ ap (λ (o : Option LineInfo). if_covers q (option_map (nearer p) o)) s.is_last))

    pub at_record : is_marker l.flags ≡ false → if_covers q (option_map (nearer p) (option_map begun_line last)) ≡ None → IsSearched q (stepped (mark_at p l) rs) (Some (record { place = p; line = l; length = None }))
    at_record m e = record {
      none = closed m ∙ e;
      is_last = ap (λ (x : Mark). last_of (stepped x rs)) (marks_by false m) ∙ end_of (noted p rs) (line_info p l None);
    }

    pub at_found : (b : Begun) → is_marker l.flags ≡ false → option_map (nearer p) (option_map begun_line last) ≡ Some (begun_line b) → line_covers q (begun_line b) ≡ true → first_covering q (all_but_last (stepped (mark_at p l) rs)) ≡ Some (begun_line b)
    at_found b m e c = closed m ∙ (ap (if_covers q) e ∙ ap (λ (t : Bool). cond t (Some (begun_line b)) None) c)

  -- the end comes
  pub at_end : (rs : List LineInfo) (last : Option Begun) → IsSearched q rs last → (p : PdbInternalSectionOffset) (next : Option Begun) → option_map begun_line next ≡ option_map (nearer p) (option_map begun_line last) → first_covering q (stepped (stands p) rs) ≡ if_covers q (option_map begun_line next)
  at_end rs last s p next e =
      by_last (stepped (stands p) rs)
      ∙ (ap (λ (o : Option LineInfo). option_or o (if_covers q (last_of (stepped (stands p) rs)))) (stands_front p rs ∙ s.none)
      ∙ ap (if_covers q) (ap last_of (append-nil (noted p rs)) ∙ (noted_last p rs ∙ (ap (option_map (nearer p)) s.is_last ∙ sym e))))
