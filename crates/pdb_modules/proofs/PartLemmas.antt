-- The entries of a subsection come one after another, and then its end.
use Rattle.std.proofs.Common.{◌≡◌, ℕ, ◌+◌, ◌<◌, ◌%◌, ◌^◌, List, [], ◌∷◌, ◌++◌, map, length, get_or, take, sym, ap, ◌∙◌, append_assoc}
use Rattle.std.proofs.lemmas.List.{append-nil, map_more}
use Rattle.pdb_base.specs.declared.index.PdbInternalSectionOffset.{PdbInternalSectionOffset}
use Rattle.pdb_modules.specs.declared.line.Entry.{Entry}
use Rattle.pdb_modules.specs.declared.line_info.LineInfo.{LineInfo}
use Rattle.pdb_modules.specs.Lines.{Mark, stands, behind, mark_at, entry_mark, records}
use Rattle.pdb_modules.specs.KeptRows.{noted, noted_from, stepped, stepped_from, after}
use Rattle.pdb_modules.proofs.Reaching.{after_more, stepped_behind}

pub same_place : (p q : PdbInternalSectionOffset) (n : ℕ) → q.section ≡ p.section → q.offset ≡ (p.offset + n) % 2 ^ 32 → q ≡ behind p n
same_place p q n s e = λ i. record { offset = e i; section = s i }

-- one more entry
module _ (p q : PdbInternalSectionOffset) (entries : List Entry) (i : ℕ) (x d : Entry) (x_is : x ≡ get_or entries i d) (s : q.section ≡ p.section) (e : q.offset ≡ (p.offset + x.offset) % 2 ^ 32) (l : i < length entries) where
  abbrev so_far : List Mark
  so_far = map (entry_mark p) (take i entries)

  abbrev next_mark : Mark
  next_mark = entry_mark p (get_or entries i d)

  mark_is : mark_at q x.line ≡ next_mark
  mark_is = ap (λ (q : PdbInternalSectionOffset). mark_at q x.line) (same_place p q x.offset s e) ∙ ap (entry_mark p) x_is

  one_more : so_far ++ next_mark ∷ [] ≡ map (entry_mark p) (take (i + 1) entries)
  one_more = sym (map_more (entry_mark p) entries i d l)

  pub entry_whole : (rs now next : List LineInfo) → now ≡ after rs so_far → next ≡ stepped (mark_at q x.line) now → next ≡ after rs (map (entry_mark p) (take (i + 1) entries))
  entry_whole rs now next h is =
      is ∙ (ap (λ (m : Mark). stepped m now) mark_is ∙ (ap (stepped next_mark) h ∙ (sym (after_more rs so_far next_mark) ∙ ap (after rs) one_more)))

  pub entry_own : (done now next : List LineInfo) (ms : List Mark) (n : ℕ) → length done ≡ n → now ≡ done ++ records (ms ++ so_far) → next ≡ stepped_from n (mark_at q x.line) now → next ≡ done ++ records (ms ++ map (entry_mark p) (take (i + 1) entries))
  entry_own done now next ms n k h is =
      is ∙ (ap (λ (m : Mark). stepped_from n m now) mark_is ∙ (ap (stepped_from n next_mark) h ∙ (stepped_behind n done (ms ++ so_far) next_mark k
      ∙ (ap (λ (ms : List Mark). done ++ records ms) (append_assoc ms so_far (next_mark ∷ [])) ∙ ap (λ (ns : List Mark). done ++ records (ms ++ ns)) one_more))))

-- the end
module _ (p q : PdbInternalSectionOffset) (code_size : ℕ) (s : q.section ≡ p.section) (e : q.offset ≡ (p.offset + code_size) % 2 ^ 32) where
  end_is : stands q ≡ stands (behind p code_size)
  end_is = ap stands (same_place p q code_size s e)

  pub end_whole : (rs now next : List LineInfo) (ms : List Mark) → now ≡ after rs ms → next ≡ noted q now → next ≡ after rs (ms ++ stands (behind p code_size) ∷ [])
  end_whole rs now next ms h is =
      is ∙ (sym (append-nil (noted q now)) ∙ (ap (λ (m : Mark). stepped m now) end_is ∙ (ap (stepped (stands (behind p code_size))) h
      ∙ sym (after_more rs ms (stands (behind p code_size))))))

  pub end_own : (done now next : List LineInfo) (ms : List Mark) (n : ℕ) → length done ≡ n → now ≡ done ++ records ms → next ≡ noted_from n q now → next ≡ done ++ records (ms ++ stands (behind p code_size) ∷ [])
  end_own done now next ms n k h is =
      is ∙ (sym (append-nil (noted_from n q now)) ∙ (ap (λ (m : Mark). stepped_from n m now) end_is ∙ (ap (stepped_from n (stands (behind p code_size))) h
      ∙ stepped_behind n done ms (stands (behind p code_size)) k)))
