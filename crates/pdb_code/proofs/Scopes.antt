-- The symbols of a procedure's scope: indices rise, so those between it and its end stand behind it, up to the first that is not.
use Rattle.std.proofs.Common.{◌≡◌, ℕ, zero, suc, ◌+◌, ◌<◌, ◌≤◌, ◌&&◌, Bool, true, false, cond, List, [], ◌∷◌, ◌++◌, length, drop, map, get_or, Option, Some, None, refl, sym, ap, ◌∙◌, append_assoc, leb, arith}
use Rattle.std.specs.Prelude.{find, filter_map, nat_lt}
use Rattle.std.specs.List.{cons_option}
use Rattle.std.specs.Option.{option_to_list}
use Rattle.std.proofs.lemmas.Bool.{leb-true, leb-false, ltb-false, lt-ltb, le-ltb}
use Rattle.std.proofs.lemmas.List.{drop_more}
use Rattle.std.proofs.lemmas.List.Sorted.{IsPartitionedBy-leb}
use Rattle.std.specs.List.Sorted.{IsPartitionPoint, IsPartitionedBy}
use Rattle.pdb.specs.PdbInternalSectionOffset.{PdbInternalSectionOffset}
use Rattle.pdb.specs.Forms.{record_at}
use Rattle.pdb.specs.Inlinees.{InlineeEntry}
use Rattle.pdb.specs.SymbolList.{Entry}
use Rattle.pdb_places.specs.Pieces.{Code, index_of}
use Rattle.pdb_code.specs.ModuleCode.{Role, role, procedure_of_role, procedure_of, Call, call_of_role, between, call_in}
use Rattle.pdb_code.specs.ModuleCode.Role.{at_procedure, at_other, at_site, passed}
use Rattle.pdb_code.specs.declared.site.KeptSite.{KeptSite}
use Rattle.pdb_code.specs.Listed.{entry_of}
use Rattle.pdb_code.specs.Kept.{calls_until, site_if, site_of, place_of, AreRising, IsBehind}
use Rattle.pdb_places.proofs.RisingSymbols.{Above, Rises, above_more}

-- ---- a procedure that is found stands somewhere in the list

pub record Stands (of : Entry → Option Code) (ss : List Entry) (c : Code) : Type 0 where
  pub before : List Entry
  pub symbol : Entry
  pub after : List Entry
  pub whole : ss ≡ before ++ symbol ∷ after
  pub says : of symbol ≡ Some c

stands_later : (of : Entry → Option Code) (s : Entry) (ss : List Entry) (c : Code) → Stands of ss c → Stands of (s ∷ ss) c
stands_later of s ss c h = record { before = s ∷ h.before; symbol = h.symbol; after = h.after; whole = ap (λ (l : List Entry). s ∷ l) h.whole; says = h.says }

stands_by : (of : Entry → Option Code) (test : Code → Bool) (s : Entry) (ss : List Entry) (c d : Code) (t : Bool) → of s ≡ Some d → (find test (filter_map of ss) ≡ Some c → Stands of ss c) → cond t (Some d) (find test (filter_map of ss)) ≡ Some c → Stands of (s ∷ ss) c
stands_by of test s ss c d true says rest e = let same : d ≡ c = cc in record { before = []; symbol = s; after = ss; whole = refl; says = says ∙ ap Some same }
stands_by of test s ss c d false says rest e = stands_later of s ss c (rest e)

abbrev found_in : (Code → Bool) → Option Code → List Code → Option Code
found_in test None cs = find test cs
found_in test (Some d) cs = cond (test d) (Some d) (find test cs)

found_cons : (of : Entry → Option Code) (test : Code → Bool) (s : Entry) (ss : List Entry) (o : Option Code) → of s ≡ o → find test (filter_map of (s ∷ ss)) ≡ found_in test o (filter_map of ss)
found_cons of test s ss None e = rw e refl
found_cons of test s ss (Some d) e = rw e refl

stands_cases : (of : Entry → Option Code) (test : Code → Bool) (s : Entry) (ss : List Entry) (c : Code) (o : Option Code) → of s ≡ o → (find test (filter_map of ss) ≡ Some c → Stands of ss c) → found_in test o (filter_map of ss) ≡ Some c → Stands of (s ∷ ss) c
stands_cases of test s ss c None says rest e = stands_later of s ss c (rest e)
stands_cases of test s ss c (Some d) says rest e = stands_by of test s ss c d (test d) says rest e

pub stands : (of : Entry → Option Code) (test : Code → Bool) (ss : List Entry) (c : Code) → find test (filter_map of ss) ≡ Some c → Stands of ss c
stands of test [] c e = absurd cc
stands of test (s ∷ ss) c e = stands_cases of test s ss c (of s) refl (stands of test ss c) (sym (found_cons of test s ss (of s) refl) ∙ e)

-- what a symbol says that is a procedure
pub record IsProcedure (s : Entry) (c : Code) : Type 0 where
  pub index : c.index ≡ s.index
  pub is : role (record_at s.bytes) ≡ at_procedure c.place c.length c.end

says_by : (s : Entry) (c : Code) (h : Role) → role (record_at s.bytes) ≡ h → procedure_of_role s.index h ≡ Some c → IsProcedure s c
says_by s c (at_procedure place size end) e f =
    let g : record { index = s.index; place = place; length = size; end = end } ≡ c = cc in
    record { index = ap index_of (sym g); is = e ∙ ap (λ (c : Code). at_procedure c.place c.length c.end) g }
says_by s c (at_other place size end) e f = absurd cc
says_by s c (at_site id annotations) e f = absurd cc
says_by s c passed e f = absurd cc

pub is_procedure : (s : Entry) (c : Code) → procedure_of s ≡ Some c → IsProcedure s c
is_procedure s c e = says_by s c (role (record_at s.bytes)) refl e

-- ---- the calls

module _ (q : PdbInternalSectionOffset) (listed : ℕ → Option InlineeEntry) (c : Code) where
  outside : (t : Entry) → between q listed c t ≡ false → call_in q listed c t ≡ None
  outside t e = ap (λ (b : Bool). cond b (call_of_role q listed c.place (role (record_at t.bytes))) None) e

  first_false : (a b : Bool) → a ≡ false → (a && b) ≡ false
  first_false true b e = absurd cc
  first_false false b e = refl

  second_false : (a b : Bool) → b ≡ false → (a && b) ≡ false
  second_false true b e = e
  second_false false b e = refl

  -- a symbol that doesn't stand behind the procedure
  not_behind : (t : Entry) → t.index ≤ c.index → call_in q listed c t ≡ None
  not_behind t l = outside t (first_false (nat_lt c.index t.index) (nat_lt t.index c.end) (le-ltb c.index t.index l))

  -- one that stands at its end or behind it
  not_before : (t : Entry) → c.end ≤ t.index → call_in q listed c t ≡ None
  not_before t l = outside t (second_false (nat_lt c.index t.index) (nat_lt t.index c.end) (le-ltb t.index c.end l))

  none_more : (t : Entry) (ts : List Entry) → call_in q listed c t ≡ None → filter_map (call_in q listed c) (t ∷ ts) ≡ filter_map (call_in q listed c) ts
  none_more t ts e = rw e refl

  none_behind : (ts : List Entry) (n : ℕ) → c.end ≤ n → Above n ts → filter_map (call_in q listed c) ts ≡ []
  none_behind [] n l h = refl
  none_behind (t ∷ ts) n l h = none_more t ts (not_before t (let a = h.0 in omega arith)) ∙ none_behind ts n l h.1

  within : (t : Entry) (ts : List Entry) (b : Bool) → nat_lt t.index c.end ≡ b → c.index < t.index → Above t.index ts
      → filter_map (call_in q listed c) ts ≡ calls_until q listed c.place c.end ts
      → filter_map (call_in q listed c) (t ∷ ts) ≡ cond b (option_to_list (call_of_role q listed c.place (role (record_at t.bytes))) ++ calls_until q listed c.place c.end ts) []
  within t ts true e behind h rest = cons_by (call_of_role q listed c.place (role (record_at t.bytes))) is ∙ ap (λ (l : List Call). option_to_list (call_of_role q listed c.place (role (record_at t.bytes))) ++ l) rest
    where
      is : call_in q listed c t ≡ call_of_role q listed c.place (role (record_at t.bytes))
      is = ap (λ (b : Bool). cond (b && nat_lt t.index c.end) (call_of_role q listed c.place (role (record_at t.bytes))) None) (lt-ltb c.index t.index behind)
          ∙ ap (λ (b : Bool). cond b (call_of_role q listed c.place (role (record_at t.bytes))) None) e

      cons_by : (o : Option Call) → call_in q listed c t ≡ o → filter_map (call_in q listed c) (t ∷ ts) ≡ option_to_list o ++ filter_map (call_in q listed c) ts
      cons_by None f = rw f refl
      cons_by (Some x) f = rw f refl
  within t ts false e behind h rest =
      none_more t ts (not_before t (ltb-false t.index c.end e)) ∙ none_behind ts t.index (ltb-false t.index c.end e) h

  until : (ts : List Entry) → Above c.index ts → Rises ts → filter_map (call_in q listed c) ts ≡ calls_until q listed c.place c.end ts
  until [] a r = refl
  until (t ∷ ts) a r = within t ts (nat_lt t.index c.end) refl a.0 r.0 (until ts a.1 r.1)

  -- ---- of sites alone

  silent : (b : Bool) (o : Option Call) → o ≡ None → cond b o None ≡ None
  silent true o f = f
  silent false o f = refl

  silent_at : (t : Entry) (h : Role) → role (record_at t.bytes) ≡ h → call_of_role q listed c.place h ≡ None → call_in q listed c t ≡ None
  silent_at t h e f =
      ap (λ (x : Role). cond (between q listed c t) (call_of_role q listed c.place x) None) e
      ∙ silent (between q listed c t) (call_of_role q listed c.place h) f

  enough_by : (t : Entry) (ts : List Entry) (h : Role) → role (record_at t.bytes) ≡ h
      → filter_map (call_in q listed c) ts ≡ filter_map (call_in q listed c) (filter_map site_of ts)
      → filter_map (call_in q listed c) (t ∷ ts) ≡ filter_map (call_in q listed c) (cons_option (site_if t h) (filter_map site_of ts))
  enough_by t ts (at_site id annotations) e rest = ap (λ (l : List Call). cons_option (call_in q listed c t) l) rest
  enough_by t ts (at_procedure place size end) e rest = none_more t ts (silent_at t (at_procedure place size end) e refl) ∙ rest
  enough_by t ts (at_other place size end) e rest = none_more t ts (silent_at t (at_other place size end) e refl) ∙ rest
  enough_by t ts passed e rest = none_more t ts (silent_at t passed e refl) ∙ rest

  -- what isn't a site has no call
  pub enough : (ts : List Entry) → filter_map (call_in q listed c) ts ≡ filter_map (call_in q listed c) (filter_map site_of ts)
  enough [] = refl
  enough (t ∷ ts) = enough_by t ts (role (record_at t.bytes)) refl (enough ts)

  -- of symbols whose indices rise, the calls are those of the ones behind the procedure
  pub behind_calls : (ss : List KeptSite) (n : ℕ) → Rises (map entry_of ss) → IsBehind c.index ss n
      → filter_map (call_in q listed c) (map entry_of ss) ≡ calls_until q listed c.place c.end (map entry_of (drop n ss))
  behind_calls [] zero r h = refl
  behind_calls [] (suc n) r h = let i = h.inside in absurd (omega arith)
  behind_calls (s ∷ ss) zero r h =
      let b = h.behind 0 s (omega arith) (omega arith) in
      until (entry_of s ∷ map entry_of ss) (b, above_more c.index (entry_of s).index (map entry_of ss) (omega arith) r.0) r
  behind_calls (s ∷ ss) (suc n) r h =
      none_more (entry_of s) (map entry_of ss) (not_behind (entry_of s) (h.upto 0 s (omega arith))) ∙ behind_calls ss n r.1 (later h)
    where
      later : IsBehind c.index (s ∷ ss) (suc n) → IsBehind c.index ss n
      later h = record {
        inside = (let i = h.inside in omega arith);
        upto = λ k d l. h.upto (suc k) d (omega arith);
        behind = λ k d l m. h.behind (suc k) d (omega arith) (omega arith);
      }

-- ---- one more symbol

options_more : {A : Type 0} (o : Option A) (ts : List A) → cons_option o ts ≡ option_to_list o ++ ts
options_more None ts = refl
options_more (Some t) ts = refl

pub one_more_shown : {X A : Type 0} (f : X → A) (of : Entry → Option A) (s : Entry) (old new : List Entry) (rs ss : List X) (all : List A)
    → old ≡ s ∷ new → map f ss ≡ map f rs ++ option_to_list (of s)
    → map f rs ++ filter_map of old ≡ all
    → map f ss ++ filter_map of new ≡ all
one_more_shown f of s old new rs ss all follows added before =
    ap (λ l. l ++ filter_map of new) added
    ∙ (append_assoc (map f rs) (option_to_list (of s)) (filter_map of new)
    ∙ (ap (λ l. map f rs ++ l) (sym (options_more (of s) (filter_map of new)))
    ∙ (ap (λ (l : List Entry). map f rs ++ filter_map of l) (sym follows)
    ∙ before)))

-- ---- one more site

pub one_more_call : (q : PdbInternalSectionOffset) (listed : ℕ → Option InlineeEntry) (parent : PdbInternalSectionOffset) (end : ℕ) (sites : List KeptSite) (i : ℕ) (s : KeptSite) (old new all : List Call)
    → i < length sites → get_or sites i s ≡ s → (entry_of s).index < end
    → new ≡ old ++ option_to_list (call_of_role q listed parent (role (record_at (entry_of s).bytes)))
    → old ++ calls_until q listed parent end (map entry_of (drop i sites)) ≡ all
    → new ++ calls_until q listed parent end (map entry_of (drop (i + 1) sites)) ≡ all
one_more_call q listed parent end sites i s old new all l same below added before =
    let call = option_to_list (call_of_role q listed parent (role (record_at (entry_of s).bytes))) in
    let rest = calls_until q listed parent end (map entry_of (drop (i + 1) sites)) in
    let head : drop i sites ≡ s ∷ drop (i + 1) sites = drop_more sites i s l ∙ ap (λ (x : KeptSite). x ∷ drop (i + 1) sites) same in
    let turn : calls_until q listed parent end (map entry_of (drop i sites)) ≡ call ++ rest =
    ap (λ (ss : List KeptSite). calls_until q listed parent end (map entry_of ss)) head ∙ ap (λ (b : Bool). cond b (call ++ rest) []) (lt-ltb (entry_of s).index end below) in
    ap (λ (l : List Call). l ++ rest) added ∙ (append_assoc old call rest ∙ (ap (λ (l : List Call). old ++ l) (sym turn) ∙ before))

-- ---- the indices of sites rise

above_by : (n : ℕ) (t : Entry) (ts : List Entry) (h : Role) → n < t.index → Above n (filter_map site_of ts) → Above n (cons_option (site_if t h) (filter_map site_of ts))
above_by n t ts (at_site id annotations) l rest = (l, rest)
above_by n t ts (at_procedure place size end) l rest = rest
above_by n t ts (at_other place size end) l rest = rest
above_by n t ts passed l rest = rest

above_sites : (n : ℕ) (ts : List Entry) → Above n ts → Above n (filter_map site_of ts)
above_sites n [] a = tt
above_sites n (t ∷ ts) a = above_by n t ts (role (record_at t.bytes)) a.0 (above_sites n ts a.1)

rises_by : (t : Entry) (ts : List Entry) (h : Role) → Above t.index (filter_map site_of ts) → Rises (filter_map site_of ts) → Rises (cons_option (site_if t h) (filter_map site_of ts))
rises_by t ts (at_site id annotations) a r = (a, r)
rises_by t ts (at_procedure place size end) a r = r
rises_by t ts (at_other place size end) a r = r
rises_by t ts passed a r = r

pub rises_sites : (ts : List Entry) → Rises ts → Rises (filter_map site_of ts)
rises_sites [] r = tt
rises_sites (t ∷ ts) r = rises_by t ts (role (record_at t.bytes)) (above_sites t.index ts r.0) (rises_sites ts r.1)

above_there : (n : ℕ) (ss : List KeptSite) (j : ℕ) (d : KeptSite) → Above n (map entry_of ss) → j < length ss → n < place_of (get_or ss j d)
above_there n [] j d a l = absurd (omega arith)
above_there n (s ∷ ss) zero d a l = a.0
above_there n (s ∷ ss) (suc j) d a l = above_there n ss j d a.1 (omega arith)

pub rising : (ss : List KeptSite) → Rises (map entry_of ss) → AreRising ss
rising [] r i j d m l = absurd (omega arith)
rising (s ∷ ss) r zero zero d m l = omega arith
rising (s ∷ ss) r zero (suc j) d m l = let a = above_there (place_of s) ss j d r.0 (omega arith) in omega arith
rising (s ∷ ss) r (suc i) zero d m l = absurd (omega arith)
rising (s ∷ ss) r (suc i) (suc j) d m l = rising ss r.1 i j d (omega arith) (omega arith)

-- ---- the procedures rise, and so one that is found is the first of its index

abbrev pub AboveCode : ℕ → List Code → Type 0
AboveCode n [] = Unit {0}
AboveCode n (c ∷ cs) = (n < c.index) × AboveCode n cs

abbrev pub CodesRise : List Code → Type 0
CodesRise [] = Unit {0}
CodesRise (c ∷ cs) = AboveCode c.index cs × CodesRise cs

above_code : (n : ℕ) (t : Entry) (ts : List Entry) (h : Role) → n < t.index → AboveCode n (filter_map procedure_of ts) → AboveCode n (cons_option (procedure_of_role t.index h) (filter_map procedure_of ts))
above_code n t ts (at_site id annotations) l rest = rest
above_code n t ts (at_procedure place size end) l rest = (l, rest)
above_code n t ts (at_other place size end) l rest = rest
above_code n t ts passed l rest = rest

above_codes : (n : ℕ) (ts : List Entry) → Above n ts → AboveCode n (filter_map procedure_of ts)
above_codes n [] a = tt
above_codes n (t ∷ ts) a = above_code n t ts (role (record_at t.bytes)) a.0 (above_codes n ts a.1)

codes_by : (t : Entry) (ts : List Entry) (h : Role) → AboveCode t.index (filter_map procedure_of ts) → CodesRise (filter_map procedure_of ts) → CodesRise (cons_option (procedure_of_role t.index h) (filter_map procedure_of ts))
codes_by t ts (at_site id annotations) a r = r
codes_by t ts (at_procedure place size end) a r = (a, r)
codes_by t ts (at_other place size end) a r = r
codes_by t ts passed a r = r

pub codes_rise : (ts : List Entry) → Rises ts → CodesRise (filter_map procedure_of ts)
codes_rise [] r = tt
codes_rise (t ∷ ts) r = codes_by t ts (role (record_at t.bytes)) (above_codes t.index ts r.0) (codes_rise ts r.1)

-- ---- those at or before an index

pub upto_point : (ss : List KeptSite) (index n : ℕ) → AreRising ss → n ≤ length ss
    → (IsPartitionedBy (λ s. leb (place_of s) index) ss → IsPartitionPoint (λ s. leb (place_of s) index ≡ true) (λ s. leb (place_of s) index ≡ false) ss n)
    → IsBehind index ss n
upto_point ss index n up inside by_point =
    let point = by_point (IsPartitionedBy-leb place_of ss index up) in record {
      inside = inside;
      upto = λ k d l. leb-true (place_of (get_or ss k d)) index (point.0 k d (omega arith) l);
      behind = λ k d l m. leb-false (place_of (get_or ss k d)) index (point.1 k d l m);
    }
