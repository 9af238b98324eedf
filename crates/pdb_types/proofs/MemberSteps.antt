-- What one step of an iterator over members shows.
use Rattle.std.specs.Prelude.{◌==◌, ◌&&◌, nat_lt}
use Rattle.std.proofs.Common.{◌≡◌, ℕ, zero, suc, ◌+◌, ◌-◌, ◌*◌, ◌^◌, ◌<◌, ◌≤◌, Bool, true, false, cond, option_map, List, [], ◌∷◌, ◌++◌, length, Option, Some, None, Result, Ok, Err, refl, sym, ap, ◌∙◌, arith}
use Rattle.std.proofs.lemmas.Bool.{ltb-true}
use Rattle.std.proofs.lemmas.List.{length-append}
use Rattle.pdb_base.specs.declared.error.Error.{Error}
use Rattle.pdb_base.specs.declared.error.Error.TheVariants.{UnexpectedEof}
use Rattle.pdb_base.specs.Fields.{number_at, bytes_at}
use Rattle.pdb_base.specs.Left.{Left, Follows, Ends, ended}
use Rattle.pdb_base.specs.Reading.{given}
use Rattle.pdb_base.specs.Tiling.{IsInside, listing}
use Rattle.pdb_base.proofs.Places.{bind_ok, slice_is}
use Rattle.pdb_base.proofs.Tilings.{few, gives_item, gives_fault, listing_end}
use Rattle.pdb_items.specs.Items.{ItemEntry, item_with}
use Rattle.pdb_items.specs.Ids.{kind_at}
use Rattle.pdb_types.specs.MemberSays.{MemberSays, EntrySays}
use Rattle.pdb_types.specs.MemberSays.EntrySays.{Says, GoesOn}
use Rattle.pdb_types.specs.MemberSays.MemberSays.{More, Endless}
use Rattle.pdb_types.specs.MemberRows.{FoundEntry, MemberForm, entry_at, entry_of, fields_at, fields_width, member_form_of, padded, padding_at}
use Rattle.pdb_types.specs.MemberLists.{entries, entries_of, goes_on, list_bytes, member_in, members_by, members_from, members_in, named_by, only, rest_behind, was_read}

-- ---- entries

padded_inside : (b : List ℕ) (q : ℕ) (y : EntrySays) (x : FoundEntry) → padded b q y ≡ Ok x → (q ≤ x.end) × (x.end ≤ length b)
padded_inside b q y x e =
    let (s, there, rest) = bind_ok (bytes_at b q (padding_at b q)) (λ s. Ok (record { entry = y; end = q + padding_at b q })) x e in
    let is : record { entry = y; end = q + padding_at b q } ≡ x = cc in
    let slice = slice_is b q (padding_at b q) s there in
    rw (← is) (omega arith, slice.there)

fields_inside : (f : Option MemberForm) (b : List ℕ) (i : ℕ) (x : FoundEntry) → entry_of f b i ≡ Ok x → (i ≤ x.end) × (x.end ≤ length b)
fields_inside f b i x e =
    let (y, there, rest) = bind_ok (fields_at f b i) (λ y. padded b (i + fields_width f b i) y) x e in
    let within = padded_inside b (i + fields_width f b i) y x rest in
    (omega (arith, within), within.1)

-- an entry takes some bytes
pub entry_inside : (b : List ℕ) (p : ℕ) (x : FoundEntry) → entry_at b p ≡ Ok x → (p < x.end) × (x.end ≤ length b)
unfolding entry_at
entry_inside b p x e =
    let (kind, there, rest) = bind_ok (number_at b p 2) (λ kind. entry_of (member_form_of kind) b (p + 2)) x e in
    let within = fields_inside (member_form_of kind) b (p + 2) x rest in
    (omega (arith, within), within.1)

piece_is : (p k : ℕ) (r : Result FoundEntry Error) → option_map (λ (x : FoundEntry). x.end - p) (given r) ≡ Some k → (x : FoundEntry) × (r ≡ Ok x) × (x.end - p ≡ k)
piece_is p k (Ok x) e = (x, refl, cc)
piece_is p k (Err d) e = absurd cc

pub entries_inside : IsInside entries
entries_inside = record {
  inside = λ b p k e.
      let (x, there, ends) = piece_is p k (entry_at b p) e in
      let within = entry_inside b p x there in
      rw (← ends) (omega (arith, within), omega (arith, within));
}

pub entry_first : (b : List ℕ) (p : ℕ) (x : FoundEntry) → entry_at b p ≡ Ok x → Follows (listing entries b p) (x.entry ∷ []) (listing entries b x.end)
entry_first b p x there =
    let within = entry_inside b p x there in
    let piece : entries.piece b p ≡ Some (x.end - p) = rw there refl in
    let item : entries.item b p (x.end - p) ≡ Some x.entry = rw there refl in
    gives_item entries entries_inside (λ (y : EntrySays). y) b p x.entry x.end (within.0, within.1, piece, item)

-- ---- lists

by_member : (more : Option ℕ → Left MemberSays) (list : Option ℕ) (old new : Left EntrySays) (y : EntrySays) (m : MemberSays) → Follows old (y ∷ []) new → Some m ≡ member_in y → Follows (members_by more list old) (m ∷ []) (members_by more (named_by list y) new)
by_member more list old new y m h is = rw (h.0, h.1, ← is) (refl, refl)

by_list : (more : Option ℕ → Left MemberSays) (list : Option ℕ) (old new : Left EntrySays) (y : EntrySays) → Follows old (y ∷ []) new → None ≡ member_in y → members_by more (named_by list y) new ≡ members_by more list old
by_list more list old new y h is = rw (h.0, h.1, ← is) refl

nothing : (types : List ItemEntry) (read : List ℕ) (lists : ℕ) → members_from types read lists None ≡ ended
unfolding members_from
nothing types read zero = refl
nothing types read (suc n) = refl

only_more : (types : List ItemEntry) (read : List ℕ) (i n : ℕ) → was_read read i ≡ false → n ≡ 0 → members_from types read n (Some i) ≡ only More
unfolding members_from
only_more types read i zero new e = rw new refl
only_more types read i (suc n) new e = absurd (omega arith)

only_endless : (types : List ItemEntry) (read : List ℕ) (i n : ℕ) → was_read read i ≡ true → members_from types read n (Some i) ≡ only Endless
unfolding members_from
only_endless types read i zero old = rw old refl
only_endless types read i (suc n) old = rw old refl

goes_on_with : (types : List ItemEntry) (read : List ℕ) (i n : ℕ) → was_read read i ≡ false → 0 < n → members_from types read n (Some i) ≡ members_by (members_from types (read ++ (i ∷ [])) (n - 1)) None (entries_of (list_bytes (item_with types i)))
unfolding members_from
goes_on_with types read i zero new some = absurd (omega arith)
goes_on_with types read i (suc n) new some = let same : suc n - 1 ≡ n = omega arith in rw (same, new) refl

-- behind the last entry of a list
at_end : (more : Option ℕ → Left MemberSays) (list : Option ℕ) (b : List ℕ) (p : ℕ) → length b ≤ p → members_by more list (listing entries b p) ≡ more list
at_end more list b p past = ap (members_by more list) (listing_end entries b p past)

no_more : (types : List ItemEntry) (read : List ℕ) (lists : ℕ) (b : List ℕ) (p : ℕ) → length b ≤ p → members_by (members_from types read lists) None (listing entries b p) ≡ ended
no_more types read lists b p past = at_end (members_from types read lists) None b p past ∙ nothing types read lists

pub nothing_read : (types : List ItemEntry) (read : List ℕ) (lists : ℕ) (list : Option ℕ) → members_by (members_from types read lists) list (listing entries [] 0) ≡ members_from types read lists list
nothing_read types read lists list = at_end (members_from types read lists) list [] 0 (omega arith)

-- ---- steps

module _ (types : List ItemEntry) (read : List ℕ) (lists : ℕ) (b : List ℕ) (p : ℕ) where
  pub member_left : (list : Option ℕ) (x : FoundEntry) (m : MemberSays) → entry_at b p ≡ Ok x → Some m ≡ member_in x.entry → Follows (members_by (members_from types read lists) list (listing entries b p)) (m ∷ []) (members_by (members_from types read lists) (named_by list x.entry) (listing entries b x.end))
  member_left list x m there is = by_member (members_from types read lists) list (listing entries b p) (listing entries b x.end) x.entry m (entry_first b p x there) is

  pub list_left : (list : Option ℕ) (x : FoundEntry) → entry_at b p ≡ Ok x → None ≡ member_in x.entry → members_by (members_from types read lists) (named_by list x.entry) (listing entries b x.end) ≡ members_by (members_from types read lists) list (listing entries b p)
  list_left list x there is = by_list (members_from types read lists) list (listing entries b p) (listing entries b x.end) x.entry (entry_first b p x there) is

  pub fault_left : (list : Option ℕ) (e : Error) → p < length b → entry_at b p ≡ Err e → Ends (members_by (members_from types read lists) list (listing entries b p)) [] (Some e) (members_by (members_from types read lists) None (listing entries b (length b)))
  fault_left list e inside there =
      let piece : entries.piece b p ≡ None = rw there refl in
      let fault : entries.fault b p ≡ Some e = rw there refl in
      let left = gives_fault entries (λ (y : EntrySays). y) b p e 0 inside (piece, fault) in
      rw left (refl, refl, no_more types read lists b (length b) (omega arith))

  pub end_left : length b ≤ p → Ends (members_by (members_from types read lists) None (listing entries b p)) [] None (members_by (members_from types read lists) None (listing entries b p))
  end_left past = let left = no_more types read lists b p past in (ap (λ (l : Left MemberSays). l.items) left, ap (λ (l : Left MemberSays). l.fault) left, left)

  last_left : (m : MemberSays) (i : ℕ) → length b ≤ p → members_from types read lists (Some i) ≡ only m → Follows (members_by (members_from types read lists) (Some i) (listing entries b p)) (m ∷ []) (members_by (members_from types read lists) None (listing entries b p))
  last_left m i past is =
      let left = at_end (members_from types read lists) (Some i) b p past ∙ is in
      let rest = sym (no_more types read lists b p past) in
      (ap (λ (l : Left MemberSays). l.items) left ∙ ap (λ (l : Left MemberSays). m ∷ l.items) rest, ap (λ (l : Left MemberSays). l.fault) left ∙ ap (λ (l : Left MemberSays). l.fault) rest)

  pub more_left : (i : ℕ) → length b ≤ p → was_read read i ≡ false → lists ≡ 0 → Follows (members_by (members_from types read lists) (Some i) (listing entries b p)) (More ∷ []) (members_by (members_from types read lists) None (listing entries b p))
  more_left i past new e = last_left More i past (only_more types read i lists new e)

  pub endless_left : (i : ℕ) → length b ≤ p → was_read read i ≡ true → Follows (members_by (members_from types read lists) (Some i) (listing entries b p)) (Endless ∷ []) (members_by (members_from types read lists) None (listing entries b p))
  endless_left i past old = last_left Endless i past (only_endless types read i lists old)

  named : (i : ℕ) → length b ≤ p → was_read read i ≡ false → 0 < lists → members_by (members_from types read lists) (Some i) (listing entries b p) ≡ members_by (members_from types (read ++ (i ∷ [])) (lists - 1)) None (entries_of (list_bytes (item_with types i)))
  named i past new some = at_end (members_from types read lists) (Some i) b p past ∙ goes_on_with types read i lists new some

  pub absent_left : (i : ℕ) → length b ≤ p → was_read read i ≡ false → 0 < lists → list_bytes (item_with types i) ≡ None → Ends (members_by (members_from types read lists) (Some i) (listing entries b p)) [] (Some UnexpectedEof) (members_by (members_from types (read ++ (i ∷ [])) (lists - 1)) None (listing entries b p))
  absent_left i past new some is =
      let left = named i past new some ∙ ap (λ o. members_by (members_from types (read ++ (i ∷ [])) (lists - 1)) None (entries_of o)) is in
      (ap (λ (l : Left MemberSays). l.items) left, ap (λ (l : Left MemberSays). l.fault) left, no_more types (read ++ (i ∷ [])) (lists - 1) b p past)

  pub opened_left : (i : ℕ) (c : List ℕ) → length b ≤ p → was_read read i ≡ false → 0 < lists → list_bytes (item_with types i) ≡ Some c → members_by (members_from types (read ++ (i ∷ [])) (lists - 1)) None (listing entries c 2) ≡ members_by (members_from types read lists) (Some i) (listing entries b p)
  opened_left i c past new some is = sym (named i past new some ∙ ap (λ o. members_by (members_from types (read ++ (i ∷ [])) (lists - 1)) None (entries_of o)) is)

-- ---- how many members there are

few_in : (xs : List EntrySays) → length (members_in xs) ≤ length xs
few_in [] = omega arith
few_in (Says m ∷ xs) = let rest = few_in xs in omega (arith, rest)
few_in (GoesOn list ∷ xs) = let rest = few_in xs in omega (arith, rest)

few_behind : (fault : Option Error) (more : Option ℕ → Left MemberSays) (list : Option ℕ) (n : ℕ) → ((list : Option ℕ) → length (more list).items ≤ n) → length (rest_behind fault more list).items ≤ n
few_behind None more list n h = h list
few_behind (Some e) more list n h = omega arith

few_by : (more : Option ℕ → Left MemberSays) (list : Option ℕ) (left : Left EntrySays) (n : ℕ) → ((list : Option ℕ) → length (more list).items ≤ n) → length (members_by more list left).items ≤ length left.items + n
few_by more list left n h =
    let one = few_in left.items in
    let others = few_behind left.fault more (goes_on list left.items) n h in
    rw (length-append (members_in left.items) (rest_behind left.fault more (goes_on list left.items)).items) (omega (arith, one, others))

small_list : (o : Option ItemEntry) → length (entries_of (list_bytes o)).items ≤ 65536
small_list None = omega arith
small_list (Some x) = small_one (kind_at x.bytes == 0x1203) (nat_lt (length x.bytes) 0x10000) refl
  where
    small_one : (t s : Bool) → nat_lt (length x.bytes) 0x10000 ≡ s → length (entries_of (cond (t && s) (Some x.bytes) None)).items ≤ 65536
    small_one true true e = let less = few entries x.bytes 2 in omega (arith, less, ltb-true (length x.bytes) 0x10000 e)
    small_one true false e = omega arith
    small_one false s e = omega arith

few_if : (t : Bool) (left other : Left MemberSays) (n : ℕ) → length left.items ≤ n → length other.items ≤ n → length (cond t left other).items ≤ n
few_if true left other n one two = one
few_if false left other n one two = two

few_from : (types : List ItemEntry) (read : List ℕ) (n : ℕ) (list : Option ℕ) → length (members_from types read n list).items ≤ n * 65536 + 1
unfolding members_from
few_from types read zero None = omega arith
few_from types read (suc n) None = omega arith
few_from types read zero (Some i) = few_if (was_read read i) (only Endless) (only More) (zero * 65536 + 1) (omega arith) (omega arith)
few_from types read (suc n) (Some i) =
    let here = small_list (item_with types i) in
    let there = few_by (members_from types (read ++ (i ∷ [])) n) None (entries_of (list_bytes (item_with types i))) (n * 65536 + 1) (few_from types (read ++ (i ∷ [])) n) in
    few_if (was_read read i) (only Endless) (members_by (members_from types (read ++ (i ∷ [])) n) None (entries_of (list_bytes (item_with types i)))) (suc n * 65536 + 1) (omega arith) (omega (arith, here, there))

pub few_left : (types : List ItemEntry) (read : List ℕ) (lists : ℕ) (list : Option ℕ) (b : List ℕ) (p : ℕ) → lists ≤ 1024 → length b < 65536 → length (members_by (members_from types read lists) list (listing entries b p)).items < 2 ^ 64
few_left types read lists list b p few_lists small =
    let here = few entries b p in
    let there = few_by (members_from types read lists) list (listing entries b p) (lists * 65536 + 1) (few_from types read lists) in
    omega (arith, here, there)
