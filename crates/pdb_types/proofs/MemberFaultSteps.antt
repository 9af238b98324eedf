-- How the ends of single lists give the fault of the members through all of them.
use Rattle.std.proofs.Common.{◌≡◌, ℕ, zero, suc, ◌+◌, ◌<◌, ◌≤◌, List, length, ◌∷◌, [], ◌++◌, Bool, true, false, cond, Option, Some, None, Ok, Err, refl, sym, ap, ◌∙◌, arith}
use Rattle.pdb_base.specs.declared.error.Error.{Error}
use Rattle.pdb_base.specs.Left.{Left, Follows}
use Rattle.pdb_base.specs.Tiling.{listing}
use Rattle.pdb_base.proofs.Tilings.{gives_fault, listing_end}
use Rattle.pdb_items.specs.Items.{ItemEntry, item_with}
use Rattle.pdb_types.specs.declared.member_faults.ChainEnd.{ChainEnd}
use Rattle.pdb_types.specs.declared.member_faults.ChainEnd.TheVariants.{Whole, Endless, Refused}
use Rattle.pdb_types.specs.MemberSays.{MemberSays, EntrySays}
use Rattle.pdb_types.specs.MemberSays.MemberSays.{More, Endless as EndlessMember}
use Rattle.pdb_types.specs.MemberRows.{FoundEntry, entry_at}
use Rattle.pdb_types.specs.MemberLists.{entries, entries_of, goes_on, list_bytes, members_by, members_from, members_of, named_by, only, rest_behind, some_list, was_read}
use Rattle.pdb_types.specs.MemberEnds.{chain_end, chain_from, end_behind, end_by, end_of, entries_read, fault_of, list_end, unread_end}
use Rattle.pdb_types.proofs.MemberSteps.{entry_first}

-- ---- one list

follows_end : (list : Option ℕ) (old new : Left EntrySays) (y : EntrySays) → Follows old (y ∷ []) new → end_of list old ≡ end_of (named_by list y) new
follows_end list old new y h = rw (h.0, h.1) refl

pub entry_end : (list : Option ℕ) (b : List ℕ) (p : ℕ) (x : FoundEntry) → entry_at b p ≡ Ok x → end_of list (listing entries b p) ≡ end_of (named_by list x.entry) (listing entries b x.end)
entry_end list b p x there = follows_end list (listing entries b p) (listing entries b x.end) x.entry (entry_first b p x there)

pub refused_end : (list : Option ℕ) (b : List ℕ) (p : ℕ) (e : Error) → p < length b → entry_at b p ≡ Err e → end_of list (listing entries b p) ≡ Err e
refused_end list b p e inside there =
    let piece : entries.piece b p ≡ None = rw there refl in
    let fault : entries.fault b p ≡ Some e = rw there refl in
    ap (end_of list) (gives_fault entries (λ (y : EntrySays). y) b p e 0 inside (piece, fault))

pub last_end : (list : Option ℕ) (b : List ℕ) (p : ℕ) → length b ≤ p → end_of list (listing entries b p) ≡ Ok list
last_end list b p past = ap (end_of list) (listing_end entries b p past)

-- ---- how many entries are read

follows_read : (old new : Left EntrySays) (y : EntrySays) → Follows old (y ∷ []) new → entries_read old ≡ entries_read new + 1
follows_read old new y h = rw (h.0, h.1) (omega arith)

pub entry_read : (b : List ℕ) (p : ℕ) (x : FoundEntry) → entry_at b p ≡ Ok x → entries_read (listing entries b p) ≡ entries_read (listing entries b x.end) + 1
entry_read b p x there = follows_read (listing entries b p) (listing entries b x.end) x.entry (entry_first b p x there)

pub refused_read : (b : List ℕ) (p : ℕ) (e : Error) → p < length b → entry_at b p ≡ Err e → entries_read (listing entries b p) ≡ 1
refused_read b p e inside there =
    let piece : entries.piece b p ≡ None = rw there refl in
    let fault : entries.fault b p ≡ Some e = rw there refl in
    ap entries_read (gives_fault entries (λ (y : EntrySays). y) b p e 0 inside (piece, fault))

pub none_read : (b : List ℕ) (p : ℕ) → length b ≤ p → entries_read (listing entries b p) ≡ 0
none_read b p past = ap entries_read (listing_end entries b p past)

-- ---- lists that go on

rest_fault : (fault : Option Error) (more : Option ℕ → Left MemberSays) (chain : Option ℕ → ChainEnd) (list : Option ℕ) → ((l : Option ℕ) → fault_of (chain l) ≡ (more l).fault) → fault_of (end_behind chain (end_by fault list)) ≡ (rest_behind fault more list).fault
rest_fault None more chain list h = h list
rest_fault (Some e) more chain list h = refl

either_fault : (t : Bool) (x : ChainEnd) (left : Left MemberSays) → fault_of x ≡ left.fault → fault_of (cond t Endless x) ≡ (cond t (only EndlessMember) left).fault
either_fault true x left h = refl
either_fault false x left h = h

neither_fault : (t : Bool) → fault_of (cond t Endless Whole) ≡ (cond t (only EndlessMember) (only More)).fault
neither_fault true = refl
neither_fault false = refl

module _ (types : List ItemEntry) where
  chain_fault_from : (read : List ℕ) (lists : ℕ) (list : Option ℕ) → fault_of (chain_from types read lists list) ≡ (members_from types read lists list).fault
  unfolding members_from chain_from
  chain_fault_from read zero None = refl
  chain_fault_from read (suc n) None = refl
  chain_fault_from read zero (Some i) = neither_fault (was_read read i)
  chain_fault_from read (suc n) (Some i) =
      let left = entries_of (list_bytes (item_with types i)) in
      let more = members_from types (read ++ (i ∷ [])) n in
      let chain = chain_from types (read ++ (i ∷ [])) n in
      either_fault (was_read read i) (end_behind chain (list_end (item_with types i))) (members_by more None left)
      (rest_fault left.fault more chain (goes_on None left.items) (chain_fault_from (read ++ (i ∷ [])) n))

  pub chain_fault : (i : ℕ) → fault_of (chain_end types i) ≡ (members_of types i).fault
  unfolding members_of chain_end
  chain_fault i = chain_fault_from [] 1024 (some_list i)

  pub no_list : (read : List ℕ) (lists : ℕ) → chain_from types read lists None ≡ Whole
  unfolding chain_from
  no_list read zero = refl
  no_list read (suc n) = refl

  pub no_lists : (read : List ℕ) (list : Option ℕ) → chain_from types read 0 list ≡ unread_end read list
  unfolding chain_from
  no_lists read list = refl

  pub read_list : (read : List ℕ) (lists i : ℕ) → was_read read i ≡ true → chain_from types read lists (Some i) ≡ Endless
  unfolding chain_from
  read_list read zero i old = rw old refl
  read_list read (suc n) i old = rw old refl

  next_list : (read : List ℕ) (n i : ℕ) → was_read read i ≡ false → chain_from types read (suc n) (Some i) ≡ end_behind (chain_from types (read ++ (i ∷ [])) n) (list_end (item_with types i))
  unfolding chain_from
  next_list read n i new = rw new refl

  pub goes_on_to : (read : List ℕ) (lists m i : ℕ) (next : Option ℕ) → lists ≡ suc m → was_read read i ≡ false → Ok next ≡ list_end (item_with types i) → chain_from types read lists (Some i) ≡ chain_from types (read ++ (i ∷ [])) m next
  goes_on_to read lists m i next e new is = ap (λ n. chain_from types read n (Some i)) e ∙ next_list read m i new ∙ ap (end_behind (chain_from types (read ++ (i ∷ [])) m)) (sym is)

  pub ends_in : (read : List ℕ) (lists i : ℕ) (e : Error) → 0 < lists → was_read read i ≡ false → Err e ≡ list_end (item_with types i) → chain_from types read lists (Some i) ≡ Refused e
  ends_in read zero i e some new is = absurd (omega arith)
  ends_in read (suc n) i e some new is = next_list read n i new ∙ ap (end_behind (chain_from types (read ++ (i ∷ [])) n)) (sym is)
