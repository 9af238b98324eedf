-- How each single list of members ends.
use Rattle.std.specs.Prelude.{ℕ, zero, suc, Bool, true, false, List, [], ◌∷◌, ◌++◌, ◌+◌, length, if◌then◌else◌, Option, Some, None, Result, Ok, Err}
use Rattle.pdb_base.specs.declared.error.Error.{Error}
use Rattle.pdb_base.specs.Left.{Left}
use Rattle.pdb_items.specs.Items.{ItemEntry, item_with}
use Rattle.pdb_types.specs.declared.member_faults.ChainEnd.{ChainEnd}
use Rattle.pdb_types.specs.declared.member_faults.ChainEnd.TheVariants.{Whole, Endless, Refused}
use Rattle.pdb_types.specs.MemberSays.{EntrySays}
use Rattle.pdb_types.specs.MemberLists.{entries_of, goes_on, list_bytes, some_list, was_read}

abbrev pub end_by : Option Error → Option ℕ → Result (Option ℕ) Error
end_by None list = Ok list
end_by (Some e) list = Err e

-- the fault of entries, or the list with which they go on, which may be one that was named before them
abbrev pub end_of : Option ℕ → Left EntrySays → Result (Option ℕ) Error
end_of list left = end_by left.fault (goes_on list left.items)

abbrev pub fault_count : Option Error → ℕ
fault_count None = 0
fault_count (Some e) = 1

-- how many entries are read: all, and perhaps one that has an error
abbrev pub entries_read : Left EntrySays → ℕ
entries_read left = length left.items + fault_count left.fault

-- how the list of an item ends
abbrev pub list_end : Option ItemEntry → Result (Option ℕ) Error
list_end x = end_of None (entries_of (list_bytes x))

-- ---- lists that go on

-- how lists end behind as many as may be read, by the list that would be next
abbrev pub unread_end : List ℕ → Option ℕ → ChainEnd
unread_end read None = Whole
unread_end read (Some i) = if was_read read i then Endless else Whole

-- behind the end of a list
abbrev pub end_behind : (Option ℕ → ChainEnd) → Result (Option ℕ) Error → ChainEnd
end_behind more (Ok list) = more list
end_behind more (Err e) = Refused e

-- how the lists end that go on from a list, behind those that were read: of at most so many
unfoldable pub chain_from : List ItemEntry → List ℕ → ℕ → Option ℕ → ChainEnd
chain_from types read zero list = unread_end read list
chain_from types read (suc lists) None = Whole
chain_from types read (suc lists) (Some i) = if was_read read i then Endless else end_behind (chain_from types (read ++ (i ∷ [])) lists) (list_end (item_with types i))

-- how the lists end that go on from the list of an index
unfoldable pub chain_end : List ItemEntry → ℕ → ChainEnd
chain_end types i = chain_from types [] 1024 (some_list i)

-- whether they lead to a list that was read before
abbrev pub is_endless : ChainEnd → Bool
is_endless Whole = false
is_endless Endless = true
is_endless (Refused e) = false

abbrev pub fault_of : ChainEnd → Option Error
fault_of Whole = None
fault_of Endless = None
fault_of (Refused e) = Some e
