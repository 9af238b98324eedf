-- The members of a type: the lists that go on in one another.
use Rattle.std.specs.Prelude.{ℕ, zero, suc, ◌-◌, ◌==◌, ◌&&◌, Bool, nat_lt, if◌then◌else◌, List, [], ◌∷◌, ◌++◌, length, Option, Some, None, option_map}
use Rattle.std.specs.List.{filter_map, list_any}
use Rattle.pdb_base.specs.declared.error.Error.{Error}
use Rattle.pdb_base.specs.declared.error.Error.TheVariants.{UnexpectedEof}
use Rattle.pdb_base.specs.Left.{Left, ended}
use Rattle.pdb_base.specs.Reading.{given, refusal}
use Rattle.pdb_base.specs.Tiling.{Row, listing}
use Rattle.pdb_items.specs.Items.{ItemEntry, item_with}
use Rattle.pdb_items.specs.Ids.{kind_at}
use Rattle.pdb_types.specs.MemberSays.{MemberSays, EntrySays}
use Rattle.pdb_types.specs.MemberSays.EntrySays.{Says, GoesOn}
use Rattle.pdb_types.specs.MemberSays.MemberSays.{More, Endless}
use Rattle.pdb_types.specs.MemberRows.{FoundEntry, entry_at}

-- ---- one list

-- entries stand one after another
abbrev pub entries : Row EntrySays
entries = record {
  piece = λ b p. option_map (λ (x : FoundEntry). x.end - p) (given (entry_at b p));
  item = λ b p k. option_map (λ (x : FoundEntry). x.entry) (given (entry_at b p));
  fault = λ b p. refusal (entry_at b p);
}

-- nothing but a fault
abbrev pub faulty : {A : Type 0} → Error → Left A
faulty e = record { items = []; fault = Some e }

-- the bytes of an item that is a list of members: LF_FIELDLIST, of at most 65,535 bytes, as records are
abbrev pub list_bytes : Option ItemEntry → Option (List ℕ)
list_bytes None = None
list_bytes (Some x) = if kind_at x.bytes == 0x1203 && nat_lt (length x.bytes) 0x10000 then Some x.bytes else None

-- its entries, which stand behind its kind; one that isn't there is a fault
abbrev pub entries_of : Option (List ℕ) → Left EntrySays
entries_of None = faulty UnexpectedEof
entries_of (Some b) = listing entries b 2

-- ---- lists that go on

-- the members among entries
abbrev pub member_in : EntrySays → Option MemberSays
member_in (Says m) = Some m
member_in (GoesOn list) = None

abbrev pub members_in : List EntrySays → List MemberSays
members_in xs = filter_map member_in xs

-- the list that an entry names, or one that was named before it
abbrev pub named_by : Option ℕ → EntrySays → Option ℕ
named_by list (Says m) = list
named_by list (GoesOn next) = Some next.0

-- the list with which entries go on: the last that they name
abbrev pub goes_on : Option ℕ → List EntrySays → Option ℕ
goes_on list [] = list
goes_on list (x ∷ xs) = goes_on (named_by list x) xs

-- members, and then what is left
abbrev pub before : List MemberSays → Left MemberSays → Left MemberSays
before ms left = record { items = ms ++ left.items; fault = left.fault }

-- what stands behind the entries of a list: its fault, or the list with which it goes on
abbrev pub rest_behind : Option Error → (Option ℕ → Left MemberSays) → Option ℕ → Left MemberSays
rest_behind None more list = more list
rest_behind (Some e) more list = faulty e

-- the members of the entries that are left of a list, and of the lists behind it; the list may go on by an entry that was read
abbrev pub members_by : (Option ℕ → Left MemberSays) → Option ℕ → Left EntrySays → Left MemberSays
members_by more list left = before (members_in left.items) (rest_behind left.fault more (goes_on list left.items))

-- nothing but a member
abbrev pub only : MemberSays → Left MemberSays
only m = record { items = m ∷ []; fault = None }

-- whether the list of an index is among those that were read
abbrev pub was_read : List ℕ → ℕ → Bool
was_read read i = list_any (λ j. j == i) read

-- the members of the list of an index, if there is one, and of those with which it goes on. A list that was read before ends them with `Endless`, one behind as many as may be read with `More`
unfoldable pub members_from : List ItemEntry → List ℕ → ℕ → Option ℕ → Left MemberSays
members_from types read lists None = ended
members_from types read zero (Some i) = if was_read read i then only Endless else only More
members_from types read (suc lists) (Some i) =
    if was_read read i then only Endless
    else members_by (members_from types (read ++ (i ∷ [])) lists) None (entries_of (list_bytes (item_with types i)))

-- the index of a list, where there is one: index 0 is none
abbrev pub some_list : ℕ → Option ℕ
some_list i = if i == 0 then None else Some i

-- the members of the list of an index
unfoldable pub members_of : List ItemEntry → ℕ → Left MemberSays
members_of types i = members_from types [] 1024 (some_list i)
