-- What iterators over members show.
use Rattle.std.specs.Prelude.{◌≡◌, ℕ, ◌+◌, ◌-◌, ◌*◌, ◌<◌, length, Option, Some, None, Result}
use Rattle.pdb_base.specs.declared.error.Error.{Error}
use Rattle.pdb_base.specs.Left.{Left, Yields}
use Rattle.pdb_base.specs.Tiling.{listing}
use Rattle.pdb_types.specs.declared.members.Member.{Member}
use Rattle.pdb_types.specs.declared.member_lists.MemberIter.{MemberIter}
use Rattle.pdb_types.specs.MemberSays.{MemberSays}
use Rattle.pdb_types.specs.MemberViews.{shown_member}
use Rattle.pdb_types.specs.ReadListViews.{lists_read}
use Rattle.pdb_types.specs.MemberLists.{entries, members_by, members_from}

-- the members that an iterator has left, and perhaps a fault after them
abbrev pub members_left : MemberIter → Left MemberSays
members_left it = members_by (members_from it.types.now (lists_read it.read) it.lists) it.list (listing entries it.bytes.now it.at)

-- how many bytes may still be read
abbrev pub members_ahead : MemberIter → ℕ
members_ahead it = it.lists * 65536 + (length it.bytes.now - it.at)

-- its steps so far
abbrev pub members_steps : MemberIter → ℕ
members_steps it = it.steps.count

-- a step of an iterator gave what `next` gives, or it gave nothing yet, and fewer bytes may still be read
abbrev pub IsStep : MemberIter → MemberIter → Option (Result (Option Member) Error) → Type 0
IsStep old new None = (members_left new ≡ members_left old) × (members_ahead new < members_ahead old)
IsStep old new (Some answer) = Yields shown_member (members_left old) answer (members_left new)
