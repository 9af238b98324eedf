-- What members, and the entries of their lists, show.
use Rattle.pdb_types.specs.declared.members.Member.{Member}
use Rattle.pdb_types.specs.declared.members.Member.TheVariants as rust
use Rattle.pdb_types.specs.declared.member_readers.Entry.{Entry}
use Rattle.pdb_types.specs.declared.member_readers.Entry.TheVariants as entry
use Rattle.pdb_types.specs.declared.member_readers.Found.{Found}
use Rattle.pdb_types.specs.MemberSays.{MemberSays, EntrySays}
use Rattle.pdb_types.specs.MemberSays.EntrySays.{Says, GoesOn}
use Rattle.pdb_types.specs.MemberSays.MemberSays.{BaseClass, VirtualBaseClass, VirtualTablePointer, VirtualTableOffset, FriendClass, FriendFunction, Enumerate, Member as DataMember, StaticMember, Method, Nested, OneMethod, More, Endless}
use Rattle.pdb_types.specs.MemberRows.{FoundEntry}

abbrev pub shown_member : Member → MemberSays
shown_member (rust.BaseClass a t offset) = BaseClass a t offset
shown_member (rust.VirtualBaseClass direct a t offset entry) = VirtualBaseClass direct a t offset entry
shown_member (rust.VirtualTablePointer t) = VirtualTablePointer t
shown_member (rust.VirtualTableOffset t offset) = VirtualTableOffset t offset
shown_member (rust.FriendClass t) = FriendClass t
shown_member (rust.FriendFunction t name) = FriendFunction t name.now
shown_member (rust.Enumerate a value name) = Enumerate a value name.now
shown_member (rust.Member a t offset name) = DataMember a t offset name.now
shown_member (rust.StaticMember a t name) = StaticMember a t name.now
shown_member (rust.Method count list name) = Method count list name.now
shown_member (rust.Nested t name) = Nested t name.now
shown_member (rust.OneMethod a t place name) = OneMethod a t place name.now
shown_member rust.More = More
shown_member rust.Endless = Endless

abbrev pub shown_entry : Entry → EntrySays
shown_entry (entry.Member m) = Says (shown_member m)
shown_entry (entry.GoesOn list) = GoesOn list

abbrev pub shown_found : Found → FoundEntry
shown_found x = record { entry = shown_entry x.entry; end = x.end }
