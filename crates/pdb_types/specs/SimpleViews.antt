-- What a kind of simple types shows.
use Rattle.pdb_types.specs.declared.simple.SimpleKind.{SimpleKind as Kind}
use Rattle.pdb_types.specs.SimpleTypes.{SimpleKind}

abbrev pub shown_kind : Kind → SimpleKind
shown_kind k = record { name = k.name.now; size = k.size }
