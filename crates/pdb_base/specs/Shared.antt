-- The bytes of a stream, by the form in which they are held.
use Rattle.std.specs.Prelude.{ℕ, List}
use Rattle.pdb_base.specs.declared.stream.Shared.{Shared}
use Rattle.pdb_base.specs.declared.stream.Shared.TheVariants.{Borrowed, Owned}

abbrev pub shared_bytes : Shared → List ℕ
shared_bytes (Borrowed bytes) = bytes.now
shared_bytes (Owned bytes) = bytes.value.items
