-- The flags of a local variable that most words have.
use Rattle.std.proofs.Common.{◌≡◌, refl}
use Rattle.std.specs.Prelude.{codes}
use Rattle.pdb_symbols.specs.Flags.{local_flags_of}
use Rattle.tool_fields.specs.Flags.{local_flags}

pub no_flag : local_flags (local_flags_of 0) 0 ≡ codes "-"
unfolding local_flags local_flags_of
no_flag = refl

pub param : local_flags (local_flags_of 1) 1 ≡ codes "param"
unfolding local_flags local_flags_of
param = refl

pub optimized_out : local_flags (local_flags_of 256) 256 ≡ codes "optimizedout"
unfolding local_flags local_flags_of
optimized_out = refl

pub both : local_flags (local_flags_of 257) 257 ≡ codes "param+optimizedout"
unfolding local_flags local_flags_of
both = refl
