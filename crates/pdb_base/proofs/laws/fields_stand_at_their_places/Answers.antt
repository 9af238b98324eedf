use Rattle.pdb_base.proofs.Places.{number_is, is_number, slice_is, is_slice, cstring_is, is_cstring, pascal_is, is_pascal}
use Rattle.pdb_base.proofs.Padding.{aligned_is, is_aligned}
use Rattle.pdb_base.proofs.Headers.{header_is, is_header}
use Rattle.pdb_base.proofs.Variants.{signed_is, is_signed, variant_is, is_variant}
use Rattle.pdb_base.proofs.laws.fields_stand_at_their_places.Goals as goal

pub returns-clause-number : goal.returns-clause-number
returns-clause-number c b p w n = (number_is b p w n, is_number b p w n)

pub returns-clause-slice : goal.returns-clause-slice
returns-clause-slice c b p n s = (slice_is b p n s, is_slice b p n s)

pub returns-clause-cstring : goal.returns-clause-cstring
returns-clause-cstring c b p s = (cstring_is b p s, is_cstring b p s)

pub returns-clause-pascal : goal.returns-clause-pascal
returns-clause-pascal c b p s = (pascal_is b p s, is_pascal b p s)

pub returns-clause-signed : goal.returns-clause-signed
returns-clause-signed c b p w n = (signed_is b p w n, is_signed b p w n)

pub returns-clause-variant : goal.returns-clause-variant
returns-clause-variant c b p v = (variant_is b p v, is_variant b p v)

pub returns-clause-padding : goal.returns-clause-padding
returns-clause-padding c b p n q pos = (λ h. aligned_is b p n q pos h.0 h.1, is_aligned b p n q pos)

pub returns-clause-section_header : goal.returns-clause-section_header
returns-clause-section_header c b p h = (header_is b p h, is_header b p h)
