-- What is read of a further record is what its parts say, and it is refused only at the end.
use Rattle.std.proofs.Common.{◌≡◌, ℕ, List, Ok, refl, sym, ap}
use Rattle.pdb_base.proofs.Places.{bind_ok, OnlyEof, bind_eof, ok_eof}
use Rattle.pdb_base.proofs.Layouts.{Tells, Ends, nothing_tells, nothing_ends, then_tells, behind_tells, together_tells, times_tells, number_tells, number_as_tells, signed_tells, cstring_tells, slice_tells, rest_tells, then_ends, behind_ends, together_ends, times_ends, number_ends, number_as_ends, signed_ends, cstring_ends, slice_ends, rest_ends}
use Rattle.pdb_symbols.proofs.Parts.{offset_tells, name_tells, offset_ends, name_ends}
use Rattle.pdb_records.specs.declared.form.RecordForm.{RecordForm}
use Rattle.pdb_records.specs.declared.form.RecordForm.TheVariants as form
use Rattle.pdb_records.specs.RecordSays.{Says}
use Rattle.pdb_records.specs.RecordSays.Says.{EndOfArguments}
use Rattle.pdb_records.specs.RecordTable.{laid_record, IsOfRecord, read_of_record}
use Rattle.pdb_records.proofs.NameParts.{signed_wide_tells, signed_wide_ends, names_tells, names_ends}

laid_tells : (f : RecordForm) → Tells (laid_record f).layout
laid_tells form.EndOfArguments = nothing_tells
laid_tells form.PointerTagMap = rest_tells
laid_tells form.DefRangeFramePointerRelativeFullScope = signed_tells
laid_tells f = search (then_tells, behind_tells, together_tells, times_tells, number_tells, number_as_tells, signed_tells, signed_wide_tells, cstring_tells, slice_tells, rest_tells, offset_tells, name_tells, names_tells) depth 16

laid_ends : (f : RecordForm) → Ends (laid_record f).layout
laid_ends form.EndOfArguments = nothing_ends
laid_ends form.PointerTagMap = rest_ends
laid_ends form.DefRangeFramePointerRelativeFullScope = signed_ends
laid_ends f = search (then_ends, behind_ends, together_ends, times_ends, number_ends, number_as_ends, signed_ends, signed_wide_ends, cstring_ends, slice_ends, rest_ends, offset_ends, name_ends, names_ends) depth 16

pub of_is_record : (f : RecordForm) (kind : ℕ) (b : List ℕ) (d : Says) → read_of_record f kind b ≡ Ok d → IsOfRecord f kind b d
unfolding read_of_record
of_is_record f kind b d e = let (s, at, r) = bind_ok _ _ _ e in (s, (laid_tells f).is kind b 2 s at, cc)

pub is_of_record : (f : RecordForm) (kind : ℕ) (b : List ℕ) (d : Says) → IsOfRecord f kind b d → read_of_record f kind b ≡ Ok d
unfolding read_of_record
is_of_record f kind b d h = rw ((laid_tells f).reads kind b 2 h.0 h.1) (ap Ok (sym h.2))

pub ends_of_record : (f : RecordForm) (kind : ℕ) (b : List ℕ) → OnlyEof (read_of_record f kind b)
unfolding read_of_record
ends_of_record f kind b = bind_eof _ _ ((laid_ends f).eof kind b 2) (λ s. ok_eof _)

pub end_of_arguments_read : (kind : ℕ) (b : List ℕ) → read_of_record form.EndOfArguments kind b ≡ Ok EndOfArguments
unfolding read_of_record
end_of_arguments_read kind b = refl
