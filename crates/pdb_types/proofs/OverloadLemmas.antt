-- Overloads lie inside the bytes of their list.
use Rattle.std.proofs.Common.{◌≡◌, ℕ, ◌+◌, ◌≤◌, Bool, true, false, cond, List, length, Option, Some, Ok, Result, arith}
use Rattle.pdb_base.specs.declared.error.Error.{Error}
use Rattle.pdb_base.specs.Refusal.{◌>>=◌}
use Rattle.pdb_base.specs.Fields.{number, number_at, bytes_at}
use Rattle.pdb_base.proofs.Places.{bind_ok, number_is, slice_is}
use Rattle.pdb_base.proofs.Readings.{ReadsInside}
use Rattle.pdb_types.specs.declared.overloads.MethodListEntry.{MethodListEntry}
use Rattle.pdb_types.specs.MemberSays.{is_introduced}
use Rattle.pdb_types.specs.Overloads.{overload_at, overload_length, overload_of, table_offset_at}

abbrev width_of : Bool → ℕ
width_of t = cond t 12 8

offset_ends : (t : Bool) (b : List ℕ) (p : ℕ) (o : Option ℕ) → p + 8 ≤ length b → table_offset_at t b (p + 8) ≡ Ok o → p + width_of t ≤ length b
offset_ends false b p o h e = h
offset_ends true b p o h e =
    let (n, there, rest) = bind_ok (number_at b (p + 8) 4) (λ n. Ok (Some n)) o e in
    let is = number_is b (p + 8) 4 n there in
    omega (arith, is.there)

some_width : (t : Bool) → 1 ≤ width_of t
some_width true = omega arith
some_width false = omega arith

abbrev with_fields : List ℕ → ℕ → List ℕ → Result MethodListEntry Error
with_fields b p fields = table_offset_at (is_introduced (number fields 0 2)) b (p + 8) >>= λ offset. Ok (overload_of fields offset)

overload_ends : (b : List ℕ) (p : ℕ) (x : MethodListEntry) → overload_at b p ≡ Ok x → p + width_of (is_introduced x.attributes.0) ≤ length b
unfolding overload_at
overload_ends b p x e =
    let (fields, there, rest) = bind_ok (bytes_at b p 8) (with_fields b p) x e in
    let (offset, behind, last) = bind_ok (table_offset_at (is_introduced (number fields 0 2)) b (p + 8)) (λ offset. Ok (overload_of fields offset)) x rest in
    let is : overload_of fields offset ≡ x = cc in
    rw (← is) (offset_ends (is_introduced (number fields 0 2)) b p offset (slice_is b p 8 fields there).there behind)

pub overloads_within : ReadsInside overload_at overload_length
overloads_within = record { inside = λ b p x e. let some = some_width (is_introduced x.attributes.0) in (omega (arith, some), overload_ends b p x e) }
