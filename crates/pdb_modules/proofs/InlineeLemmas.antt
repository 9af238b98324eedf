-- The turns of the loop over inlined functions.
use Rattle.std.proofs.Common.{◌≡◌, ℕ, ◌+◌, ◌*◌, ◌≤◌, Bool, true, false, List, [], length, drop, length-take, Ok, Result, ap, arith}
use Rattle.pdb_base.specs.declared.error.Error.{Error}
use Rattle.pdb_base.specs.Refusal.{◌>>=◌}
use Rattle.pdb_base.specs.Fields.{number_at, bytes_at}
use Rattle.pdb_base.specs.Left.{ended}
use Rattle.pdb_base.specs.Tiling.{listing}
use Rattle.pdb_base.proofs.Places.{bind_ok, slice_is}
use Rattle.pdb_base.proofs.Readings.{ReadsInside}
use Rattle.pdb_base.proofs.Tilings.{listing_end}
use Rattle.pdb_modules.specs.Inlinees.{InlineeEntry, extra_files_at, extra_length, inlinee_of, inlinee_at, inlinee_length, inlinees}

extra_ends : (extended : Bool) (b : List ℕ) (p : ℕ) (files : List ℕ) → p ≤ length b → extra_files_at extended b p ≡ Ok files → p + extra_length extended files ≤ length b
extra_ends false b p files h e = omega (arith, h)
extra_ends true b p files h e =
    let (count, e1, rest) = bind_ok (number_at b p 4) (λ count. bytes_at b (p + 4) (4 * count)) files e in
    let slice = slice_is b (p + 4) (4 * count) files rest in
    omega (arith, slice.there, ap length slice.value, length-take (4 * count) (drop (p + 4) b))

abbrev with_fields : Bool → List ℕ → ℕ → List ℕ → Result InlineeEntry Error
with_fields extended b p fields = extra_files_at extended b (p + 12) >>= λ files. Ok (inlinee_of fields files)

inlinee_ends : (extended : Bool) (b : List ℕ) (p : ℕ) (x : InlineeEntry) → inlinee_at extended b p ≡ Ok x → p + 12 + extra_length extended x.extra_files ≤ length b
unfolding inlinee_at
inlinee_ends extended b p x e =
    let (fields, e1, rest1) = bind_ok (bytes_at b p 12) (with_fields extended b p) x e in
    let (files, e2, rest2) = bind_ok (extra_files_at extended b (p + 12)) (λ files. Ok (inlinee_of fields files)) x rest1 in
    let is : inlinee_of fields files ≡ x = cc in
    rw (← is) (extra_ends extended b (p + 12) files (slice_is b p 12 fields e1).there e2)

pub inlinees_within : (extended : Bool) → ReadsInside (inlinee_at extended) (inlinee_length extended)
inlinees_within extended = record { inside = λ b p x e. let ends = inlinee_ends extended b p x e in (omega arith, omega (arith, ends)) }

pub nothing_left : (extended : Bool) → listing (inlinees extended) [] 0 ≡ ended
nothing_left extended = listing_end (inlinees extended) [] 0 (omega arith)
