-- The turns of the loops over modules and contributions.
use Rattle.std.proofs.Common.{◌≡◌, ℕ, ◌+◌, ◌≤◌, List, length, take, drop, Bool, true, false, cond, Result, Ok, arith, refl, ◌∙◌, ap, sym}
use Rattle.std.specs.Prelude.{◌==◌}
use Rattle.pdb_base.specs.declared.error.Error.{Error}
use Rattle.pdb_base.specs.Refusal.{◌>>=◌}
use Rattle.pdb_base.specs.Fields.{number, bytes_at, cstring_at, aligned_at, padding}
use Rattle.pdb_base.proofs.Numbers.{number_2-part, number_4-part}
use Rattle.pdb_base.proofs.Padding.{aligned_inside, aligned_there}
use Rattle.pdb_base.proofs.Places.{bind_ok, slice_is, is_slice, cstring_is, is_cstring}
use Rattle.pdb_base.proofs.Readings.{ReadsInside}
use Rattle.pdb_dbi.specs.declared.contributions.DBISectionContribution.{DBISectionContribution}
use Rattle.pdb_dbi.specs.Contributions.{IsContribution, contribution_at, contribution_of, record_size}
use Rattle.pdb_dbi.specs.Modules.{ModuleEntry, IsModule, module_at, module_entry, module_length, names_end}

-- what is read of a module behind its 64 bytes
abbrev padded : List ℕ → ℕ → List ℕ → List ℕ → List ℕ → Result ModuleEntry Error
padded b p fixed name object = aligned_at b (p + 66 + length name + length object) 4 >>= λ u. Ok (module_entry fixed name object)

abbrev second_name : List ℕ → ℕ → List ℕ → List ℕ → Result ModuleEntry Error
second_name b p fixed name = cstring_at b (p + 65 + length name) >>= λ object. padded b p fixed name object

abbrev first_name : List ℕ → ℕ → List ℕ → Result ModuleEntry Error
first_name b p fixed = cstring_at b (p + 64) >>= λ name. second_name b p fixed name

module_ends : (b : List ℕ) (p : ℕ) (m : ModuleEntry) → module_at b p ≡ Ok m → names_end p m + padding (names_end p m) 4 ≤ length b
unfolding module_at
module_ends b p m e =
    let (fixed, e1, rest1) = bind_ok (bytes_at b p 64) (first_name b p) m e in
    let (name, e2, rest2) = bind_ok (cstring_at b (p + 64)) (second_name b p fixed) m rest1 in
    let (object, e3, rest3) = bind_ok (cstring_at b (p + 65 + length name)) (padded b p fixed name) m rest2 in
    let (u, e4, rest4) = bind_ok (aligned_at b (p + 66 + length name + length object) 4) (λ u. Ok (module_entry fixed name object)) m rest3 in
    let is : module_entry fixed name object ≡ m = cc in
    rw (← is) (aligned_inside b (p + 66 + length name + length object) 4 u e4)

pub modules_within : ReadsInside module_at module_length
modules_within = record { inside = λ b p m e. let ends = module_ends b p m e in (omega (arith, ends), omega (arith, ends)) }

pub contributions_within : (size : ℕ) → 28 ≤ size → ReadsInside (contribution_at size) (λ p c. size)
unfolding contribution_at
contributions_within size long = record {
  inside = λ b p c e.
      let (bytes, e1, rest1) = bind_ok (bytes_at b p size) (λ s. Ok (contribution_of s)) c e in
      let is = slice_is b p size bytes e1 in
      (omega arith, is.there);
}

-- ---- a module's fields by their places

pub module_is : (b : List ℕ) (p : ℕ) (m : ModuleEntry) → module_at b p ≡ Ok m → IsModule b p m
unfolding module_at
module_is b p m e =
    let (fixed, e1, rest1) = bind_ok (bytes_at b p 64) (first_name b p) m e in
    let (name, e2, rest2) = bind_ok (cstring_at b (p + 64)) (second_name b p fixed) m rest1 in
    let (object, e3, rest3) = bind_ok (cstring_at b (p + 65 + length name)) (padded b p fixed name) m rest2 in
    let (u, e4, rest4) = bind_ok (aligned_at b (p + 66 + length name + length object) 4) (λ u. Ok (module_entry fixed name object)) m rest3 in
    let is : module_entry fixed name object ≡ m = cc in
    let slice = slice_is b p 64 fixed e1 in
    let two : (q : ℕ) → q + 2 ≤ 64 → number fixed q 2 ≡ number b (p + q) 2 = λ q h. ap (λ f. number f q 2) slice.value ∙ number_2-part b p 64 q h in
    let four : (q : ℕ) → q + 4 ≤ 64 → number fixed q 4 ≡ number b (p + q) 4 = λ q h. ap (λ f. number f q 4) slice.value ∙ number_4-part b p 64 q h in
    rw (← is) (record {
      stream = record { there = omega (arith, slice.there); value = two 34 (omega arith) };
      symbols_size = record { there = omega (arith, slice.there); value = four 36 (omega arith) };
      lines_size = record { there = omega (arith, slice.there); value = four 40 (omega arith) };
      c13_lines_size = record { there = omega (arith, slice.there); value = four 44 (omega arith) };
      module_name = cstring_is b (p + 64) name e2;
      object_file_name = cstring_is b (p + 65 + length name) object e3;
      padded = aligned_inside b (p + 66 + length name + length object) 4 u e4;
    })

pub is_module : (b : List ℕ) (p : ℕ) (m : ModuleEntry) → IsModule b p m → module_at b p ≡ Ok m
unfolding module_at
is_module b p m h =
    let fixed = take 64 (drop p b) in
    let e1 = is_slice b p 64 fixed (record { there = omega (arith, h.module_name.there); value = refl }) in
    let e2 = is_cstring b (p + 64) m.module_name h.module_name in
    let e3 = is_cstring b (p + 65 + length m.module_name) m.object_file_name h.object_file_name in
    let e4 = aligned_there b (p + 66 + length m.module_name + length m.object_file_name) 4 h.padded in
    let stream : number fixed 34 2 ≡ m.stream = number_2-part b p 64 34 (omega arith) ∙ sym h.stream.value in
    let symbols : number fixed 36 4 ≡ m.symbols_size = number_4-part b p 64 36 (omega arith) ∙ sym h.symbols_size.value in
    let lines : number fixed 40 4 ≡ m.lines_size = number_4-part b p 64 40 (omega arith) ∙ sym h.lines_size.value in
    let c13 : number fixed 44 4 ≡ m.c13_lines_size = number_4-part b p 64 44 (omega arith) ∙ sym h.c13_lines_size.value in
    rw (e1, e2, e3, e4, stream, symbols, lines, c13) refl

-- ---- a contribution's fields by their places

-- a part's version says one of two sizes
pub long_enough : (version : ℕ) → 28 ≤ record_size version
long_enough version = by_test (version == 0xf13151e4)
  where
    by_test : (t : Bool) → 28 ≤ cond t 32 28
    by_test true = omega arith
    by_test false = omega arith

pub contribution_is : (size : ℕ) (b : List ℕ) (p : ℕ) (c : DBISectionContribution) → 28 ≤ size → contribution_at size b p ≡ Ok c → IsContribution size b p c
unfolding contribution_at
contribution_is size b p c long e =
    let (record_bytes, e1, rest1) = bind_ok (bytes_at b p size) (λ s. Ok (contribution_of s)) c e in
    let slice = slice_is b p size record_bytes e1 in
    let is : contribution_of record_bytes ≡ c = cc in
    let first : p + 0 ≡ p = omega arith in
    let two : (q : ℕ) → q + 2 ≤ 28 → number record_bytes q 2 ≡ number b (p + q) 2 = λ q h. ap (λ f. number f q 2) slice.value ∙ number_2-part b p size q (omega arith) in
    let four : (q : ℕ) → q + 4 ≤ 28 → number record_bytes q 4 ≡ number b (p + q) 4 = λ q h. ap (λ f. number f q 4) slice.value ∙ number_4-part b p size q (omega arith) in
    rw (← is) (record {
      section = record { there = omega (arith, slice.there); value = two 0 (omega arith) ∙ ap (λ k. number b k 2) first };
      offset = record { there = omega (arith, slice.there); value = four 4 (omega arith) };
      size = record { there = omega (arith, slice.there); value = four 8 (omega arith) };
      characteristics = record { there = omega (arith, slice.there); value = four 12 (omega arith) };
      «module» = record { there = omega (arith, slice.there); value = two 16 (omega arith) };
      data_crc = record { there = omega (arith, slice.there); value = four 20 (omega arith) };
      reloc_crc = record { there = omega (arith, slice.there); value = four 24 (omega arith) };
      there = slice.there;
    })

pub is_contribution : (size : ℕ) (b : List ℕ) (p : ℕ) (c : DBISectionContribution) → 28 ≤ size → IsContribution size b p c → contribution_at size b p ≡ Ok c
unfolding contribution_at
is_contribution size b p c long h =
    let fields = take size (drop p b) in
    let e1 = is_slice b p size fields (record { there = h.there; value = refl }) in
    let first : p + 0 ≡ p = omega arith in
    let section : number fields 0 2 ≡ c.offset.section = number_2-part b p size 0 (omega arith) ∙ ap (λ k. number b k 2) first ∙ sym h.section.value in
    let offset : number fields 4 4 ≡ c.offset.offset = number_4-part b p size 4 (omega arith) ∙ sym h.offset.value in
    let bytes : number fields 8 4 ≡ c.size = number_4-part b p size 8 (omega arith) ∙ sym h.size.value in
    let kind : number fields 12 4 ≡ c.characteristics.0 = number_4-part b p size 12 (omega arith) ∙ sym h.characteristics.value in
    let place : number fields 16 2 ≡ c.«module» = number_2-part b p size 16 (omega arith) ∙ sym h.«module».value in
    let data_sum : number fields 20 4 ≡ c.data_crc = number_4-part b p size 20 (omega arith) ∙ sym h.data_crc.value in
    let moved : number fields 24 4 ≡ c.reloc_crc = number_4-part b p size 24 (omega arith) ∙ sym h.reloc_crc.value in
    rw (e1, section, offset, bytes, kind, place, data_sum, moved) refl
