-- Parts of a file, and what loops over them go on with.
use Rattle.std.proofs.Common.{◌≡◌, ℕ, ◌+◌, ◌≤◌, List, ◌++◌, length, length-append, take, drop, refl, sym, ap, ◌∙◌, append_assoc, arith}
use Rattle.std.proofs.Math.Seq.{take-add}
use Rattle.pdb_base.specs.declared.source.SourceSlice.{SourceSlice}
use Rattle.pdb_base.specs.Source.{slice_bytes}
use Rattle.std.proofs.lemmas.List.{length-drop, drop-take}
use Rattle.std.proofs.lemmas.Grind.{common_steps}
use Rattle.pdb_file.specs.declared.run.Run.{Run}
use Rattle.pdb_file.specs.HeldBytes.{IsPart, IsRunOf}

drop_drop : (n m : ℕ) (xs : List ℕ) → drop (n + m) xs ≡ drop m (drop n xs)
drop_drop n m xs = grind (arith, common_steps)

-- a part of a part
pub part_of : (file : List ℕ) (at skip : ℕ) (bytes : List ℕ) → IsPart file at bytes → skip ≤ length bytes → IsPart file (at + skip) (drop skip bytes)
part_of file at skip bytes p le =
    let m = length (drop skip bytes) in
    let e : skip + m ≡ length bytes = omega (arith, length-drop skip bytes, le) in
    let all : drop skip (take (skip + m) (drop at file)) ≡ drop skip bytes = ap (λ (n : ℕ). drop skip (take n (drop at file))) e ∙ ap (drop skip) p.same in
    record {
      fits = omega (arith, p.fits, length-drop skip bytes, le);
      same = ap (take m) (drop_drop at skip file) ∙ sym (drop-take skip m (drop at file)) ∙ all;
    }

pub part_behind : (file : List ℕ) (r : Run) (at skip : ℕ) → IsRunOf file r → at ≡ r.at + skip → skip ≤ length r.bytes.now → IsPart file at (drop skip r.bytes.now)
part_behind file r at skip p e le = rw e (part_of file r.at skip r.bytes.now p le)

-- what stands at a place, cut
pub next_of : (file : List ℕ) (at most : ℕ) (bytes : List ℕ) → IsPart file at bytes → take most bytes ≡ take (length (take most bytes)) (drop at file)
next_of file at most bytes p = grind (arith, common_steps, p.same, p.fits)

pub slice_of : (file : List ℕ) (s : SourceSlice) (bytes : List ℕ) → IsPart file s.offset bytes → s.size ≤ length bytes → take s.size bytes ≡ slice_bytes file s
slice_of file s bytes p le = grind (arith, common_steps, p.same, p.fits)

-- bytes behind bytes
pub part_then : (file : List ℕ) (at : ℕ) (xs ys : List ℕ) → IsPart file at xs → IsPart file (at + length xs) ys → IsPart file at (xs ++ ys)
part_then file at xs ys p q =
    let n = length xs in
    let e = take-add n (length ys) (drop at file) in
    let f : drop n (drop at file) ≡ drop (at + n) file = sym (drop_drop at n file) in
    record { fits = omega (arith, q.fits, length-append xs ys); same = rw (length-append xs ys, e, f, p.same, q.same) refl }

-- ---- what loops go on with

pub copied_more : (file a x y p : List ℕ) (o done : ℕ) → x ≡ a ++ take done (drop o file) → y ≡ x ++ p → p ≡ take (length p) (drop (o + done) file) → y ≡ a ++ take (done + length p) (drop o file)
copied_more file a x y p o done ex ey ep =
    let n = length p in
    let d : take n (drop done (drop o file)) ≡ p = ap (take n) (sym (drop_drop o done file)) ∙ sym ep in
    let e : take (done + n) (drop o file) ≡ take done (drop o file) ++ p = take-add done n (drop o file) ∙ ap (λ (l : List ℕ). take done (drop o file) ++ l) d in
    ey ∙ ap (λ (l : List ℕ). l ++ p) ex ∙ append_assoc a (take done (drop o file)) p ∙ ap (λ (l : List ℕ). a ++ l) (sym e)

pub read_part : (file bytes old : List ℕ) (from len n at : ℕ) → IsPart file from old → length old ≡ len → at ≡ from + len → take len bytes ≡ old → IsPart file at (take n (drop len bytes)) → IsPart file from (take (len + n) bytes)
read_part file bytes old from len n at p el ea front q =
    let e : take (len + n) bytes ≡ old ++ take n (drop len bytes) = take-add len n bytes ∙ ap (λ (l : List ℕ). l ++ take n (drop len bytes)) front in
    let w : at ≡ from + length old = omega (arith, el, ea) in
    rw e (part_then file from old (take n (drop len bytes)) p (rw w at q))
