-- Laws of checksums and exports.
use Rattle.std.proofs.Common.{◌≡◌, ℕ, ◌*◌, ◌/◌, ◌%◌, ◌<◌, Bool, true, false, cond, ◌&&◌, List, length, get_or, map, Ok, Err, refl, sym, ap, ◌∙◌, arith}
use Rattle.std.specs.Prelude.{Decides, ◌==◌}
use Rattle.std.specs.Str.{bytes_eq}
use Rattle.std.specs.List.{range_with_len}
use Rattle.std.proofs.lemmas.Slice.Eq.{bytes_eq-Decides}
use Rattle.std.proofs.lemmas.Bool.{eqb-true}
use Rattle.std.proofs.lemmas.List.FromFn.{get_or-map-range_with_len, length-map-range_with_len}
use Rattle.pdb_base.specs.declared.error.Error.TheVariants.{InvalidStreamLength}
use Rattle.pdb_base.specs.declared.error.Part.TheVariants.{CrossScopeExports}
use Rattle.pdb_modules.specs.Files.{Checksum, absent, md5, sha1, sha256, same_sums, HaveOneDigest}
use Rattle.pdb_modules.specs.CrossModule.{export_in, exports_in}

and_left : (s t : Bool) → (s && t) ≡ true → s ≡ true
and_left true t h = refl
and_left false t h = h

and_true : (s : Bool) → s ≡ true → (s && true) ≡ true
and_true true h = refl
and_true false h = h

one_digest : (x y : List ℕ) → Decides (bytes_eq x y && true) (x ≡ y)
one_digest x y = (λ h. (bytes_eq-Decides x y).0 (and_left (bytes_eq x y) true h), λ h. and_true (bytes_eq x y) ((bytes_eq-Decides x y).1 h))

pub equal_sums : (a b : Checksum) → Decides (same_sums a b) (HaveOneDigest a b)
equal_sums absent absent = (λ h. absurd cc, λ h. absurd h)
equal_sums absent (md5 y) = (λ h. absurd cc, λ h. absurd h)
equal_sums absent (sha1 y) = (λ h. absurd cc, λ h. absurd h)
equal_sums absent (sha256 y) = (λ h. absurd cc, λ h. absurd h)
equal_sums (md5 x) absent = (λ h. absurd cc, λ h. absurd h)
equal_sums (md5 x) (md5 y) = one_digest x y
equal_sums (md5 x) (sha1 y) = (λ h. absurd cc, λ h. absurd h)
equal_sums (md5 x) (sha256 y) = (λ h. absurd cc, λ h. absurd h)
equal_sums (sha1 x) absent = (λ h. absurd cc, λ h. absurd h)
equal_sums (sha1 x) (md5 y) = (λ h. absurd cc, λ h. absurd h)
equal_sums (sha1 x) (sha1 y) = one_digest x y
equal_sums (sha1 x) (sha256 y) = (λ h. absurd cc, λ h. absurd h)
equal_sums (sha256 x) absent = (λ h. absurd cc, λ h. absurd h)
equal_sums (sha256 x) (md5 y) = (λ h. absurd cc, λ h. absurd h)
equal_sums (sha256 x) (sha1 y) = (λ h. absurd cc, λ h. absurd h)
equal_sums (sha256 x) (sha256 y) = one_digest x y

abbrev listed : List ℕ → List (ℕ × ℕ)
listed part = map (export_in part) (range_with_len 0 (length part / 8))

read_so : (t : Bool) (part : List ℕ) (xs : List (ℕ × ℕ)) → cond t (Ok (listed part)) (Err (InvalidStreamLength CrossScopeExports)) ≡ Ok xs → (t ≡ true) × (listed part ≡ xs)
read_so true part xs h = (refl, cc)
read_so false part xs h = absurd cc

pub exports_count : (part : List ℕ) (xs : List (ℕ × ℕ)) → exports_in part ≡ Ok xs → 8 * length xs ≡ length part
unfolding exports_in
exports_count part xs h =
    let (whole, is) = read_so (length part % 8 == 0) part xs h in
    let rest : length part % 8 ≡ 0 = eqb-true (length part % 8) 0 whole in
    omega (arith, rest, sym (ap length is) ∙ length-map-range_with_len (export_in part) 0 (length part / 8))

pub exports_places : (part : List ℕ) (xs : List (ℕ × ℕ)) → exports_in part ≡ Ok xs → (i : ℕ) (d : ℕ × ℕ) → i < length xs → get_or xs i d ≡ export_in part i
unfolding exports_in
exports_places part xs h i d l =
    let (whole, is) = read_so (length part % 8 == 0) part xs h in
    let count = length-map-range_with_len (export_in part) 0 (length part / 8) in
    ap (λ (ys : List (ℕ × ℕ)). get_or ys i d) (sym is) ∙ get_or-map-range_with_len (export_in part) 0 (length part / 8) i i d (omega (arith, l, ap length is, count)) (omega arith)
