-- What contracts see of files.
use Rattle.std.proofs.Common.{◌≡◌, Bool, true, false, ◌&&◌, refl}
use Rattle.std.specs.Cmp.{IsPartialEquivalence, partial_equiv_from_equiv, and_per, on_per, nat_eq_equiv}
use Rattle.std.specs.Cmp.Lexicographic.{lists_per}
use Rattle.pdb_modules.specs.declared.files.FileRecord.{FileRecord}
use Rattle.pdb_modules.specs.declared.files.FileChecksum.{FileChecksum}
use Rattle.pdb_modules.specs.declared.files.FileChecksum.TheVariants as variant
use Rattle.pdb_modules.specs.declared.files.FileInfo.{FileInfo}
use Rattle.pdb_modules.specs.Files.{FileEntry, Checksum, absent, md5, sha1, sha256, has_digest, digest_kind, digest_bytes, same_sums, FileOf}

abbrev pub bytes_of_entry : FileRecord → FileEntry
bytes_of_entry entry = record { place = entry.place; name = entry.name; kind = entry.kind; digest = entry.digest.now }

abbrev pub shown_checksum : FileChecksum → Checksum
shown_checksum variant.None = absent
shown_checksum (variant.Md5 b) = md5 b.now
shown_checksum (variant.Sha1 b) = sha1 b.now
shown_checksum (variant.Sha256 b) = sha256 b.now

abbrev pub shown_file : FileInfo → FileOf
shown_file file = record { name = file.name.0; checksum = shown_checksum file.checksum }

abbrev pub same_checksum : FileChecksum → FileChecksum → Bool
same_checksum a b = same_sums (shown_checksum a) (shown_checksum b)

both_have : IsPartialEquivalence (λ a b. has_digest a && has_digest b)
both_have = record {
  symm = λ x y. swapped (has_digest x) (has_digest y);
  trans = λ x y z h k. joined (has_digest x) (has_digest y) (has_digest z) h k;
}
  where
    swapped : (s t : Bool) → (s && t) ≡ (t && s)
    swapped true true = refl
    swapped true false = refl
    swapped false true = refl
    swapped false false = refl

    joined : (s t u : Bool) → (s && t) ≡ true → (t && u) ≡ true → (s && u) ≡ true
    joined true t true h k = refl
    joined true true false h k = k
    joined true false false h k = h
    joined false t u h k = h

same_sums_laws : IsPartialEquivalence same_sums
same_sums_laws = and_per (and_per (on_per digest_kind (partial_equiv_from_equiv nat_eq_equiv)) (on_per digest_bytes (lists_per (partial_equiv_from_equiv nat_eq_equiv)))) both_have

-- equality is symmetric and transitive
pub same_laws : IsPartialEquivalence same_checksum
same_laws = on_per shown_checksum same_sums_laws
