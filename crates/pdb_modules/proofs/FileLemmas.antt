-- The turns of the loop over files.
use Rattle.std.proofs.Common.{◌≡◌, ℕ, ◌+◌, ◌-◌, ◌<◌, ◌≤◌, List, [], ◌∷◌, length, map, drop, length-take, length-drop, min, Some, None, inl, inr, Result, Ok, Err, refl, ap, ◌∙◌, arith}
use Rattle.std.proofs.lemmas.Bool.Decides.{nat_tests}
use Rattle.std.proofs.lemmas.Bool.{cases_lt}
use Rattle.std.proofs.lemmas.List.{length-map}
use Rattle.pdb_base.specs.declared.error.Error.{Error}
use Rattle.pdb_base.specs.Cursor.{Cursor, Reads}
use Rattle.pdb_base.specs.Refusal.{◌>>=◌}
use Rattle.pdb_base.specs.Fields.{number, bytes_at, aligned_at, padding}
use Rattle.pdb_base.specs.Left.{Follows, Ends, ended}
use Rattle.pdb_base.specs.Tiling.{listing}
use Rattle.pdb_base.proofs.Places.{bind_ok, slice_is}
use Rattle.pdb_base.proofs.Readings.{ReadsInside, read_item, read_fault, read_end}
use Rattle.pdb_base.proofs.Tilings.{few, listing_end}
use Rattle.pdb_modules.specs.declared.files.FileRecord.{FileRecord}
use Rattle.pdb_modules.specs.Files.{FileEntry, FileOf, known_kind, entry_at, entry_length, entries, entries_from, file_of, files_left, files_of}
use Rattle.pdb_modules.specs.FileViews.{bytes_of_entry}

aligned_inside : (b : List ℕ) (p n : ℕ) (u : Unit {0}) → aligned_at b p n ≡ Ok u → p + padding p n ≤ length b
aligned_inside b p n u e = elim (cases_lt (length b) (p + padding p n)) [
  | inl past ↦ absurd (grind (arith, nat_tests))
  | inr there ↦ there
]

abbrev made : ℕ → List ℕ → List ℕ → ℕ → FileEntry
made p header digest kind = record { place = p; name = number header 0 4; kind = kind; digest = digest }

abbrev padded : List ℕ → ℕ → List ℕ → List ℕ → ℕ → Result FileEntry Error
padded b p header digest kind = aligned_at b (p + 6 + number header 4 1) 4 >>= λ u. Ok (made p header digest kind)

abbrev of_kind : List ℕ → ℕ → List ℕ → List ℕ → Result FileEntry Error
of_kind b p header digest = known_kind (number header 5 1) >>= padded b p header digest

abbrev with_digest : List ℕ → ℕ → List ℕ → Result FileEntry Error
with_digest b p header = bytes_at b (p + 6) (number header 4 1) >>= of_kind b p header

entry_ends : (b : List ℕ) (p : ℕ) (x : FileEntry) → entry_at b p ≡ Ok x → p + 6 + length x.digest + padding (p + 6 + length x.digest) 4 ≤ length b
unfolding entry_at
entry_ends b p x e =
    let (header, e1, rest1) = bind_ok (bytes_at b p 6) (with_digest b p) x e in
    let (digest, e2, rest2) = bind_ok (bytes_at b (p + 6) (number header 4 1)) (of_kind b p header) x rest1 in
    let (kind, e3, rest3) = bind_ok (known_kind (number header 5 1)) (padded b p header digest) x rest2 in
    let (u, e4, rest4) = bind_ok (aligned_at b (p + 6 + number header 4 1) 4) (λ u. Ok (made p header digest kind)) x rest3 in
    let is : made p header digest kind ≡ x = cc in
    let slice = slice_is b (p + 6) (number header 4 1) digest e2 in
    let long : length digest ≡ number header 4 1 = ap length slice.value ∙ (length-take (number header 4 1) (drop (p + 6) b) ∙ within b p (number header 4 1) slice.there) in
    rw (← is) (rw long (aligned_inside b (p + 6 + number header 4 1) 4 u e4))
  where
    within : (b : List ℕ) (p n : ℕ) → p + 6 + n ≤ length b → min n (length (drop (p + 6) b)) ≡ n
    within b p n h = omega (arith, h, length-drop (p + 6) b)

pub entries_within : ReadsInside entry_at entry_length
entries_within = record { inside = λ b p x e. let ends = entry_ends b p x e in (omega arith, omega (arith, ends)) }

pub files_few : (b : List ℕ) (p : ℕ) → length (files_left (entries_from b p)).items ≤ length b - p
unfolding entries_from
files_few b p = rw (length-map (listing entries b p).items file_of) (few entries b p)

pub no_files : (b : List ℕ) (p : ℕ) → length b ≤ p → files_left (entries_from b p) ≡ ended
unfolding entries_from
no_files b p h = ap files_left (listing_end entries b p h)

pub none_of_nothing : files_of [] ≡ ended
unfolding files_of
none_of_nothing = no_files [] 0 (omega arith)

module _ (old new : Cursor) where
  pub file_item : (x : FileRecord) (f : FileOf) → f ≡ file_of (bytes_of_entry x) → Reads bytes_of_entry old new (Ok x) (entry_at old.bytes old.place) (entry_length old.place) → Follows (files_left (entries_from old.bytes old.place)) (f ∷ []) (files_left (entries_from new.bytes new.place))
  unfolding entries_from
  file_item x f is reads =
      let item = read_item entry_at entry_length entries_within bytes_of_entry (listing entries old.bytes old.place) old new refl x reads in
      rw is (ap (map file_of) item.0, item.1)

  pub file_fault : (e : Error) (b : List ℕ) (q : ℕ) → old.place < length old.bytes → Reads bytes_of_entry old new (Err e) (entry_at old.bytes old.place) (entry_length old.place) → b ≡ new.bytes → length b ≤ q → Ends (files_left (entries_from old.bytes old.place)) [] (Some e) (files_left (entries_from b q))
  unfolding entries_from
  file_fault e b q here reads same past =
      let fault = read_fault entry_at entry_length entries_within bytes_of_entry (listing entries old.bytes old.place) old new refl e b q here reads same past in
      (ap (map file_of) fault.0, fault.1, ap files_left fault.2)

  pub file_end : length old.bytes ≤ old.place → Ends (files_left (entries_from old.bytes old.place)) [] None (files_left (entries_from old.bytes old.place))
  unfolding entries_from
  file_end past =
      let end = read_end entry_at entry_length entries_within bytes_of_entry (listing entries old.bytes old.place) old old refl past in
      (ap (map file_of) end.0, end.1, ap files_left end.2)
