-- Files that are put one after another.
use Rattle.std.proofs.Common.{◌≡◌, ℕ, ◌+◌, ◌<◌, ◌≤◌, List, [], ◌∷◌, map, length, Some, None, Result, Ok, Err, sym, ap}
use Rattle.pdb.specs.Error.{Error}
use Rattle.pdb.specs.Left.{Follows}
use Rattle.pdb_base.specs.Cursor.{Cursor, Reads}
use Rattle.pdb_base.specs.Fields.{number, bytes_at, aligned_at}
use Rattle.pdb_base.specs.Refusal.{◌>>=◌}
use Rattle.pdb_base.proofs.Places.{bind_ok}
use Rattle.pdb.specs.Files.{FileEntry, known_kind, entry_at, entry_length, entries_from}
use Rattle.pdb.specs.FileViews.{bytes_of_entry}
use Rattle.pdb_modules.specs.declared.files.FileRecord.{FileRecord}
use Rattle.pdb_modules.proofs.FileLemmas.{entries_within}
use Rattle.pdb_modules.proofs.Turns.{turn_follows, turn_fault, turn_end}
use Rattle.pdb_c.specs.Rooms.{put}
use Rattle.pdb_c.specs.Lists.{IsListed, list_code}
use Rattle.pdb_c.specs.FileRows.{file_row, file_told}
use Rattle.pdb_c.specs.declared.files.PdbFile.{PdbFile}
use Rattle.pdb_c.proofs.ListSteps.{listed_at}

-- ---- the place of a record

abbrev made : ℕ → List ℕ → List ℕ → ℕ → FileEntry
made p header digest kind = record { place = p; name = number header 0 4; kind = kind; digest = digest }

abbrev padded : List ℕ → ℕ → List ℕ → List ℕ → ℕ → Result FileEntry Error
padded b p header digest kind = aligned_at b (p + 6 + number header 4 1) 4 >>= λ u. Ok (made p header digest kind)

abbrev of_kind : List ℕ → ℕ → List ℕ → List ℕ → Result FileEntry Error
of_kind b p header digest = known_kind (number header 5 1) >>= padded b p header digest

abbrev with_digest : List ℕ → ℕ → List ℕ → Result FileEntry Error
with_digest b p header = bytes_at b (p + 6) (number header 4 1) >>= of_kind b p header

pub entry_place : (b : List ℕ) (p : ℕ) (x : FileEntry) → entry_at b p ≡ Ok x → x.place ≡ p
unfolding entry_at
entry_place b p x e =
    let (header, e1, rest1) = bind_ok (bytes_at b p 6) (with_digest b p) x e in
    let (digest, e2, rest2) = bind_ok (bytes_at b (p + 6) (number header 4 1)) (of_kind b p header) x rest1 in
    let (kind, e3, rest3) = bind_ok (known_kind (number header 5 1)) (padded b p header digest) x rest2 in
    let (u, e4, rest4) = bind_ok (aligned_at b (p + 6 + number header 4 1) 4) (λ u. Ok (made p header digest kind)) x rest3 in
    let is : made p header digest kind ≡ x = cc in
    ap (λ (y : FileEntry). y.place) (sym is)

-- ---- steps

module _ (b : List ℕ) (old new : Cursor) (same : old.bytes ≡ b) where
  pub file_follows : (x : FileRecord) → Reads bytes_of_entry old new (Ok x) (entry_at old.bytes old.place) (entry_length old.place) → Follows (entries_from b old.place) (bytes_of_entry x ∷ []) (entries_from b new.place)
  unfolding entries_from
  file_follows x reads = turn_follows entry_at entry_length entries_within bytes_of_entry b old new same x reads

  file_fault : (e : Error) → old.place < length b → Reads bytes_of_entry old new (Err e) (entry_at old.bytes old.place) (entry_length old.place) → ((entries_from b old.place).items ≡ []) × ((entries_from b old.place).fault ≡ Some e)
  unfolding entries_from
  file_fault e below reads = let ends = turn_fault entry_at entry_length entries_within bytes_of_entry b old new same e below reads in (ends.0, ends.1)

module _ (b : List ℕ) (old : Cursor) (same : old.bytes ≡ b) where
  file_end : length b ≤ old.place → ((entries_from b old.place).items ≡ []) × ((entries_from b old.place).fault ≡ None)
  unfolding entries_from
  file_end past = let ends = turn_end entry_at entry_length entries_within bytes_of_entry b old old same past in (ends.0, ends.1)

-- the records before a fault are all that is put
module _ (b : List ℕ) (here : Cursor) (same : here.bytes ≡ b) (n c : ℕ) (before after : List PdbFile) (told : put n (map file_told (entries_from b here.place).items) (map file_row after) ≡ put 0 (map file_told (entries_from b 0).items) (map file_row before)) (counted : n + length (entries_from b here.place).items ≡ length (entries_from b 0).items) (fault : (entries_from b here.place).fault ≡ (entries_from b 0).fault) (room : length after ≡ length before) where
  pub listed_at_fault : (new : Cursor) (e : Error) → here.place < length b → Reads bytes_of_entry here new (Err e) (entry_at here.bytes here.place) (entry_length here.place) → c ≡ list_code (length after) n (Some e) → IsListed file_row file_told c before after n (entries_from b 0)
  listed_at_fault new e below reads code =
      let ends = file_fault b here new same e below reads in
      listed_at file_row file_told n c before after (entries_from b here.place) (entries_from b 0) (Some e) ends.0 ends.1 told counted fault room code

  pub listed_at_end : length b ≤ here.place → c ≡ list_code (length after) n None → IsListed file_row file_told c before after n (entries_from b 0)
  listed_at_end past code =
      let ends = file_end b here same past in
      listed_at file_row file_told n c before after (entries_from b here.place) (entries_from b 0) None ends.0 ends.1 told counted fault room code
