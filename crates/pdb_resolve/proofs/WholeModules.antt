-- A module of a file is whole where its stream is.
use Rattle.std.proofs.Common.{◌≡◌, ℕ, Bool, true, false, List, Option, Some, None, Result, Ok, Err, refl}
use Rattle.std.specs.Prelude.{◌==◌, if◌then◌else◌}
use Rattle.std.specs.List.{slice_get}
use Rattle.pdb.specs.Error.{Error}
use Rattle.pdb.specs.Answers.{module_info_in, raw_stream_in, some_bytes, with_sizes}
use Rattle.pdb.specs.Container.{stream_of}
use Rattle.pdb.specs.Modules.{ModuleEntry}
use Rattle.pdb.specs.ModuleStream.{ModuleBytes}
use Rattle.pdb_base.specs.Refusal.{◌>>=◌}
use Rattle.pdb_places.specs.AsIfEmpty.{if_found}
use Rattle.pdb_resolve.specs.FileParts.{modules_listed, module_numbered, module_read}
use Rattle.pdb_code.specs.Whole.{is_whole}
use Rattle.pdb_resolve.specs.WholeModules.{is_whole_info, is_whole_listed, is_whole_numbered}

-- a module that was read
pub whole_read : (file : List ℕ) (k : ℕ) (m : ModuleBytes) → module_numbered file k ≡ Some m → is_whole m ≡ is_whole_numbered file k
unfolding module_numbered is_whole_numbered
whole_read file k m e = by_listed (slice_get (modules_listed file) k) e
  where
    by_info : (r : Result (Option ModuleBytes) Error) → if_found r ≡ Some m → is_whole m ≡ is_whole_info r
    by_info (Ok (Some x)) e = cc
    by_info (Ok None) e = absurd cc
    by_info (Err d) e = absurd cc

    by_listed : (o : Option ModuleEntry) → module_read file o ≡ Some m → is_whole m ≡ is_whole_listed file o
    by_listed None e = absurd cc
    by_listed (Some x) e = by_info (module_info_in file x) e

-- one that wasn't has no stream, or one with an error
info_unread : (file : List ℕ) (m : ModuleEntry) → if_found (module_info_in file m) ≡ None → (m.stream == 0xffff) ≡ is_whole_info (module_info_in file m)
unfolding module_info_in raw_stream_in
info_unread file m e = by_test (m.stream == 0xffff) (stream_of file m.stream None) e
  where
    by_test : (t : Bool) (r : Result (List ℕ) Error) → if_found ((if t then Ok None else (r >>= some_bytes)) >>= λ bytes. Ok (with_sizes m bytes)) ≡ None → t ≡ is_whole_info ((if t then Ok None else (r >>= some_bytes)) >>= λ bytes. Ok (with_sizes m bytes))
    by_test true r e = refl
    by_test false (Ok x) e = absurd cc
    by_test false (Err d) e = refl

pub whole_unread : (file : List ℕ) (k : ℕ) (m : ModuleEntry) → module_numbered file k ≡ None → slice_get (modules_listed file) k ≡ Some m → (m.stream == 0xffff) ≡ is_whole_numbered file k
unfolding module_numbered is_whole_numbered
whole_unread file k m e listed = rw listed (info_unread file m (rw listed at e))

pub whole_absent : (file : List ℕ) (k : ℕ) → slice_get (modules_listed file) k ≡ None → true ≡ is_whole_numbered file k
unfolding is_whole_numbered
whole_absent file k listed = rw listed refl
