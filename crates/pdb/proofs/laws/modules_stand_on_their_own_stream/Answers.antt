use Rattle.std.proofs.Common.{◌≡◌, ◌≢◌, ℕ, ◌==◌, Bool, true, false, cond, List, Option, Some, None, Result, Ok, Err, refl, ap, ◌∙◌}
use Rattle.std.proofs.lemmas.Bool.{eqb-false}
use Rattle.pdb_base.specs.declared.error.Error.{Error}
use Rattle.pdb_base.specs.Refusal.{◌>>=◌}
use Rattle.pdb_base.specs.Container.{stream_of}
use Rattle.pdb_dbi.specs.Modules.{ModuleEntry}
use Rattle.pdb.specs.Answers.{debug_information_in, module_listed, module_of_file, module_info_in, info_listed, raw_stream_in, some_bytes, with_sizes}
use Rattle.pdb.proofs.laws.modules_stand_on_their_own_stream.Goals as goal

same_list : (a b : List ℕ) (k : ℕ) → stream_of a 3 None ≡ stream_of b 3 None → module_listed a k ≡ module_listed b k
unfolding module_listed debug_information_in
same_list a b k e = rw e refl

same_raw : (a b : List ℕ) (n : ℕ) (t : Bool) → (n == 0xffff) ≡ t → (n ≢ 0xffff → stream_of a n None ≡ stream_of b n None) → cond t (Ok None) (stream_of a n None >>= some_bytes) ≡ cond t (Ok None) (stream_of b n None >>= some_bytes)
same_raw a b n true e h = refl
same_raw a b n false e h = rw (h (eqb-false n 0xffff e)) refl

same_info : (a b : List ℕ) (m : ModuleEntry) → (m.stream ≢ 0xffff → stream_of a m.stream None ≡ stream_of b m.stream None) → module_info_in a m ≡ module_info_in b m
unfolding module_info_in raw_stream_in
same_info a b m h = ap (λ (r : Result (Option (List ℕ)) Error). r >>= (λ bytes. Ok (with_sizes m bytes))) (same_raw a b m.stream (m.stream == 0xffff) refl h)

same_behind : (a b : List ℕ) (r : Result (Option ModuleEntry) Error) → ((m : ModuleEntry) → r ≡ Ok (Some m) → m.stream ≢ 0xffff → stream_of a m.stream None ≡ stream_of b m.stream None) → (r >>= info_listed a) ≡ (r >>= info_listed b)
same_behind a b (Ok None) h = refl
same_behind a b (Ok (Some m)) h = same_info a b m (h m refl)
same_behind a b (Err e) h = refl

pub returns : goal.returns
unfolding module_of_file
returns c a b k dbi own = same_behind a b (module_listed a k) own ∙ ap (λ r. r >>= info_listed b) (same_list a b k dbi)
