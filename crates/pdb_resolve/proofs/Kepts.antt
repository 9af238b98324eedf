-- What is kept of a file.
use Rattle.std.proofs.Common.{◌≡◌, ℕ, zero, suc, [], ◌∷◌, inl, inr, subst, ◌<◌, ◌≤◌, ◌+◌, List, Option, Some, None, Box, Bor, false, true, ap, sym, ◌∙◌, refl, map, length, replicate, slice_set, slice_index_or, arith}
use Rattle.std.specs.Prelude.{slice_get, option_copied, Result, Ok, Err, OnOk, OnErr, IfOk, IfErr}
use Rattle.pdb.specs.Error.{Error}
use Rattle.pdb.specs.Error.TheVariants.{OutOfMemory}
use Rattle.std.specs.Option.{is_some}
use Rattle.std.specs.declared.alloc.Global.{Global}
use Rattle.std.proofs.lemmas.List.{map-set, get_or_past, get_or-set_same, get_or-set_other, get_or-replicate, length-replicate, length-set}
use Rattle.std.proofs.lemmas.Bool.{cases_eq, cases_lt}
use Rattle.pdb.specs.Source.{State}
use Rattle.pdb.specs.Modules.{ModuleEntry}
use Rattle.pdb.specs.ModuleStream.{ModuleBytes}
use Rattle.pdb.specs.Answers.{module_info_in}
use Rattle.pdb_places.specs.AsIfEmpty.{if_found}
use Rattle.pdb_resolve.specs.declared.modules.Modules.{Modules}
use Rattle.pdb_resolve.specs.FileParts.{modules_listed, module_read, module_numbered}
use Rattle.pdb_resolve.specs.KeptParts.{boxed, codes_of, code_kept, streams_of, unkept, rooms_left, AreRead, AreModulesOf}

pub code_set : (xs : List (Option (Box ModuleBytes Global))) (k : ℕ) (b : Box ModuleBytes Global) (m : ModuleBytes) → b.value ≡ m → map boxed (slice_set xs k (Some b)) ≡ slice_set (map boxed xs) k (Some m)
code_set xs k b m e = map-set boxed xs k (Some b) ∙ ap (λ (x : ModuleBytes). slice_set (map boxed xs) k (Some x)) e

-- a module's code that says the same is the same module
pub code_stays : (xs : List (Option (Box ModuleBytes Global))) (k : ℕ) (b c : Box ModuleBytes Global) (d : Option (Box ModuleBytes Global)) → slice_index_or xs k d ≡ Some c → b.value ≡ c.value → map boxed (slice_set xs k (Some b)) ≡ map boxed xs
code_stays [] k b c d e f = refl
code_stays (x ∷ xs) zero b c d e f = ap (λ (o : Option ModuleBytes). o ∷ map boxed xs) (ap Some f ∙ sym (ap boxed e))
code_stays (x ∷ xs) (suc k) b c d e f = ap (λ (l : List (Option ModuleBytes)). boxed x ∷ l) (code_stays xs k b c d e f)

module _ (s : State) (ms : Modules) (are : AreModulesOf s ms) (told : s.told ≡ true) (k : ℕ) where
  by_list : slice_get (modules_listed s.file) k ≡ slice_get ms.listed.items k
  by_list = ap (λ (l : List ModuleEntry). slice_get l k) (sym (are.listed told))

  pub none_numbered : slice_get ms.listed.items k ≡ None → module_numbered s.file k ≡ None
  unfolding module_numbered
  none_numbered h = ap (module_read s.file) (by_list ∙ h)

  pub one_numbered : (m : ModuleEntry) → slice_get ms.listed.items k ≡ Some m → module_numbered s.file k ≡ if_found (module_info_in s.file m)
  unfolding module_numbered
  one_numbered m h = ap (module_read s.file) (by_list ∙ h)

-- ---- one more module

pub info_set : (xs : List (Option (Bor ModuleBytes))) (k : ℕ) (b : Bor ModuleBytes) (m : ModuleBytes) → b.now ≡ m → map option_copied (slice_set xs k (Some b)) ≡ slice_set (map option_copied xs) k (Some m)
info_set xs k b m e = map-set option_copied xs k (Some b) ∙ ap (λ (x : ModuleBytes). slice_set (map option_copied xs) k (Some x)) e

pub there_set : (xs ys : List (Option ModuleBytes)) (k : ℕ) (m : ModuleBytes) → k < length xs → ys ≡ slice_set xs k (Some m) → slice_index_or ys k None ≡ Some m
there_set xs ys k m there set = ap (λ (l : List (Option ModuleBytes)). slice_index_or l k None) set ∙ get_or-set_same xs k (Some m) None there

read_set : (file : List ℕ) (xs ys : List (Option ModuleBytes)) (k : ℕ) (m : ModuleBytes) → k < length xs → ys ≡ slice_set xs k (Some m) → module_numbered file k ≡ Some m → AreRead file xs → AreRead file ys
read_set file xs ys k m there set is are = λ j n h. elim (cases_eq j k) [
  | inl e ↦ (let both : Some m ≡ Some n = sym (there_set xs ys k m there set) ∙ (ap (λ (i : ℕ). slice_index_or ys i None) (sym e) ∙ h) in
      ap (module_numbered file) e ∙ (is ∙ both))
  | inr o ↦ (let other : slice_index_or (slice_set xs k (Some m)) j None ≡ slice_index_or xs j None = get_or-set_other xs k j (Some m) None o in
      are j n (sym other ∙ (ap (λ (l : List (Option ModuleBytes)). slice_index_or l j None) (sym set) ∙ h)))
]

-- one more that wasn't there leaves the others
pub stays_then : {U : Type 0} (xs ys : List (Option ModuleBytes)) (k : ℕ) (m : ModuleBytes) (r : Result U Error)
    → OnOk r ((k < length xs) × (ys ≡ slice_set xs k (Some m))) → IfErr r (λ e. (e ≡ OutOfMemory) × (ys ≡ xs)) → slice_index_or xs k None ≡ None
    → (j : ℕ) (n : ModuleBytes) → slice_index_or xs j None ≡ Some n → slice_index_or ys j None ≡ Some n
stays_then xs ys k m (Ok u) kept refused none j n h = elim (cases_eq j k) [
  | inl e ↦ (let both : Some n ≡ None = sym h ∙ (ap (λ (i : ℕ). slice_index_or xs i None) e ∙ none) in absurd cc)
  | inr o ↦ (let other : slice_index_or (slice_set xs k (Some m)) j None ≡ slice_index_or xs j None = get_or-set_other xs k j (Some m) None o in
      ap (λ (l : List (Option ModuleBytes)). slice_index_or l j None) kept.1 ∙ (other ∙ h))
]
stays_then xs ys k m (Err e) kept refused none j n h = ap (λ (l : List (Option ModuleBytes)). slice_index_or l j None) refused.1 ∙ h

-- what is kept once one more was kept, or memory ended
still_read : {U : Type 0} (file : List ℕ) (xs ys : List (Option ModuleBytes)) (k : ℕ) (m : ModuleBytes) (r : Result U Error)
    → OnOk r ((k < length xs) × (ys ≡ slice_set xs k (Some m))) → IfErr r (λ e. (e ≡ OutOfMemory) × (ys ≡ xs)) → module_numbered file k ≡ Some m → AreRead file xs → AreRead file ys
still_read file xs ys k m (Ok u) kept refused is are = read_set file xs ys k m kept.0 kept.1 is are
still_read file xs ys k m (Err e) kept refused is are = subst (AreRead file) (sym refused.1) are

still_many : {U : Type 0} (xs ys : List (Option ModuleBytes)) (k : ℕ) (m : ModuleBytes) (r : Result U Error)
    → OnOk r ((k < length xs) × (ys ≡ slice_set xs k (Some m))) → IfErr r (λ e. (e ≡ OutOfMemory) × (ys ≡ xs)) → length ys ≡ length xs
still_many xs ys k m (Ok u) kept refused = ap length kept.1 ∙ length-set xs k (Some m)
still_many xs ys k m (Err e) kept refused = ap length refused.1

-- one stream more, and one room fewer
unkept_set : (xs : List (Option ModuleBytes)) (k : ℕ) (m : ModuleBytes) → k < length xs → slice_index_or xs k None ≡ None → unkept xs ≡ unkept (slice_set xs k (Some m)) + 1
unkept_set [] k m there none = absurd (omega (arith, there))
unkept_set (None ∷ xs) zero m there none = refl
unkept_set (Some n ∷ xs) zero m there none = absurd cc
unkept_set (None ∷ xs) (suc k) m there none = let fewer = unkept_set xs k m (omega (arith, there)) none in omega (arith, fewer)
unkept_set (Some n ∷ xs) (suc k) m there none = unkept_set xs k m (omega (arith, there)) none

rooms_then : {U : Type 0} (xs ys : List (Option ModuleBytes)) (left more : ℕ) (k : ℕ) (m : ModuleBytes) (r : Result U Error)
    → OnOk r ((k < length xs) × (ys ≡ slice_set xs k (Some m))) → IfErr r (λ e. (e ≡ OutOfMemory) × (ys ≡ xs)) → OnOk r (left ≡ more + 1) → OnErr r (more ≡ left)
    → slice_index_or xs k None ≡ None → unkept xs ≤ left → unkept ys ≤ more
rooms_then xs ys left more k m (Ok u) kept refused taken untaken none room =
    let fewer = unkept_set xs k m kept.0 none in
    let same = ap unkept kept.1 in
    omega (arith, fewer, same, taken, room)
rooms_then xs ys left more k m (Err e) kept refused taken untaken none room =
    let same = ap unkept refused.1 in
    omega (arith, same, untaken, room)

-- where none was put down each wants a room
pub none_unkept : (cs : List (Option ModuleBytes)) (n : ℕ) → cs ≡ replicate n None → unkept cs ≡ n
none_unkept cs n e = ap unkept e ∙ all_unkept n
  where
    all_unkept : (n : ℕ) → unkept (replicate n None) ≡ n
    all_unkept zero = refl
    all_unkept (suc n) = let all = all_unkept n in omega (arith, all)

module _ (s : State) (ms : Modules) (are : AreModulesOf s ms) (k : ℕ) (new : Modules) (info : ModuleBytes) (same : new.listed ≡ ms.listed) where
  pub put_then : {U : Type 0} (r : Result U Error) → codes_of new ≡ codes_of ms
      → OnOk r (rooms_left ms ≡ rooms_left new + 1) → OnErr r (rooms_left new ≡ rooms_left ms) → slice_index_or (streams_of ms) k None ≡ None
      → OnOk r ((k < length (streams_of ms)) × (streams_of new ≡ slice_set (streams_of ms) k (Some info))) → IfErr r (λ e. (e ≡ OutOfMemory) × (streams_of new ≡ streams_of ms))
      → (s.told ≡ true → module_numbered s.file k ≡ Some info) → AreModulesOf s new
  put_then r codes taken untaken none kept refused is =
      record {
        listed = λ told. ap (λ l. l.items) same ∙ are.listed told;
        codes = λ told. subst (AreRead s.file) (sym codes) (are.codes told);
        streams = λ told. still_read s.file (streams_of ms) (streams_of new) k info r kept refused (is told) (are.streams told);
        as_many = ap length codes ∙ (are.as_many ∙ ap (λ l. length l.items) (sym same));
        as_many_streams = still_many (streams_of ms) (streams_of new) k info r kept refused ∙ (are.as_many_streams ∙ ap (λ l. length l.items) (sym same));
        rooms = rooms_then (streams_of ms) (streams_of new) (rooms_left ms) (rooms_left new) k info r kept refused taken untaken none are.rooms;
      }

  pub kept_then : {U : Type 0} (r : Result U Error) → streams_of new ≡ streams_of ms → rooms_left new ≡ rooms_left ms
      → OnOk r ((k < length (codes_of ms)) × (codes_of new ≡ slice_set (codes_of ms) k (Some info))) → IfErr r (λ e. (e ≡ OutOfMemory) × (codes_of new ≡ codes_of ms))
      → (s.told ≡ true → module_numbered s.file k ≡ Some info) → AreModulesOf s new
  kept_then r streams rooms kept refused is =
      record {
        listed = λ told. ap (λ l. l.items) same ∙ are.listed told;
        codes = λ told. still_read s.file (codes_of ms) (codes_of new) k info r kept refused (is told) (are.codes told);
        streams = λ told. subst (AreRead s.file) (sym streams) (are.streams told);
        as_many = still_many (codes_of ms) (codes_of new) k info r kept refused ∙ (are.as_many ∙ ap (λ l. length l.items) (sym same));
        as_many_streams = ap length streams ∙ (are.as_many_streams ∙ ap (λ l. length l.items) (sym same));
        rooms = let less = ap unkept streams in let room = are.rooms in omega (arith, less, rooms, room);
      }

pub numbered_then : {U : Type 0} (file : List ℕ) (new : Modules) (k : ℕ) (info : ModuleBytes) (r : Result U Error) → IfOk r (λ _. code_kept new k ≡ Some info) → module_numbered file k ≡ Some info → IfOk r (λ _. code_kept new k ≡ module_numbered file k)
numbered_then file new k info (Ok u) kept is = kept ∙ sym is
numbered_then file new k info (Err e) kept is = tt

pub none_copied : {A : Type 0} (o : Option (Bor A)) → false ≡ is_some o → option_copied o ≡ None
none_copied None e = refl
none_copied (Some x) e = absurd cc

abbrev unread : Option ModuleBytes
unread = None

none_at : (n k : ℕ) → slice_index_or (replicate n unread) k None ≡ None
none_at n k = elim (cases_lt k n) [
  | inl l ↦ get_or-replicate n k unread None l
  | inr g ↦ (let size = length-replicate n unread in get_or_past (replicate n unread) k None (omega arith))
]

-- where no module was read, none is kept
pub none_kept : (cs : List (Option ModuleBytes)) (n k : ℕ) (m : ModuleBytes) → cs ≡ replicate n None → slice_index_or cs k None ≡ Some m → ⊥
none_kept cs n k m e h = let none : None ≡ Some m = sym (none_at n k) ∙ (ap (λ (l : List (Option ModuleBytes)). slice_index_or l k None) (sym e) ∙ h) in absurd cc

pub none_many : (cs : List (Option ModuleBytes)) (n : ℕ) → cs ≡ replicate n None → length cs ≡ n
none_many cs n e = ap length e ∙ length-replicate n unread

abbrev unborrowed : Option (Bor ModuleBytes)
unborrowed = None

pub none_there : (n : ℕ) → map option_copied (replicate n unborrowed) ≡ replicate n unread
none_there zero = refl
none_there (suc n) = ap (λ (l : List (Option ModuleBytes)). unread ∷ l) (none_there n)
