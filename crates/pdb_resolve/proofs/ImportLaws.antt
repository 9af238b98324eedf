-- What tables of imports and exports say of an id is what its definition says.
use Rattle.std.proofs.Common.{◌≡◌, ℕ, ◌/◌, ◌%◌, ◌^◌, ◌<◌, Bool, true, false, cond, List, [], length, map, take, get_or, Option, Some, None, Result, Ok, Err, refl, ap, ◌∙◌, arith}
use Rattle.std.proofs.Math.Path.{fun_ext}
use Rattle.std.proofs.lemmas.Bool.{le-ltb, ltb-true}
use Rattle.std.proofs.lemmas.List.{get_or-map, get_or-take, length-take}
use Rattle.std.proofs.lemmas.Nat.{mod_below}
use Rattle.std.specs.Prelude.{IfOk, nat_lt}
use Rattle.pdb.specs.Error.{Error}
use Rattle.pdb.specs.Error.TheVariants.{NotACrossModuleRef, CrossModuleRefNotFound}
use Rattle.pdb.specs.Refusal.{◌>>=◌}
use Rattle.pdb.specs.Modules.{ModuleEntry}
use Rattle.pdb.specs.Answers.{module_info_in}
use Rattle.pdb.specs.ModuleStream.{ModuleBytes, exports_of, imports_of}
use Rattle.pdb.specs.CrossModule.{ImportedModule, Reference, reference_of, number_in, nothing, global_of}
use Rattle.pdb_places.specs.AsIfEmpty.{if_found, if_read, read_or}
use Rattle.pdb_resolve.specs.FileParts.{module_read}
use Rattle.pdb_resolve.specs.AcrossModules.{exported_id, exports_where, global_id, is_imported, reference_in}
use Rattle.pdb_resolve.specs.ImportTables.{ImportTable, exports_for, id_among, ids_by, imports_or_none}

module _ (file : List ℕ) (strings : Option (List ℕ)) (ms : List ModuleEntry) where
  abbrev told : Result Reference Error → Option ℕ
  told r = exported_id file strings ms (if_read r)

  abbrev exports : ImportedModule → List (ℕ × ℕ)
  exports = exports_for file strings ms

  number_case : (pairs : List (ℕ × ℕ)) (x : ImportedModule) (n l : ℕ) (b : Bool) → pairs ≡ exports x
      → id_among pairs (if_read (cond b (Ok (record { name = x.name; local = l })) (Err (CrossModuleRefNotFound n)))) ≡ told (cond b (Ok (record { name = x.name; local = l })) (Err (CrossModuleRefNotFound n)))
  number_case pairs x n l true h = ap (global_of l) h
  number_case pairs x n l false h = refl

  place_case : (pairs : List (ℕ × ℕ)) (x : ImportedModule) (n i : ℕ) (b : Bool) → (b ≡ true → pairs ≡ exports x)
      → id_among pairs (if_read (cond b (number_in n x i) (Err (CrossModuleRefNotFound n)))) ≡ told (cond b (number_in n x i) (Err (CrossModuleRefNotFound n)))
  place_case pairs x n i true h = number_case pairs x n _ (nat_lt i (length x.bytes / 4)) (h refl)
  place_case pairs x n i false h = refl

  top_case : (pairs : List (ℕ × ℕ)) (n : ℕ) (r : Result Reference Error) (b : Bool) → id_among pairs (if_read r) ≡ told r
      → id_among pairs (if_read (cond b (Err (NotACrossModuleRef n)) r)) ≡ told (cond b (Err (NotACrossModuleRef n)) r)
  top_case pairs n r true h = refl
  top_case pairs n r false h = h

  get_at : (xs : List ImportedModule) (k : ℕ) → k < 2048 → nat_lt k (length xs) ≡ true → get_or (map exports (take 2048 xs)) k [] ≡ exports (get_or xs k nothing)
  get_at xs k l h =
      let lies : k < length xs = ltb-true k (length xs) h in
      let inside : k < length (take 2048 xs) = omega (arith, length-take 2048 xs) in
      get_or-map exports (take 2048 xs) k nothing [] inside ∙ ap exports (get_or-take 2048 xs k nothing l)

  by_imports : (n : ℕ) (xs : List ImportedModule) → id_among (get_or (map exports (take 2048 xs)) (n / 2 ^ 20 % 2 ^ 11) []) (if_read (reference_of n xs)) ≡ told (reference_of n xs)
  unfolding reference_of
  by_imports n xs =
      let k = n / 2 ^ 20 % 2 ^ 11 in
      let l : k < 2048 = mod_below (n / 2 ^ 20) 2048 (omega arith) in
      top_case _ n _ (nat_lt n (2 ^ 31)) (place_case _ (get_or xs k nothing) n (n % 2 ^ 20) (nat_lt k (length xs)) (get_at xs k l))

  none_case : (a b : Bool) (n : ℕ) (r : Result Reference Error) → b ≡ false → told (cond a (Err (NotACrossModuleRef n)) (cond b r (Err (CrossModuleRefNotFound n)))) ≡ None
  none_case true b n r h = refl
  none_case false true n r h = absurd cc
  none_case false false n r h = refl

  none_of_none : (n : ℕ) → told (reference_of n []) ≡ None
  unfolding reference_of
  none_of_none n = none_case (nat_lt n (2 ^ 31)) (nat_lt (n / 2 ^ 20 % 2 ^ 11) 0) n (number_in n nothing (n % 2 ^ 20)) (le-ltb (n / 2 ^ 20 % 2 ^ 11) 0 (omega arith))

  of_imports : (n : ℕ) (r : Result (List ImportedModule) Error)
      → id_among (get_or (map exports (take 2048 (imports_or_none r))) (n / 2 ^ 20 % 2 ^ 11) []) (if_read (reference_of n (imports_or_none r))) ≡ told (r >>= reference_of n)
  of_imports n (Ok xs) = by_imports n xs
  of_imports n (Err e) = by_imports n [] ∙ none_of_none n

  -- by the imports of a module, or none where they have an error
  pub ids_are : (m : ModuleBytes) (t : ImportTable) → t.imports ≡ imports_or_none (imports_of m) → t.exports ≡ map exports (take 2048 t.imports)
      → ids_by t ≡ global_id file strings ms m
  unfolding reference_in
  ids_are m t is are = fun_ext (λ n. ap (λ (o : Option ℕ). cond (is_imported n) o (Some n))
      (ap (λ (l : List (List (ℕ × ℕ))). id_among (get_or l (n / 2 ^ 20 % 2 ^ 11) []) (if_read (reference_of n t.imports))) are
      ∙ ap (λ (x : List ImportedModule). id_among (get_or (map exports (take 2048 x)) (n / 2 ^ 20 % 2 ^ 11) []) (if_read (reference_of n x))) is
      ∙ of_imports n (imports_of m)))

-- the exports of a listed module whose stream is there
pub exports_known : (file : List ℕ) (o : Option ModuleEntry) (m : ModuleEntry) (info : ModuleBytes) (none : List (ℕ × ℕ)) (r : Result (List (ℕ × ℕ)) Error) → o ≡ Some m
    → if_found (module_info_in file m) ≡ Some info → none ≡ [] → IfOk r (λ x. x ≡ read_or (exports_of info) none) → IfOk r (λ x. x ≡ exports_where (module_read file o))
exports_known file o m info none r listed found empty h = rw (listed, found) (rw empty at h)
