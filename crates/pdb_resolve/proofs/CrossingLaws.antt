-- What is kept of the lists by which an id leads to another module, when one more is read, and what it says.
use Rattle.std.proofs.Common.{◌≡◌, ℕ, ◌+◌, ◌/◌, ◌%◌, ◌^◌, Bool, true, false, cond, List, [], Option, Some, None, Result, Ok, Err, inl, inr, sym, ap, subst, ◌∙◌, refl, arith}
use Rattle.std.specs.Prelude.{◌==◌, slice_get, nat_lt, IsSome, OnOk, OnErr}
use Rattle.std.proofs.lemmas.Bool.{cases_eq, eq-eqb, le-ltb, ne_eqb}
use Rattle.pdb.specs.Error.{Error}
use Rattle.pdb.specs.Error.TheVariants.{NotACrossModuleRef, CrossModuleRefNotFound}
use Rattle.pdb.specs.Refusal.{◌>>=◌}
use Rattle.pdb.specs.CrossModule.{ImportedModule, Reference, global_of, nothing, number_in, reference_of}
use Rattle.pdb.specs.Modules.{ModuleEntry}
use Rattle.pdb.specs.ModuleStream.{ModuleBytes, imports_of}
use Rattle.pdb_places.specs.AsIfEmpty.{if_read}
use Rattle.pdb_resolve.specs.AcrossModules.{exported_id, exports_named, exports_where, reference_in}
use Rattle.pdb_resolve.specs.Frames.{string_in}
use Rattle.pdb_resolve.specs.FileParts.{module_numbered, module_read, modules_listed}
use Rattle.pdb_resolve.specs.ImportTables.{imports_or_none}
use Rattle.pdb_resolve.specs.ModuleNumbers.{number_named}
use Rattle.pdb_resolve.proofs.NumberLaws.{leads, leads_nowhere}

-- one more list that is as it should be
pub kept_more : {X : Type 0} (should : ℕ → X) (old new : ℕ → Option X) (k : ℕ) (v : X) → ((j : ℕ) → new j ≡ cond (k == j) (Some v) (old j)) → v ≡ should k
    → ((j : ℕ) (l : X) → old j ≡ Some l → l ≡ should j) → (j : ℕ) (l : X) → new j ≡ Some l → l ≡ should j
kept_more should old new k v is right are j l h = elim (cases_eq k j) [
  | inl e ↦ (let here : Some v ≡ Some l = sym (ap (λ (t : Bool). cond t (Some v) (old j)) (eq-eqb k j e)) ∙ (sym (is j) ∙ h) in
      let same : v ≡ l = cc in
      sym same ∙ (right ∙ ap should e))
  | inr o ↦ are j l (sym (ap (λ (t : Bool). cond t (Some v) (old j)) (ne_eqb k j o)) ∙ (sym (is j) ∙ h))
]

-- the exports of the module to which a name leads
pub exports_led : (file name : List ℕ) (n : ℕ) → number_named (modules_listed file) name ≡ Some n → exports_where (module_numbered file n) ≡ exports_named file (modules_listed file) (Some name)
unfolding module_numbered exports_named
exports_led file name n h =
    let (i, at) = leads (modules_listed file) name 0 n h in
    let same : n ≡ i = omega (arith, at.0) in
    ap (λ (o : Option ModuleEntry). exports_where (module_read file o)) (ap (slice_get (modules_listed file)) same ∙ at.1)

pub exports_not_led : (file name : List ℕ) → number_named (modules_listed file) name ≡ None → exports_named file (modules_listed file) (Some name) ≡ []
unfolding exports_named
exports_not_led file name h = ap (λ (o : Option ModuleEntry). exports_where (module_read file o)) (leads_nowhere (modules_listed file) name 0 h)

-- the same, unless it wasn't kept
pub kept_or_same : {X U : Type 0} (should : ℕ → X) (old new : ℕ → Option X) (k : ℕ) (v : X) (r : Result U Error) → OnOk r ((j : ℕ) → new j ≡ cond (k == j) (Some v) (old j))
    → OnErr r ((j : ℕ) → new j ≡ old j) → v ≡ should k → ((j : ℕ) (l : X) → old j ≡ Some l → l ≡ should j) → (j : ℕ) (l : X) → new j ≡ Some l → l ≡ should j
kept_or_same should old new k v (Ok u) kept same right are = kept_more should old new k v kept right are
kept_or_same should old new k v (Err e) kept same right are = λ j l h. are j l (sym (same j) ∙ h)

-- the exports of the module of a number in the list
pub exports_listed : (file later : List ℕ) (ms : List ModuleEntry) (n : ℕ) (o : Option ModuleEntry) → later ≡ file → ms ≡ modules_listed file → o ≡ slice_get ms n
    → exports_where (module_read file o) ≡ exports_where (module_numbered later n)
unfolding module_numbered
exports_listed file later ms n o same is found =
    ap (λ (o : Option ModuleEntry). exports_where (module_read file o)) (found ∙ ap (λ (l : List ModuleEntry). slice_get l n) is)
    ∙ ap (λ (f : List ℕ). exports_where (module_read f (slice_get (modules_listed f) n))) (sym same)

-- what imports say of an id: nothing, where they have an error
nowhere : (a b : Bool) (n : ℕ) (r : Result Reference Error) → b ≡ false → if_read (cond a (Err (NotACrossModuleRef n)) (cond b r (Err (CrossModuleRefNotFound n)))) ≡ None
nowhere true b n r h = refl
nowhere false true n r h = absurd cc
nowhere false false n r h = refl

nothing_of_none : (n : ℕ) → if_read (reference_of n []) ≡ None
unfolding reference_of
nothing_of_none n = nowhere (nat_lt n (2 ^ 31)) (nat_lt (n / 2 ^ 20 % 2 ^ 11) 0) n (number_in n nothing (n % 2 ^ 20)) (le-ltb (n / 2 ^ 20 % 2 ^ 11) 0 (omega arith))

said : (n : ℕ) (r : Result (List ImportedModule) Error) → if_read (reference_of n (imports_or_none r)) ≡ if_read (r >>= reference_of n)
said n (Ok xs) = refl
said n (Err e) = nothing_of_none n

pub reference_by : (m : ModuleBytes) (n : ℕ) (l : List ImportedModule) → l ≡ imports_or_none (imports_of m) → if_read (reference_of n l) ≡ reference_in m n
unfolding reference_in
reference_by m n l is = ap (λ (l : List ImportedModule). if_read (reference_of n l)) is ∙ said n (imports_of m)

-- an id of a module whose name isn't there
pub not_named : (file : List ℕ) (strings : Option (List ℕ)) (ms : List ModuleEntry) (r : Option Reference) (x : Reference) → r ≡ Some x → string_in strings x.name ≡ None → exported_id file strings ms r ≡ None
unfolding exports_named
not_named file strings ms r x is none = ap (exported_id file strings ms) is ∙ ap (λ (o : Option (List ℕ)). global_of x.local (exports_named file ms o)) none

pub some_or : {X : Type 0} (b : Bool) (v : X) (o : Option X) → IsSome o → IsSome (cond b (Some v) o)
some_or true v o h = refl
some_or false v o h = h

-- what was kept still is
pub still_kept : {X U : Type 0} (old new : ℕ → Option X) (k : ℕ) (v : X) (r : Result U Error) → OnOk r ((j : ℕ) → new j ≡ cond (k == j) (Some v) (old j))
    → OnErr r ((j : ℕ) → new j ≡ old j) → (j : ℕ) → IsSome (old j) → IsSome (new j)
still_kept old new k v (Ok u) kept same j h = subst IsSome (sym (kept j)) (some_or (k == j) v (old j) h)
still_kept old new k v (Err e) kept same j h = subst IsSome (sym (same j)) h
