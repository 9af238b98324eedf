-- A key is among keys where the first that halving doesn't pass is equal to it.
use Rattle.std.proofs.Common.{◌≡◌, ℕ, ◌<◌, List, [], ◌∷◌, length, get_or, map, find, Option, Some, Bool, true, false, cond, refl, sym, ap, ◌∙◌}
use Rattle.std.specs.Option.{is_some}
use Rattle.std.specs.List.Sorted.{IsPartitionPoint, IsSortedBy}
use Rattle.pdb_types.proofs.FirstFound.{known, before, lower, found_there, other_there}
use Rattle.pdb_variables.specs.Variables.{is_known_by, is_told}
use Rattle.pdb_variables.specs.VariableViews.{key_list}
use Rattle.pdb_variables.specs.declared.told_again.VariableKey.{VariableKey}

abbrev pub some_key : Option VariableKey → Bool
some_key o = is_some o

some_by : (k : List ℕ) (x : VariableKey) (xs : List VariableKey) (b : Bool) → is_some (find (is_known_by k) (map key_list xs)) ≡ is_some (find (known key_list k) xs)
    → is_some (cond b (Some (key_list x)) (find (is_known_by k) (map key_list xs))) ≡ is_some (cond b (Some x) (find (known key_list k) xs))
some_by k x xs true h = refl
some_by k x xs false h = h

pub first_key : (xs : List VariableKey) (k : List ℕ) → is_told (map key_list xs) k ≡ some_key (find (known key_list k) xs)
first_key [] k = refl
first_key (x ∷ xs) k = some_by k x xs (known key_list k x) (first_key xs k)

pub has_it : (k : List ℕ) (xs : List VariableKey) (at : ℕ) (y : VariableKey) → IsSortedBy (before key_list) xs
    → IsPartitionPoint (λ y. lower key_list k y ≡ true) (λ y. lower key_list k y ≡ false) xs at → at < length xs → get_or xs at y ≡ y → some_key (find (known key_list k) xs) ≡ known key_list k y
has_it k xs at y up point l is = by_test (known key_list k y) refl
  where
    by_test : (b : Bool) → known key_list k y ≡ b → some_key (find (known key_list k) xs) ≡ known key_list k y
    by_test true e = ap some_key (found_there key_list k xs at y point l is e) ∙ sym e
    by_test false e = ap some_key (other_there key_list k xs at y up point l is e) ∙ sym e
