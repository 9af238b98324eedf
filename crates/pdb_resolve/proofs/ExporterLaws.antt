-- What was read of the modules from which a module imports is what the file says.
use Rattle.std.proofs.Common.{◌≡◌, ℕ, zero, suc, ◌+◌, ◌<◌, Bool, true, false, cond, List, [], ◌∷◌, length, map, take, get_or, Option, Some, None, refl, sym, ap, ◌∙◌, subst, nat_cmp, arith}
use Rattle.std.specs.Prelude.{IsSome}
use Rattle.std.specs.BTreeMap.{BTreeMap, get}
use Rattle.std.specs.Borrow.{Bor}
use Rattle.std.specs.List.{All}
use Rattle.std.specs.Option.{option_and_then}
use Rattle.std.specs.Str.{bytes_eq}
use Rattle.std.proofs.lemmas.List.Elements.{All-head, All-tail}
use Rattle.std.proofs.lemmas.Slice.Eq.{bytes_eq-Decides}
use Rattle.pdb.specs.CrossModule.{ImportedModule}
use Rattle.pdb.specs.Modules.{ModuleEntry}
use Rattle.pdb_resolve.specs.AcrossModules.{exports_named, exports_where}
use Rattle.pdb_resolve.specs.Exporters.{HasName, exporter, number_where}
use Rattle.pdb_resolve.specs.ExporterViews.{pairs_by, pairs_where}
use Rattle.pdb_resolve.specs.FileParts.{module_numbered, modules_listed}
use Rattle.pdb_resolve.specs.Frames.{string_in}
use Rattle.pdb_resolve.specs.ImportTables.{exports_for}
use Rattle.pdb_resolve.specs.KeptCrossings.{AreStillRead, IsRead}
use Rattle.pdb_resolve.specs.ModuleNumbers.{number_named}
use Rattle.pdb_resolve.specs.NumberViews.{number_in}
use Rattle.pdb_resolve.proofs.CrossingLaws.{exports_led, exports_not_led, some_or}

-- ---- names

some_here : {X : Type 0} (b : Bool) (v : X) (o : Option X) → b ≡ true → IsSome (cond b (Some v) o)
some_here true v o h = refl
some_here false v o h = absurd cc

module _ (strings : Option (List ℕ)) (old new : BTreeMap (Bor (List ℕ)) ℕ) (put : List ℕ) (k : ℕ) (is : (q : List ℕ) → number_in new q ≡ cond (bytes_eq put q) (Some k) (number_in old q)) where
  -- a name that was there still is
  pub named_still : (x : ImportedModule) → HasName strings old x → HasName strings new x
  named_still x named = λ name e. subst IsSome (sym (is name)) (some_or (bytes_eq put name) k (number_in old name) (named name e))

  -- and the one that was put
  pub named_here : (x : ImportedModule) → string_in strings x.name ≡ Some put → HasName strings new x
  named_here x here = λ name e.
      let same : put ≡ name = cc in
      subst IsSome (sym (is name)) (some_here (bytes_eq put name) k (number_in old name) ((bytes_eq-Decides put name).1 same))

-- what has no name has none that isn't there
pub named_without : (strings : Option (List ℕ)) (names : BTreeMap (Bor (List ℕ)) ℕ) (x : ImportedModule) → string_in strings x.name ≡ None → HasName strings names x
named_without strings names x none = λ name e. absurd cc

-- ---- numbers

-- numbers of these names are those of all
pub numbers_among : (ms : List ModuleEntry) (o : Option (List ℕ)) (names numbers : BTreeMap (Bor (List ℕ)) ℕ) → ((q : List ℕ) → IsSome (number_in names q) → number_in numbers q ≡ number_named ms q)
    → ((name : List ℕ) → o ≡ Some name → IsSome (number_in names name)) → option_and_then (number_in numbers) o ≡ number_where ms o
numbers_among ms None names numbers are named = refl
numbers_among ms (Some name) names numbers are named = are name (named name refl)

-- ---- exports

module _ (file : List ℕ) (exports : BTreeMap ℕ (List (ℕ × ℕ))) (are : (k : ℕ) (l : List (ℕ × ℕ)) → get nat_cmp exports k ≡ Some l → l ≡ exports_where (module_numbered file k)) where
  some_are : (k : ℕ) (o : Option (List (ℕ × ℕ))) → get nat_cmp exports k ≡ o → IsSome o → pairs_where o ≡ exports_where (module_numbered file k)
  some_are k None e h = absurd cc
  some_are k (Some l) e h = are k l e

  numbered_are : (name : List ℕ) (n : Option ℕ) → number_named (modules_listed file) name ≡ n → IsRead exports n → pairs_by exports n ≡ exports_named file (modules_listed file) (Some name)
  numbered_are name None e read = sym (exports_not_led file name e)
  numbered_are name (Some k) e read = some_are k (get nat_cmp exports k) refl read ∙ exports_led file name k e

  none_are : pairs_by exports None ≡ exports_named file (modules_listed file) None
  unfolding exports_named
  none_are = refl

  named_are : (o : Option (List ℕ)) → IsRead exports (number_where (modules_listed file) o) → pairs_by exports (number_where (modules_listed file) o) ≡ exports_named file (modules_listed file) o
  named_are None read = none_are
  named_are (Some name) read = numbered_are name (number_named (modules_listed file) name) refl read

  pub read_are : (strings : Option (List ℕ)) (xs : List ImportedModule) → All (IsRead exports) (map (exporter strings (modules_listed file)) xs)
      → map (pairs_by exports) (map (exporter strings (modules_listed file)) xs) ≡ map (exports_for file strings (modules_listed file)) xs
  read_are strings [] h = refl
  read_are strings (x ∷ xs) h =
      let rest = map (exporter strings (modules_listed file)) xs in
      let first = exporter strings (modules_listed file) x in
      let here = named_are (string_in strings x.name) (All-head (IsRead exports) first rest h) in
      let more = read_are strings xs (All-tail (IsRead exports) first rest h) in
      ap (λ (l : List (ℕ × ℕ)). l ∷ map (pairs_by exports) rest) here ∙ ap (λ (ls : List (List (ℕ × ℕ))). exports_for file strings (modules_listed file) x ∷ ls) more

-- what was read still is
pub still_read : (old new : BTreeMap ℕ (List (ℕ × ℕ))) → AreStillRead old new → (n : Option ℕ) → IsRead old n → IsRead new n
still_read old new stay None read = read
still_read old new stay (Some k) read = stay k read

-- in a file that is the same while more of it is read
pub exporters_are : (file later : List ℕ) (exports : BTreeMap ℕ (List (ℕ × ℕ))) (strings : Option (List ℕ)) (ms : List ModuleEntry) (xs : List ImportedModule) (numbers : List (Option ℕ)) → later ≡ file → ms ≡ modules_listed file
    → ((k : ℕ) (l : List (ℕ × ℕ)) → get nat_cmp exports k ≡ Some l → l ≡ exports_where (module_numbered later k)) → numbers ≡ map (exporter strings ms) xs → All (IsRead exports) numbers
    → map (pairs_by exports) numbers ≡ map (exports_for file strings ms) xs
exporters_are file later exports strings ms xs numbers same listed are is read =
    let here : numbers ≡ map (exporter strings (modules_listed file)) xs = is ∙ ap (λ (l : List ModuleEntry). map (exporter strings l) xs) listed in
    ap (map (pairs_by exports)) here
    ∙ (read_are file exports (λ k l h. are k l h ∙ ap (λ (f : List ℕ). exports_where (module_numbered f k)) same) strings xs (subst (All (IsRead exports)) here read)
    ∙ ap (λ (l : List ModuleEntry). map (exports_for file strings l) xs) (sym listed))
