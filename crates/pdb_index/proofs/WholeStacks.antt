-- In an index that is well made no frame is damaged.
use Rattle.std.proofs.Common.{◌≡◌, ℕ, zero, suc, ◌+◌, ◌-◌, ◌<◌, ◌≤◌, Bool, true, false, cond, List, [], All, Option, Some, None, refl, arith}
use Rattle.std.specs.Prelude.{◌==◌, ◌||◌, IsSome, nat_le, nat_lt}
use Rattle.std.specs.Option.{option_map}
use Rattle.std.proofs.lemmas.Bool.{lt-leb, le-ltb, false≢true}
use Rattle.std.proofs.lemmas.List.Elements.{All-nil, All-cons}
use Rattle.pdb_index.specs.declared.layout.Layout.{Layout}
use Rattle.pdb_index.specs.declared.layout.Table.{Table}
use Rattle.pdb_index.specs.IndexLayout.{word_at}
use Rattle.pdb_index.specs.NodeFrames.{Named, Told, file_of, frame_of, function_of, name_of, node_of, stack_of, start_at}
use Rattle.pdb_index.specs.WellMade.{NamesWhatIsThere, is_shallow}

value_of : {A : Type 0} (o : Option A) → IsSome o → (x : A) × (o ≡ Some x)
value_of None some = absurd (false≢true some)
value_of (Some x) some = (x, refl)

some_by : {A B : Type 0} (z : Bool) (f : A → B) (x : B) (o : Option A) → IsSome o → IsSome (cond z (Some x) (option_map f o))
some_by true f x o some = refl
some_by false f x None some = absurd (false≢true some)
some_by false f x (Some y) some = refl

outside : (z s : Bool) (rest : List (Option Told)) → (z || s) ≡ true → (s ≡ true → All IsSome rest) → All IsSome (cond z [] rest)
outside true s rest e h = All-nil IsSome
outside false s rest e h = h e

module _ (b : List ℕ) (t : Layout) (named : NamesWhatIsThere b t) where
  name_some : (table : Table) (k : ℕ) → word_at b table k 0 + word_at b table k 4 ≤ t.names.rows → IsSome (name_of b t table k)
  unfolding name_of
  name_some table k le =
      let inside : nat_lt t.names.rows (word_at b table k 0 + word_at b table k 4) ≡ false = le-ltb t.names.rows (word_at b table k 0 + word_at b table k 4) le in
      rw inside refl

  function_some : (k : ℕ) → k < t.functions.rows → IsSome (function_of b t k)
  unfolding function_of
  function_some k lt =
      let there : nat_le t.functions.rows k ≡ false = lt-leb t.functions.rows k lt in
      let name = name_some t.functions k (named.functions k lt) in
      rw there (some_by {A = List ℕ} {B = Named} (k == 0) (λ n. record { name = Some n; start = start_at b t k }) (record { name = None; start = None }) (name_of b t t.functions k) name)

  file_some : (k : ℕ) → k < t.files.rows → IsSome (file_of b t k)
  unfolding file_of
  file_some k lt =
      let there : nat_le t.files.rows k ≡ false = lt-leb t.files.rows k lt in
      let name = name_some t.files k (named.files k lt) in
      rw there (some_by {A = List ℕ} {B = Option (List ℕ)} (k == 0) Some None (name_of b t t.files k) name)

  frame_by_parts : (k : ℕ) → k < t.nodes.rows → (function : Named) (file : Option (List ℕ)) → function_of b t (node_of b t k).function ≡ Some function → file_of b t (node_of b t k).file ≡ Some file → (f : Told) × (frame_of b t k ≡ Some (f, (node_of b t k).outer))
  unfolding frame_of
  frame_by_parts k lt function file is_function is_file =
      let there : nat_le t.nodes.rows k ≡ false = lt-leb t.nodes.rows k lt in
      let outwards : nat_lt k (node_of b t k).outer ≡ false = le-ltb k (node_of b t k).outer (named.nodes.each k lt).outwards in
      (record { name = function.name; start = function.start; file = file; line = (node_of b t k).line; column = (node_of b t k).column }, rw (there, outwards, is_function, is_file) refl)

  frame_is : (k : ℕ) → k < t.nodes.rows → (f : Told) × (frame_of b t k ≡ Some (f, (node_of b t k).outer))
  frame_is k lt =
      let node = named.nodes.each k lt in
      let function = value_of (function_of b t (node_of b t k).function) (function_some (node_of b t k).function node.function) in
      let file = value_of (file_of b t (node_of b t k).file) (file_some (node_of b t k).file node.file) in
      frame_by_parts k lt function.0 file.0 function.1 file.1

  pub stacks : (n k : ℕ) → is_shallow b t n k ≡ true → k < t.nodes.rows → All IsSome (stack_of b t n k)
  unfolding is_shallow stack_of
  stacks zero k e lt = absurd (false≢true e)
  stacks (suc n) k e lt =
      let (f, is) = frame_is k lt in
      let rest = outside ((node_of b t k).outer == 0) (is_shallow b t n (k - (node_of b t k).outer)) (stack_of b t n (k - (node_of b t k).outer)) e (λ s. stacks n (k - (node_of b t k).outer) s (omega (arith, lt))) in
      rw is (All-cons IsSome (Some f) _ refl rest)
