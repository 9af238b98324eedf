-- Lists of definitions.
use Rattle.std.proofs.Common.{◌≡◌, ℕ, List, [], ◌∷◌, ◌++◌, map, find, Option, Some, None, Bool, true, false, cond, refl, sym, ap, ◌∙◌, append_assoc}
use Rattle.std.specs.List.{cons_option}
use Rattle.std.specs.Option.{option_map, option_to_list}
use Rattle.std.proofs.lemmas.List.{append-nil}
use Rattle.pdb_items.specs.Items.{ItemEntry}
use Rattle.pdb_types.specs.declared.definitions.Definition.{Definition}
use Rattle.pdb_types.specs.FullTypes.{TypeDefinition, definition_of, definitions_among, first_definition, index_of, is_known_by}
use Rattle.pdb_types.specs.DefinitionViews.{key_list, shown_definition}
use Rattle.pdb_types.proofs.FirstFound.{known}

abbrev pub key_of : Definition → List ℕ
key_of d = key_list d.key

joined : {X : Type 0} (o : Option X) (xs : List X) → cons_option o xs ≡ option_to_list o ++ xs
joined None xs = refl
joined (Some x) xs = refl

pub one_more : (x : ItemEntry) (old new : List ItemEntry) (rows more all : List TypeDefinition) → old ≡ (x ∷ []) ++ new → more ≡ rows ++ option_to_list (definition_of x) → rows ++ definitions_among old ≡ all → more ++ definitions_among new ≡ all
unfolding definitions_among
one_more x old new rows more all e add is =
    rw (add, append_assoc rows (option_to_list (definition_of x)) (definitions_among new), ← joined (definition_of x) (definitions_among new)) (rw e at is)

pub no_more : (rows all : List TypeDefinition) (old : List ItemEntry) → old ≡ [] → rows ++ definitions_among old ≡ all → rows ≡ all
unfolding definitions_among
no_more rows all old e is = sym (append-nil rows) ∙ rw e at is

-- ---- what rows show

find_by : {X Y : Type 0} (f : X → Y) (p : Y → Bool) (x : X) (xs : List X) (b : Bool) → find p (map f xs) ≡ option_map f (find (λ x. p (f x)) xs) → cond b (Some (f x)) (find p (map f xs)) ≡ option_map f (cond b (Some x) (find (λ x. p (f x)) xs))
find_by f p x xs true h = refl
find_by f p x xs false h = h

find_shown : {X Y : Type 0} (f : X → Y) (p : Y → Bool) (xs : List X) → find p (map f xs) ≡ option_map f (find (λ x. p (f x)) xs)
find_shown f p [] = refl
find_shown f p (x ∷ xs) = find_by f p x xs (p (f x)) (find_shown f p xs)

abbrev pub row_index : Option Definition → Option ℕ
row_index None = None
row_index (Some d) = Some d.index

index_shown : (o : Option Definition) → index_of (option_map shown_definition o) ≡ row_index o
index_shown None = refl
index_shown (Some d) = refl

pub first_row : (rows : List Definition) (k : List ℕ) → first_definition (map shown_definition rows) k ≡ row_index (find (known key_of k) rows)
first_row rows k = ap index_of (find_shown shown_definition (is_known_by k) rows) ∙ index_shown (find (known key_of k) rows)
