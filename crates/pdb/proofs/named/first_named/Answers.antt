use Rattle.std.proofs.Common.{◌≡◌, Bool, cond, true, false, rules, List, [], ◌∷◌, map, Option, Some, None, refl, ap, ◌∙◌}
use borrow.Author.Tests.{tests}
use Rattle.std.specs.List.{find}
use Rattle.std.specs.Option.{option_map}
use Rattle.std.specs.Str.{bytes_eq}
use Rattle.std.specs.Slice.Iter.{iter_rest}
use Rattle.std.proofs.lemmas.Iterator.{YieldsList-from_slice}
use Rattle.std.proofs.lemmas.Iterator.Search.{find_from_yields_List}
use Rattle.pdb_base.specs.Text.{name_bytes}
use Rattle.pdb_dbi.specs.DbiViews.{stream_name}
use Rattle.pdb.proofs.named.first_named.Goals as goal

one : {X Y : Type 0} (f : X → Y) (x : X) (rest : Option X) (more : Option Y) (b : Bool) → option_map f rest ≡ more → option_map f (cond b (Some x) rest) ≡ cond b (Some (f x)) more
one f x rest more true h = refl
one f x rest more false h = h

-- what is found among seen values is the sight of what is found
find_seen : {X Y : Type 0} (f : X → Y) (p : Y → Bool) (xs : List X) → option_map f (find (λ x. p (f x)) xs) ≡ find p (map f xs)
find_seen f p [] = refl
find_seen f p (x ∷ xs) = one f x (find (λ x. p (f x)) xs) (find p (map f xs)) (p (f x)) (find_seen f p xs)

twice : {X Y Z : Type 0} (f : X → Y) (g : Y → Z) (o : Option X) → option_map (λ x. g (f x)) o ≡ option_map g (option_map f o)
twice f g None = refl
twice f g (Some x) = refl

pub returns : goal.returns
returns c =
    let found = find_from_yields_List (λ n. bytes_eq (name_bytes n.name) c.args.name.now) _ _ c.find.result c.find.ensures.ran (YieldsList-from_slice (iter_rest c.iter.result) refl) (λ x b q k. search (rules, tests)) in
    twice (λ n. n.now) stream_name c.find.result ∙ ap (option_map stream_name) found ∙ find_seen stream_name (λ n. bytes_eq n.name c.args.name.now) (iter_rest c.iter.result) ∙ ap (find (λ n. bytes_eq n.name c.args.name.now)) c.iter.ensures
