use Rattle.std.proofs.Common.{rules, [], ◌∷◌, map, sym, ◌∙◌, ap}
use Rattle.std.proofs.lemmas.List.{map-append}
use Rattle.pdb_paths.specs.ImagePaths.{once, with_new}
use Rattle.pdb_paths.proofs.Once.{one_more}
use Rattle.pdb_paths.proofs.image_paths.each_once.Goals as goal

pub loop-path-init : goal.loop-path-init
unfolding once
loop-path-init c = search rules

pub loop-path-preserved : goal.loop-path-preserved
loop-path-preserved c =
    let path = c.in-Some.path in
    let seen = c.loop-path.yielded in
    c.in_ok-push_new.ensures
    ∙ ap (λ l. with_new l path.items) c.loop-path.invariant
    ∙ sym (one_more (map (λ p. p.items) seen) path.items)
    ∙ ap once (sym (map-append (λ p. p.items) seen (path ∷ [])))
