use Rattle.std.proofs.Common.{rules, ◌<◌}
use Rattle.pdb_items.specs.Items.{first_index}
use Rattle.pdb_items.proofs.ItemPlaces.{no_items_no_places}
use Rattle.pdb_items.proofs.finder.ItemFinder.new.Goals as goal

pub returns-in_err-places-clause-lean : goal.returns-in_err-places-clause-lean
returns-in_err-places-clause-lean c =
    λ none. (
    let small : first_index c.args.stream.now < 0x100000000 = rw (← c.in_ok-first.ensures.first) (search rules) in
    let refused = c.in_err-places.ensures.lean (no_items_no_places c.args.stream.now c.in_ok-first.records.now c.in_ok-first.ensures.records small none) in
    absurd cc
    )
