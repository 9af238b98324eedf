use Rattle.std.proofs.Common.{sym, ◌∙◌}
use Rattle.pdb_places.proofs.PublicPlaces.{place_is}
use Rattle.pdb_places.proofs.publics.quick_place.Goals as goal

pub returns : goal.returns
returns c =
    place_is c.args.bytes.now _ (sym c.u16_at.ensures ∙ c.if-u16_at-ne4366.false) c.if-size-lt13.false c.if-bytes-size-ne0.false
    (λ i. record { offset = c.u32_at.ensures i; section = c.u16_at-2.ensures i })
