use Rattle.pdb_list.specs.Texts.{contributed_text}
use Rattle.pdb_list.proofs.LinePieces.{contributed}
use Rattle.pdb_list.proofs.contributions.put_contributed.Goals as goal

pub returns : goal.returns
unfolding contributed_text
returns c =
    rw (c.in_ok-extend_from_slice-2.ensures.items, c.tail.ensures, c.in_ok-put_decimal-2.ensures.ok, c.in_ok-extend_from_slice.ensures.items, c.between_spaces.ensures, c.in_ok-put_decimal.ensures.ok, c.from.ensures) (contributed _ _ _ _ _ _)
