use Rattle.std.proofs.Common.{◌∙◌, ap}
use Rattle.pdb_base.specs.Left.{Left}
use Rattle.pdb_records.specs.declared.lists.AddressGap.{AddressGap}
use Rattle.pdb_records.proofs.PieceRuns.{found_runs}
use Rattle.pdb_records.proofs.pieces.Pieces.find.Goals as goal

pub returns : goal.returns
returns c =
    let gaps = (rw c.clear-2.ensures.items at c.in_ok-push_gaps.ensures) ∙ ap (λ (l : Left AddressGap). l.items) c.iter.ensures in
    found_runs c.push_runs.result _ _ _ _ _ _ (rw c.as_slice.ensures.value at c.push_runs.ensures) c.clear.ensures.items c.in_ok-sort.ensures.rises c.in_ok-sort.ensures.all gaps
