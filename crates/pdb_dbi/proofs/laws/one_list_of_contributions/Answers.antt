use Rattle.std.proofs.Common.{◌≡◌, ℕ, List, Ok, refl, sym, ap, ◌∙◌}
use Rattle.pdb_base.specs.Fields.{number}
use Rattle.pdb_base.specs.Tiling.{listing}
use Rattle.pdb_base.proofs.Tilings.{is_listing, only_listing}
use Rattle.pdb_base.proofs.Readings.{row_inside}
use Rattle.pdb_dbi.specs.Contributions.{contribution_at, contributions, contributions_of, record_size, records_of}
use Rattle.pdb_dbi.proofs.Lists.{contributions_within, long_enough}
use Rattle.pdb_dbi.proofs.laws.one_list_of_contributions.Goals as goal

-- the size of the records of a part
abbrev size_in : List ℕ → ℕ
size_in part = record_size (number part 0 4)

listed : (part records : List ℕ) → records_of part ≡ Ok records → contributions_of part ≡ Ok (listing (contributions (size_in part)) records 0)
unfolding contributions_of
listed part records e = rw e refl

pub returns-clause-is : goal.returns-clause-is
returns-clause-is c part records left has e =
    let same : listing (contributions (size_in part)) records 0 ≡ left = (let k = listed part records has in cc) in
    rw (← same) (is_listing (contributions (size_in part)) (row_inside (contribution_at (size_in part)) (λ p c. size_in part) (contributions_within (size_in part) (long_enough (number part 0 4)))) records 0)

pub returns-clause-only : goal.returns-clause-only
returns-clause-only c part records left has is =
    listed part records has ∙ ap Ok (sym (only_listing (contributions (size_in part)) (row_inside (contribution_at (size_in part)) (λ p c. size_in part) (contributions_within (size_in part) (long_enough (number part 0 4)))) records 0 left is))
