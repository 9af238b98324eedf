use Rattle.std.proofs.Common.{◌≡◌, ◌++◌, List, flat_map, length}
use Rattle.pdb.specs.Inlinees.{InlineeEntry}
use Rattle.pdb.specs.ModuleViews.{inlinees_left}
use Rattle.pdb_list.specs.ModuleTexts.{inlinee_text}
use Rattle.pdb_list.proofs.inlinees.put_whole.Given as goal

-- the functions so far were put and kept, and with those that are left they are all; the fault is the same
abbrev pub invariant-loop-inlinee : goal.invariant-loop-inlinee
invariant-loop-inlinee l =
    (seen : List InlineeEntry)
    × ((inlinees_left l.fn.inlinees).items ≡ seen ++ (inlinees_left l.inlinees).items)
    × ((inlinees_left l.fn.inlinees).fault ≡ (inlinees_left l.inlinees).fault)
    × (l.out.items ≡ l.fn.out.items ++ flat_map inlinee_text seen)
    × (l.listed.items ≡ seen)

abbrev pub decreases-loop-inlinee : goal.decreases-loop-inlinee
decreases-loop-inlinee l = length (inlinees_left l.inlinees).items
