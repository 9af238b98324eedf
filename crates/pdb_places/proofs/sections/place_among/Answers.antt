use Rattle.std.proofs.Common.{◌∙◌, ◌+◌, sym, arith, length}
use Rattle.pdb_places.proofs.CutHalves.{twice_few, twice_below}
use Rattle.pdb_places.proofs.PaintedSections.{no_place, placed}
use Rattle.pdb_places.proofs.sections.place_among.Goals as goal

pub place_in-requires : goal.place_in-requires
place_in-requires c = placed c.args.at c.args.sections.now c.args.cuts.now c.in-Some.number c.requires (sym c.find_painted.ensures.found ∙ c.in-Some.is)

pub returns-in-Some-clause-soon : goal.returns-in-Some-clause-soon
returns-in-Some-clause-soon c = λ digits l.
    let few = c.requires.few in let twice = twice_below (length c.args.sections.now) digits l in
    omega (arith, c.find_painted.ensures.probes (digits + 1) (omega arith))

pub returns-in-Some-clause-few : goal.returns-in-Some-clause-few
returns-in-Some-clause-few c =
    let few = c.requires.few in let twice = twice_few (length c.args.sections.now) in
    c.find_painted.ensures.probes (length c.args.sections.now) (omega arith)

pub returns-in-None-clause-place : goal.returns-in-None-clause-place
returns-in-None-clause-place c = sym (no_place c.args.at c.args.sections.now c.args.cuts.now c.requires (sym c.find_painted.ensures.found ∙ c.in-None.is))

pub returns-in-None-clause-soon : goal.returns-in-None-clause-soon
returns-in-None-clause-soon c = λ digits l.
    let few = c.requires.few in let twice = twice_below (length c.args.sections.now) digits l in
    omega (arith, c.find_painted.ensures.probes (digits + 1) (omega arith))

pub returns-in-None-clause-few : goal.returns-in-None-clause-few
returns-in-None-clause-few c =
    let few = c.requires.few in let twice = twice_few (length c.args.sections.now) in
    c.find_painted.ensures.probes (length c.args.sections.now) (omega arith)
