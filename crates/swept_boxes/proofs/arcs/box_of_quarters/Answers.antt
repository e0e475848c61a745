-- What fits in a list fits after its first.
use Rattle.std.proofs.lemmas.List.Elements.{All-rest}
use Rattle.arc_quadrants.specs.Quarters.{IsFit}
use Rattle.arc_quadrants.specs.declared.walk.Quarter.{Quarter}
use Rattle.swept_boxes.proofs.arcs.box_of_quarters.Goals as goal

pub box_of_quarter-requires-clause-fit : goal.box_of_quarter-requires-clause-fit
box_of_quarter-requires-clause-fit c =
    let none : Quarter = record { turn = 0; from = (0, 0); to = (0, 0) } in
    All-rest IsFit c.in-Some.first.now c.in-Some.rest.now c.args.quarters.now (c.in-Some.ensures {u = tt}).cases.0 c.requires.fit
    c.loop-quarter.quarter-index none c.loop-quarter-test.true
