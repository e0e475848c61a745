use Rattle.std.proofs.Common.{◌∙◌, ◌+◌, sym, subst}
use Rattle.explain_clashes.proofs.WayLaws.{lesser_least}
use Rattle.explain_clashes.specs.Ways.{IsLeastWay, gives_room}
use Rattle.explain_reach.specs.declared.ways.Way.{Way}
use Rattle.explain_clashes.proofs.ways.least_with.Goals as goal

pub returns-then-gives_room : goal.returns-then-gives_room
returns-then-gives_room c =
    subst (λ (w : Way). IsLeastWay (gives_room c.args.job.now c.args.met.now) c.args.met.now.left.cover c.args.met.now.right.cover (c.args.direction + 1) w) (sym c.lesser.ensures)
    (lesser_least (gives_room c.args.job.now c.args.met.now) c.args.met.now.left.cover c.args.met.now.right.cover c.args.direction c.along-way.result
    (sym c.gives_room.ensures ∙ c.if-gives_room.true) c.along-way.ensures.direction c.along-way.ensures.shift c.args.found c.requires.below)
