use Rattle.std.proofs.Common.{◌∙◌, refl}
use Rattle.explain_reach.specs.Reaches.{reach_of}
use Rattle.explain_reach.proofs.WayLaws.{is_first_least, lesser_shift}
use Rattle.explain_reach.proofs.ways.first_least.Goals as goal

pub returns-clause-shift : goal.returns-clause-shift
unfolding reach_of
returns-clause-shift c =
    lesser_shift c.lesser.result c.along-z.result c.lesser-2.result c.lesser-2.ensures
    ∙ rw (lesser_shift c.along-x.result c.along-y.result c.lesser.result c.lesser.ensures, c.along-x.ensures.shift, c.along-y.ensures.shift, c.along-z.ensures.shift) refl

pub returns-clause-direction : goal.returns-clause-direction
returns-clause-direction c =
    is_first_least c.args.left.now c.args.right.now c.along-x.result c.along-y.result c.along-z.result c.lesser.result c.lesser-2.result
    c.along-x.ensures.direction c.along-x.ensures.shift c.along-y.ensures.direction c.along-y.ensures.shift c.along-z.ensures.direction c.along-z.ensures.shift
    c.lesser.ensures c.lesser-2.ensures
