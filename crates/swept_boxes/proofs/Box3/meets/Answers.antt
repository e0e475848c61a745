-- The bounds touch in all three directions exactly where there is a common point.
use Rattle.swept_boxes.proofs.Meeting.{touch-from_meet, meet-from_touch}
use Rattle.swept_boxes.proofs.Box3.meets.Goals as goal

pub returns-clause-share : goal.returns-clause-share
returns-clause-share c = (
  (λ holds. meet-from_touch c.args.self.now c.args.other.now (c.touches_in_all.ensures.0 holds)),
  (λ shared. c.touches_in_all.ensures.1 (touch-from_meet c.args.self.now c.args.other.now shared)),
)
