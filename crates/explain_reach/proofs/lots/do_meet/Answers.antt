use Rattle.swept_boxes.proofs.MeetTests.{meets_is}
use Rattle.explain_reach.proofs.lots.do_meet.Goals as goal

pub returns : goal.returns
returns c = meets_is c.args.left.now c.args.right.now c.meets.result c.meets.ensures.ranges
