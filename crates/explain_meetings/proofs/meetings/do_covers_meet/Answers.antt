use Rattle.swept_boxes.proofs.MeetTests.{meets_is}
use Rattle.explain_meetings.proofs.meetings.do_covers_meet.Goals as goal

pub returns : goal.returns
returns c = meets_is c.args.own.now.cover c.args.later.now.cover c.meets.result c.meets.ensures.ranges
