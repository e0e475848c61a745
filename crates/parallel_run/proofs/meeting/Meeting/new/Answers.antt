use Rattle.parallel_run.proofs.MeetingRule.{opens}
use Rattle.parallel_run.proofs.meeting.Meeting.new.Goals as goal

pub of_words-requires : goal.of_words-requires
of_words-requires c = opens _
