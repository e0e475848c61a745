use Rattle.parallel_run.proofs.MeetingRule.{all_came, told_alike}
use Rattle.parallel_run.proofs.meeting.the_rule_holds_workers_together.Goals as goal

pub returns-clause-alike : goal.returns-clause-alike
returns-clause-alike c = λ workers. told_alike workers

pub returns-clause-all : goal.returns-clause-all
returns-clause-all c = λ workers. all_came workers
