use Rattle.std.proofs.Common.{◌∙◌, ap}
use Rattle.explain_texts.specs.Headlines.{first_line, headline}
use Rattle.explain.proofs.drawings.title_of.Goals as goal

pub returns-in-Yes : goal.returns-in-Yes
unfolding first_line
returns-in-Yes c = rw c.in-Yes.is c.yes_title.ensures

pub returns-in-No : goal.returns-in-No
unfolding first_line
returns-in-No c = rw c.in-No.is (c.other_title.ensures ∙ ap headline c.in-No.is)

pub returns-in-Race : goal.returns-in-Race
unfolding first_line
returns-in-Race c = rw c.in-Race.is (c.other_title-in-Race.ensures ∙ ap headline c.in-Race.is)

pub returns-in-Stuck : goal.returns-in-Stuck
unfolding first_line
returns-in-Stuck c = rw c.in-Stuck.is (c.other_title-in-Stuck.ensures ∙ ap headline c.in-Stuck.is)

pub returns-in-Alarm : goal.returns-in-Alarm
unfolding first_line
returns-in-Alarm c = rw c.in-Alarm.is (c.other_title-in-Alarm.ensures ∙ ap headline c.in-Alarm.is)

pub returns-in-Undecided : goal.returns-in-Undecided
unfolding first_line
returns-in-Undecided c = rw c.in-Undecided.is (c.other_title-in-Undecided.ensures ∙ ap headline c.in-Undecided.is)
