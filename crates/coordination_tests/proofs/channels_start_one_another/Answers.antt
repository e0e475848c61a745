use Rattle.std.proofs.Common.{refl}
use Rattle.sync_types.specs.Boards.{first_state, grant_with, start_grant}
use Rattle.sync_types.specs.BoardActions.{is_on_after, state_after_alarm, marks_of_all, ownership_after, holder_after, state_after_action}
use Rattle.sync_types.specs.BoardAlarms.{alarm_of}
use Rattle.sync_types.specs.GoingOn.{marks_after_goes, state_after_goes, ownership_after_taking, holder_after_taking, grant_of_taker, state_after_taking}
use Rattle.coordination_tests.proofs.channels_start_one_another.Goals as goal

pub returns-clause-started_and_awaited : goal.returns-clause-started_and_awaited
unfolding first_state grant_with start_grant is_on_after state_after_alarm marks_of_all ownership_after holder_after state_after_action alarm_of marks_after_goes state_after_goes ownership_after_taking holder_after_taking grant_of_taker state_after_taking
returns-clause-started_and_awaited c = refl

pub returns-clause-started_twice : goal.returns-clause-started_twice
unfolding first_state grant_with start_grant is_on_after state_after_alarm marks_of_all ownership_after holder_after state_after_action alarm_of marks_after_goes state_after_goes ownership_after_taking holder_after_taking grant_of_taker state_after_taking
returns-clause-started_twice c = refl

pub returns-clause-awaited_in_vain : goal.returns-clause-awaited_in_vain
unfolding first_state grant_with start_grant is_on_after state_after_alarm marks_of_all ownership_after holder_after state_after_action alarm_of marks_after_goes state_after_goes ownership_after_taking holder_after_taking grant_of_taker state_after_taking
returns-clause-awaited_in_vain c = refl

pub returns-clause-none_starts : goal.returns-clause-none_starts
unfolding first_state grant_with start_grant is_on_after state_after_alarm marks_of_all ownership_after holder_after state_after_action alarm_of marks_after_goes state_after_goes ownership_after_taking holder_after_taking grant_of_taker state_after_taking
returns-clause-none_starts c = refl

pub returns-clause-awake_before_program : goal.returns-clause-awake_before_program
unfolding first_state grant_with start_grant is_on_after state_after_alarm marks_of_all ownership_after holder_after state_after_action alarm_of marks_after_goes state_after_goes ownership_after_taking holder_after_taking grant_of_taker state_after_taking
returns-clause-awake_before_program c = refl

pub returns-clause-both_start : goal.returns-clause-both_start
unfolding first_state grant_with start_grant is_on_after state_after_alarm marks_of_all ownership_after holder_after state_after_action alarm_of marks_after_goes state_after_goes ownership_after_taking holder_after_taking grant_of_taker state_after_taking
returns-clause-both_start c = refl

pub returns-clause-awaits_itself : goal.returns-clause-awaits_itself
unfolding first_state grant_with start_grant is_on_after state_after_alarm marks_of_all ownership_after holder_after state_after_action alarm_of marks_after_goes state_after_goes ownership_after_taking holder_after_taking grant_of_taker state_after_taking
returns-clause-awaits_itself c = refl
