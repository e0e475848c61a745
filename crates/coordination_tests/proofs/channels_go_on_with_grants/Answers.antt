use Rattle.std.proofs.Common.{refl}
use Rattle.sync_types.specs.Boards.{first_state, grant_with, start_grant}
use Rattle.sync_types.specs.BoardActions.{is_on_after, state_after_alarm, marks_of_all, ownership_after, holder_after, state_after_action}
use Rattle.sync_types.specs.BoardAlarms.{alarm_of}
use Rattle.sync_types.specs.GoingOn.{marks_after_goes, state_after_goes, ownership_after_taking, holder_after_taking, grant_of_taker, state_after_taking}
use Rattle.coordination_tests.proofs.channels_go_on_with_grants.Goals as goal

pub returns-clause-who_lets_go : goal.returns-clause-who_lets_go
unfolding first_state grant_with start_grant is_on_after state_after_alarm marks_of_all ownership_after holder_after state_after_action alarm_of marks_after_goes state_after_goes ownership_after_taking holder_after_taking grant_of_taker state_after_taking
returns-clause-who_lets_go c = refl

pub returns-clause-who_takes : goal.returns-clause-who_takes
unfolding first_state grant_with start_grant is_on_after state_after_alarm marks_of_all ownership_after holder_after state_after_action alarm_of marks_after_goes state_after_goes ownership_after_taking holder_after_taking grant_of_taker state_after_taking
returns-clause-who_takes c = refl

pub returns-clause-who_is_started : goal.returns-clause-who_is_started
unfolding first_state grant_with start_grant is_on_after state_after_alarm marks_of_all ownership_after holder_after state_after_action alarm_of marks_after_goes state_after_goes ownership_after_taking holder_after_taking grant_of_taker state_after_taking
returns-clause-who_is_started c = refl

pub returns-clause-zone_goes_off : goal.returns-clause-zone_goes_off
unfolding first_state grant_with start_grant is_on_after state_after_alarm marks_of_all ownership_after holder_after state_after_action alarm_of marks_after_goes state_after_goes ownership_after_taking holder_after_taking grant_of_taker state_after_taking
returns-clause-zone_goes_off c = refl
