use Rattle.coordination_tests.specs.MarkClocks.{two_channels}
use Rattle.schedule_laws.proofs.RunLaws.{all_agree}
use Rattle.schedule_laws.specs.Schedules.{IsQuietRun}
use Rattle.coordination_tests.proofs.Meeting.{first_is_maximal, first_is_sequential, numbers, quiet, second_is_maximal, sound, they_differ}
use Rattle.coordination_tests.proofs.a_quiet_run_is_one_of_two.Goals as goal
use Rattle.coordination_tests.specs.Meetings.{meeting, first_waits, second_waits}

pub returns : goal.returns
returns c =
    let one : IsQuietRun meeting two_channels first_waits = record { sound = sound; numbers = numbers; maximal = first_is_maximal; quiet = quiet } in
    record {
      quiet = one;
      sequential = first_is_sequential;
      other = second_is_maximal;
      differ = they_differ;
      same = all_agree meeting two_channels first_waits second_waits one second_is_maximal;
    }
