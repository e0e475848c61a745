-- Meaning. The exit status of each way to end, and the way to end of each verdict.
use Rattle.std.specs.Prelude.{ℕ}
use Rattle.exit_statuses.specs.declared.Status.{Status}
use Rattle.exit_statuses.specs.declared.Status.TheVariants as ends
use Rattle.sync_types.specs.declared.verdicts.Verdict.{Verdict}
use Rattle.sync_types.specs.declared.verdicts.Verdict.TheVariants.{Yes, No, Undecided}
use Rattle.sync_types.specs.declared.verdicts.Verdict.TheVariants as verdicts

-- the number that the program ends with
abbrev pub exit_number : Status → ℕ
exit_number ends.Yes = 0
exit_number ends.No = 1
exit_number ends.Race = 2
exit_number ends.Stuck = 3
exit_number ends.Alarm = 4
exit_number ends.Undecided = 5
exit_number ends.Refused = 6
exit_number ends.Usage = 7
exit_number ends.ReadFault = 8
exit_number ends.WriteFault = 9
exit_number ends.TooLong = 10
exit_number ends.NoMemory = 11

-- the status of a verdict
abbrev pub status_of : Verdict → Status
status_of Yes = ends.Yes
status_of (verdicts.Race race) = ends.Race
status_of (verdicts.Stuck channel line) = ends.Stuck
status_of (No first second) = ends.No
status_of (Undecided count budget) = ends.Undecided
status_of (verdicts.Alarm channel alarm) = ends.Alarm
