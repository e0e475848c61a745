-- Meaning. The verdict line.
use Rattle.std.specs.Prelude.{ℕ, List, ◌++◌, unwrap_or, codes}
use Rattle.std.specs.Fmt.{decimal}
use Rattle.fault_codes.specs.declared.Alarm.{Alarm}
use Rattle.sync_types.specs.declared.runs.Race.{Race}
use Rattle.sync_types.specs.declared.verdicts.PlaceName.{PlaceName}
use Rattle.sync_types.specs.declared.verdicts.StretchKind.{StretchKind}
use Rattle.sync_types.specs.declared.verdicts.StretchKind.TheVariants as kind
use Rattle.sync_types.specs.declared.verdicts.Verdict.{Verdict}
use Rattle.sync_types.specs.declared.verdicts.Verdict.TheVariants as verdict

-- the name of a kind of stretch
unfoldable pub kind_text : StretchKind → List ℕ
kind_text kind.Idle = codes "IDLE"
kind_text kind.Run = codes "RUN"
kind_text kind.Hold = codes "HOLD"
kind_text kind.End = codes "END"
kind_text kind.Free = codes "FREE"

-- a place as the verdict names it; channel 0 is none
unfoldable pub place_text : PlaceName → List ℕ
place_text place = codes "ZONE " ++ (decimal place.zone ++ (codes " CHANNEL " ++ (decimal (unwrap_or place.channel 0) ++ (codes " " ++ (kind_text place.kind ++ (codes " " ++ decimal place.line))))))

-- a line of a channel as the verdict names it
unfoldable pub channel_place_text : ℕ × ℕ → List ℕ
channel_place_text place = codes "CHANNEL " ++ (decimal place.0 ++ (codes " LINE " ++ decimal place.1))

-- the verdict line of a race
unfoldable pub race_line : Race → List ℕ
race_line race = codes "VERDICT RACE " ++ (channel_place_text race.first ++ (codes " " ++ (channel_place_text race.second ++ codes "\n")))

-- the verdict line of a channel that waits for good
unfoldable pub stuck_line : ℕ → ℕ → List ℕ
stuck_line channel line = codes "VERDICT STUCK " ++ (channel_place_text (channel, line) ++ codes "\n")

-- the verdict line of two boxes that meet
unfoldable pub meeting_line : PlaceName → PlaceName → List ℕ
meeting_line place other = codes "VERDICT NO " ++ (place_text place ++ (codes " " ++ (place_text other ++ codes "\n")))

-- the verdict line of more pairs than may be compared
unfoldable pub undecided_line : ℕ → ℕ → List ℕ
undecided_line count budget = codes "VERDICT UNDECIDED COUNT " ++ (decimal count ++ (codes " BUDGET " ++ (decimal budget ++ codes "\n")))

-- the verdict line of an alarm
unfoldable pub alarm_line : ℕ → Alarm → List ℕ
alarm_line channel alarm = codes "VERDICT ALARM " ++ (channel_place_text (channel, alarm.line) ++ (codes " CODE " ++ (decimal alarm.code ++ codes "\n")))

-- the verdict line
unfoldable pub verdict_line : Verdict → List ℕ
verdict_line verdict.Yes = codes "VERDICT YES\n"
verdict_line (verdict.Race race) = race_line race
verdict_line (verdict.Stuck channel line) = stuck_line channel line
verdict_line (verdict.No place other) = meeting_line place other
verdict_line (verdict.Undecided count budget) = undecided_line count budget
verdict_line (verdict.Alarm channel alarm) = alarm_line channel alarm
