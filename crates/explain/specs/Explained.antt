-- Meaning. How a verdict is explained.
use Rattle.std.specs.Prelude.{◌≡◌, ℕ, List, [], ◌∷◌, ◌++◌, codes, Option, None, Some}
use Rattle.std.specs.Fmt.{decimal}
use Rattle.explain_alarms.specs.Alarms.{alarm_line}
use Rattle.explain_alarms.specs.States.{IsToldOf}
use Rattle.explain_alarms.specs.Texts.{state_text}
use Rattle.explain_alarms.specs.declared.state.AlarmState.{AlarmState}
use Rattle.clash_check.specs.PairNumbers.{numbers_of}
use Rattle.explain.specs.Clashes.{IsMetText}
use Rattle.explain_texts.specs.Headlines.{headline, yes_line}
use Rattle.explain.specs.Numbers.{IsUndecidedText}
use Rattle.explain.specs.Room.{IsYesText}
use Rattle.job_types.specs.Job.{JobView}
use Rattle.explain_meetings.specs.ZonePairs.{zone_pairs_of}
use Rattle.order_clocks.specs.Clocked.{ClocksView}
use Rattle.order_clocks.specs.Tells.{is_before_in}
use Rattle.zone_stretches.specs.Overlaps.{compared_pairs}
use Rattle.zone_stretches.specs.Stretches.{StretchesView}
use Rattle.explain_assumptions.specs.Assumptions.{assumptions_of}
use Rattle.explain_assumptions.specs.Texts.{assumptions_text}
use Rattle.explain_stops.specs.Alarms.{alarm_text}
use Rattle.explain_stops.specs.RaceTexts.{race_text}
use Rattle.explain_stops.specs.Stuck.{last_board, stuck_text}
use Rattle.sync_types.specs.Views.{RunView, StartView}
use Rattle.sync_types.specs.declared.verdicts.Verdict.{Verdict}
use Rattle.sync_types.specs.declared.verdicts.Verdict.TheVariants.{Alarm, No, Race, Stuck, Undecided, Yes}
use Rattle.explain_places.specs.declared.place.Meeting.{Meeting}
use Rattle.explain_pairs.specs.declared.pairs.ZonePair.{ZonePair}

-- what an alarmed block found, under its channel
unfoldable pub one_found_text : ℕ → List ℕ → List ℕ
one_found_text channel found = codes "What the block of channel " ++ (decimal channel ++ (codes " found\n" ++ found))

-- nothing where it found nothing
unfoldable pub found_text : ℕ → List ℕ → List ℕ
found_text channel [] = []
found_text channel (byte ∷ bytes) = one_found_text channel (byte ∷ bytes)

-- its state, where that is known
abbrev pub some_text : List ℕ → JobView → Option AlarmState → List ℕ
some_text input job None = []
some_text input job (Some state) = state_text input job state

-- alarms, and what the block of the first found
pub record IsAlarmText (input : List ℕ) (job : JobView) (start : StartView) (run : RunView) (channel : ℕ) (text : List ℕ) : Type 0 where
  pub state : Option AlarmState
  pub found : IsToldOf job run channel (alarm_line channel run.entries) state
  pub told : text ≡ alarm_text input job run (last_board start run) channel ++ found_text channel (some_text input job state)

-- a verdict in one line, and what stands after it
pub record IsHeaded (front : List ℕ) (IsBody : List ℕ → Type 0) (text : List ℕ) : Type 0 where
  pub body : List ℕ
  pub is : IsBody body
  pub whole : text ≡ front ++ body

-- what is told of each two zones of a job, by the order of the events of its run
abbrev pub zones_told : JobView → RunView → ClocksView → StretchesView → List ZonePair
zones_told job run clocks stretches = zone_pairs_of (is_before_in clocks.rows) job run stretches

-- a verdict in one line, and why: from the lines of the input, the job, its start and its run, the order of the events, the time of the zones, and the boxes that meet
abbrev pub IsVerdictText : List ℕ → JobView → StartView → RunView → ClocksView → StretchesView → List Meeting → Verdict → List ℕ → Type 0
IsVerdictText input job start run clocks stretches met (Race race) text = text ≡ race_text input job race
IsVerdictText input job start run clocks stretches met (Stuck channel line) text = text ≡ stuck_text input job run (last_board start run) channel
IsVerdictText input job start run clocks stretches met (Alarm channel alarm) text = IsAlarmText input job start run channel text
IsVerdictText input job start run clocks stretches met (Undecided count budget) text =
    IsHeaded (headline (Undecided count budget)) (IsUndecidedText (numbers_of (is_before_in clocks.rows) job stretches)) text
IsVerdictText input job start run clocks stretches met (No left right) text = IsHeaded (headline (No left right)) (IsMetText input job run met) text
IsVerdictText input job start run clocks stretches met Yes text =
    IsHeaded (yes_line (zones_told job run clocks stretches)) (IsYesText input job run (zones_told job run clocks stretches) (compared_pairs (is_before_in clocks.rows) job stretches)) text

-- what a run takes for granted
unfoldable pub granted_text : List ℕ → JobView → RunView → List ℕ
granted_text input job run = assumptions_text input job (assumptions_of job run)

-- a verdict, explained, and below it what the run takes for granted
pub record IsExplained (input : List ℕ) (job : JobView) (start : StartView) (run : RunView) (clocks : ClocksView) (stretches : StretchesView) (met : List Meeting) (verdict : Verdict)
    (text : List ℕ) : Type 0 where
  pub body : List ℕ
  pub is : IsVerdictText input job start run clocks stretches met verdict body
  pub whole : text ≡ body ++ granted_text input job run
