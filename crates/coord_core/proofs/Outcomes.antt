-- What a channel is told, by what it does.
use Rattle.std.proofs.Common.{◌≡◌, ℕ, Bool, true, false, Option, Some, None, is_some, if◌then◌else◌, refl, ap, ◌∙◌}
use Rattle.coord_core.specs.Boards.{channel_state}
use Rattle.coord_core.specs.DeskLaws.{TellsWhatIs}
use Rattle.coord_core.specs.Histories.{History, board_of, runs, outcome_in, outcome_at, answer_of}
use Rattle.coord_core.specs.declared.ChannelState.TheVariants as told
use Rattle.coord_core.specs.declared.outcome.Outcome.{Outcome}
use Rattle.coord_core.specs.declared.outcome.Outcome.TheVariants.{Granted, Done, Over, Closed, NoMemory}
use Rattle.fault_codes.specs.declared.Alarm.{Alarm}
use Rattle.sync_types.specs.Boards.{State, IsIdle, IsRunning, IsHolding, HasEnded, HasAlarmed, is_running, grant_in}
use Rattle.sync_types.specs.Runs.{is_over}
use Rattle.sync_types.specs.Views.{StartView}
use Rattle.sync_types.specs.declared.Grant.{Grant}

abbrev granted : Option Grant → Option Outcome
granted (Some grant) = Some (Granted grant)
granted None = None

pub of_granted : (s : State) (over : Bool) (grant : Grant) → grant_in s ≡ Some grant → outcome_in s over ≡ Some (Granted grant)
of_granted (IsRunning other) over grant is = ap granted is
of_granted IsIdle over grant is = cc
of_granted (IsHolding hold line) over grant is = cc
of_granted (HasEnded line) over grant is = cc
of_granted (HasAlarmed code line) over grant is = cc

pub of_ended : (s : State) (over : Bool) (line : ℕ) → channel_state s ≡ told.Ended line → outcome_in s over ≡ Some Done
of_ended (HasEnded other) over line is = refl
of_ended (HasAlarmed code other) over line is = refl
of_ended IsIdle over line is = cc
of_ended (IsRunning grant) over line is = cc
of_ended (IsHolding hold other) over line is = cc

pub of_alarmed : (s : State) (over : Bool) (alarm : Alarm) → channel_state s ≡ told.Alarmed alarm → outcome_in s over ≡ Some Done
of_alarmed (HasEnded other) over alarm is = refl
of_alarmed (HasAlarmed code other) over alarm is = refl
of_alarmed IsIdle over alarm is = cc
of_alarmed (IsRunning grant) over alarm is = cc
of_alarmed (IsHolding hold other) over alarm is = cc

pub of_others : (s : State) (over : Bool) → grant_in s ≡ None → ((line : ℕ) → channel_state s ≡ told.Ended line → ⊥)
    → ((alarm : Alarm) → channel_state s ≡ told.Alarmed alarm → ⊥) → outcome_in s over ≡ (if over then Some Over else None)
of_others IsIdle over off ended alarmed = refl
of_others (IsHolding hold line) over off ended alarmed = refl
of_others (IsRunning grant) over off ended alarmed = cc
of_others (HasEnded line) over off ended alarmed = absurd (ended line refl)
of_others (HasAlarmed code line) over off ended alarmed = absurd (alarmed (record { code = code; line = line }) refl)

pub at_closed : (start : StartView) (history : History) (c : ℕ) → history.closed ≡ true → answer_of start history c ≡ Some Closed
unfolding answer_of
at_closed start history c is = ap (λ (b : Bool). outcome_at b ((board_of start history).state c) (is_over (board_of start history))) is

pub at_open : (start : StartView) (history : History) (c : ℕ) → history.closed ≡ false
    → answer_of start history c ≡ outcome_in ((board_of start history).state c) (is_over (board_of start history))
unfolding answer_of
at_open start history c is = ap (λ (b : Bool). outcome_at b ((board_of start history).state c) (is_over (board_of start history))) is

-- who has a grant runs
pub has_grant : (s : State) → is_running s ≡ is_some (grant_in s)
has_grant (IsRunning grant) = refl
has_grant IsIdle = refl
has_grant (IsHolding hold line) = refl
has_grant (HasEnded line) = refl
has_grant (HasAlarmed code line) = refl

same_grant : (g h : Grant) → Some (Granted g) ≡ Some (Granted h) → g ≡ h
same_grant g h is = cc

closed_alone : (s : State) (over : Bool) → outcome_in s over ≡ Some Closed → ⊥
closed_alone (IsRunning grant) over is = cc
closed_alone IsIdle true is = cc
closed_alone IsIdle false is = cc
closed_alone (IsHolding hold line) true is = cc
closed_alone (IsHolding hold line) false is = cc
closed_alone (HasEnded line) over is = cc
closed_alone (HasAlarmed code line) over is = cc

memory_alone : (s : State) (over : Bool) → outcome_in s over ≡ Some NoMemory → ⊥
memory_alone (IsRunning grant) over is = cc
memory_alone IsIdle true is = cc
memory_alone IsIdle false is = cc
memory_alone (IsHolding hold line) true is = cc
memory_alone (IsHolding hold line) false is = cc
memory_alone (HasEnded line) over is = cc
memory_alone (HasAlarmed code line) over is = cc

tells_closed : (closed : Bool) (s : State) (over : Bool) → outcome_at closed s over ≡ Some Closed → closed ≡ true
tells_closed true s over is = refl
tells_closed false s over is = absurd (closed_alone s over is)

tells_no_memory : (closed : Bool) (s : State) (over : Bool) → outcome_at closed s over ≡ Some NoMemory → ⊥
tells_no_memory true s over is = cc
tells_no_memory false s over is = memory_alone s over is

granted_alone : (s : State) (over : Bool) (grant : Grant) → outcome_in s over ≡ Some (Granted grant) → grant_in s ≡ Some grant
granted_alone (IsRunning other) over grant is = ap (λ (g : Grant). Some g) (same_grant other grant is)
granted_alone IsIdle true grant is = cc
granted_alone IsIdle false grant is = cc
granted_alone (IsHolding hold line) true grant is = cc
granted_alone (IsHolding hold line) false grant is = cc
granted_alone (HasEnded line) over grant is = cc
granted_alone (HasAlarmed code line) over grant is = cc

tells_granted : (closed : Bool) (s : State) (over : Bool) (grant : Grant) → outcome_at closed s over ≡ Some (Granted grant) → grant_in s ≡ Some grant
tells_granted true s over grant is = cc
tells_granted false s over grant is = granted_alone s over grant is

pub tells_what_is : (start : StartView) (history : History) (c : ℕ) → TellsWhatIs start history c
unfolding answer_of
tells_what_is start history c = record {
  closed = tells_closed history.closed ((board_of start history).state c) (is_over (board_of start history));
  granted = tells_granted history.closed ((board_of start history).state c) (is_over (board_of start history));
  memory = tells_no_memory history.closed ((board_of start history).state c) (is_over (board_of start history));
}

-- who is told Granted runs
pub granted_runs : (start : StartView) (history : History) (c : ℕ) (grant : Grant) → answer_of start history c ≡ Some (Granted grant) → runs start history c ≡ true
granted_runs start history c grant is = has_grant ((board_of start history).state c) ∙ ap is_some ((tells_what_is start history c).granted grant is)
