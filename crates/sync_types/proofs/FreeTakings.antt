-- No action of today lets a channel take axes from channels that stand: on no board of a run does one hold so.
use Rattle.axis_sets.specs.declared.limits.TheConstants.{CHANNEL_LIMIT}
use Rattle.std.proofs.Common.{◌≡◌, ℕ, ◌==◌, zero, suc, true, false, List, [], ◌∷◌, Option, Some, None, refl}
use Rattle.sync_types.proofs.BoardTests.{by_test}
use Rattle.sync_types.specs.BoardActions.{channels_to_start, state_of_actor, state_after_alarm, state_after_action, after_effects, after_part, after_own_part}
use Rattle.sync_types.specs.BoardAlarms.{alarm_of}
use Rattle.sync_types.specs.Boards.{Board, among, first_board, first_state}
use Rattle.sync_types.specs.GoingOn.{after_goes, after_taking, goers_at_once, next_taker, state_after_goes, state_after_taking, takes_from_standing, takings, takings_from}
use Rattle.sync_types.specs.Starts.{runs_at_first}
use Rattle.sync_types.specs.Turns.{after_entries, after_moves, after_step, Move}
use Rattle.sync_types.specs.Views.{EntryView, StartView}
use Rattle.sync_types.specs.declared.Action.{Action}
use Rattle.sync_types.specs.declared.Action.TheVariants.{Get}
use Rattle.sync_types.specs.declared.Step.{Step}

-- nobody holds so that it takes axes from channels that stand
abbrev pub NobodyRobs : Board → Type 0
NobodyRobs b = (c : ℕ) → takes_from_standing (b.state c) ≡ false

actor_robs_nobody : (b : Board) (c line : ℕ) (action : Action) → takes_from_standing (state_of_actor b c line action) ≡ false
actor_robs_nobody b c line (Get axes) = refl
actor_robs_nobody b c line other = refl

part_robs_nobody : (b : Board) (c : ℕ) (step : Step) (alarm : Option ℕ) → NobodyRobs b → NobodyRobs (after_part b c step alarm)
unfolding state_after_alarm state_after_action
part_robs_nobody b c step (Some code) none d = by_test (λ s. takes_from_standing s ≡ false) (d == c) _ _ (λ here. refl) (λ other. none d)
part_robs_nobody b c step None none d = by_test (λ s. takes_from_standing s ≡ false) (d == c) _ _
    (λ here. actor_robs_nobody (after_effects b c step) c step.line step.action)
    (λ other. by_test (λ s. takes_from_standing s ≡ false) (among (channels_to_start step.action) d) _ _ (λ starts. refl) (λ stays. none d))

pub own_part_robs_nobody : (b : Board) (c : ℕ) (step : Step) → NobodyRobs b → NobodyRobs (after_own_part b c step)
own_part_robs_nobody b c step none = part_robs_nobody b c step (alarm_of b c step.action) none

pub goes_rob_nobody : (b : Board) → NobodyRobs b → NobodyRobs (after_goes b)
unfolding state_after_goes
goes_rob_nobody b none d = by_test (λ s. takes_from_standing s ≡ false) (among (goers_at_once b) d) _ _ (λ goes. refl) (λ stays. none d)

pub taking_robs_nobody : (b : Board) (c : ℕ) → NobodyRobs b → NobodyRobs (after_taking b c)
unfolding state_after_taking
taking_robs_nobody b c none d = by_test (λ s. takes_from_standing s ≡ false) (d == c) _ _ (λ here. refl) (λ other. none d)

pub takings_rob_nobody : (n : ℕ) (b : Board) → NobodyRobs b → NobodyRobs (takings n b).board
takings_rob_nobody zero b none = none
takings_rob_nobody (suc n) b none = next (takings_rob_nobody n) (next_taker b)
  where
    next : ((a : Board) → NobodyRobs a → NobodyRobs (takings n a).board) → (taker : Option ℕ) → NobodyRobs (takings_from (takings n) b taker).board
    next rest None = none
    next rest (Some c) = rest (after_taking b c) (taking_robs_nobody b c none)

pub step_robs_nobody : (b : Board) (c : ℕ) (step : Step) → NobodyRobs b → NobodyRobs (after_step b c step)
step_robs_nobody b c step none = takings_rob_nobody CHANNEL_LIMIT (after_goes (after_own_part b c step)) (goes_rob_nobody (after_own_part b c step) (own_part_robs_nobody b c step none))

pub first_robs_nobody : (start : StartView) → NobodyRobs (first_board start)
unfolding first_state
first_robs_nobody start c = by_test (λ s. takes_from_standing s ≡ false) (runs_at_first start c) _ _ (λ runs. refl) (λ rests. refl)

pub entries_rob_nobody : (b : Board) (es : List EntryView) → NobodyRobs b → NobodyRobs (after_entries b es)
entries_rob_nobody b [] none = none
entries_rob_nobody b (e ∷ es) none = entries_rob_nobody (after_step b e.channel e.step) es (step_robs_nobody b e.channel e.step none)

pub moves_rob_nobody : (b : Board) (ms : List Move) → NobodyRobs b → NobodyRobs (after_moves b ms)
moves_rob_nobody b [] none = none
moves_rob_nobody b (m ∷ ms) none = moves_rob_nobody (after_step b m.channel m.step) ms (step_robs_nobody b m.channel m.step none)
