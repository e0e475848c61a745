-- Channels that the start has not are idle for good, so they have no entries.
use Rattle.axis_sets.specs.declared.limits.TheConstants.{CHANNEL_LIMIT}
use Rattle.std.proofs.Common.{◌≡◌, ℕ, zero, suc, ◌==◌, Bool, true, false, cond, List, [], ◌∷◌, Option, Some, None, refl, sym, ap, ◌∙◌, eqb-true, inl, inr}
use Rattle.std.proofs.lemmas.Bool.{cases_Bool, and_parts}
use Rattle.axis_sets.specs.Sets.{members_of}
use Rattle.coord_core.proofs.Entering.{step_start}
use Rattle.coord_core.proofs.Staying.{no_alarm}
use Rattle.coord_core.specs.Desks.{own_entries}
use Rattle.sync_types.proofs.BoardTests.{no_truth, passes, among_kept, by_test, first_passes, not_not, not_found}
use Rattle.sync_types.specs.BoardActions.{channels_to_start, state_after_alarm, state_after_action, after_alarm, after_action, after_part, after_own_part}
use Rattle.sync_types.specs.BoardAlarms.{alarm_of, names_no_channel}
use Rattle.sync_types.specs.Boards.{State, IsIdle, Board, among, channel_numbers, first_board, first_state, is_running}
use Rattle.sync_types.specs.GoingOn.{goes_at_once, goers_at_once, waits_for_axes, state_after_goes, after_goes, can_take, next_taker, state_after_taking, after_taking, takings, takings_from}
use Rattle.sync_types.specs.Starts.{has_channel, runs_at_first}
use Rattle.sync_types.specs.Turns.{AreEntries, after_step}
use Rattle.sync_types.specs.Views.{StartView, EntryView}
use Rattle.sync_types.specs.declared.Action.{Action}
use Rattle.sync_types.specs.declared.Action.TheVariants.{Start}
use Rattle.sync_types.specs.declared.Step.{Step}

pub idle_at_first : (start : StartView) (d : ℕ) → has_channel start d ≡ false → (first_board start).state d ≡ IsIdle
unfolding first_state
idle_at_first start d off = by_test (λ s. s ≡ IsIdle) (runs_at_first start d) _ _ (λ runs. no_truth (runs_at_first start d) runs (not_found (λ line. line.0 == d) start.channels off)) (λ rests. refl)

not_same : (a b : ℕ) → (a ≡ b → ⊥) → (a == b) ≡ false
not_same a b apart = elim (cases_Bool (a == b)) [
  | inl on ↦ absurd (apart (eqb-true a b on))
  | inr off ↦ off
]

no_goer : (b : Board) (s : State) → s ≡ IsIdle → goes_at_once b s ≡ false
no_goer b s idle = ap (goes_at_once b) idle

module _ (d : ℕ) where
  idle_alarm : (b : Board) (c : ℕ) (step : Step) (code : ℕ) → (d == c) ≡ false → b.state d ≡ IsIdle → (after_alarm b c step code).state d ≡ IsIdle
  unfolding state_after_alarm
  idle_alarm b c step code other idle = by_test (λ s. s ≡ IsIdle) (d == c) _ _ (λ here. no_truth (d == c) here other) (λ off. idle)

  starts_known : (b : Board) (action : Action) → names_no_channel b action ≡ false → among (channels_to_start action) d ≡ true → has_channel b.start d ≡ true
  starts_known b (Start named) known on = passes (has_channel b.start) (members_of named) d (not_not _ known) on
  starts_known b other known on = no_truth false on refl

  idle_action : (b : Board) (c : ℕ) (step : Step) → names_no_channel b step.action ≡ false → has_channel b.start d ≡ false → (d == c) ≡ false → b.state d ≡ IsIdle → (after_action b c step).state d ≡ IsIdle
  unfolding state_after_action
  idle_action b c step there off other idle = by_test (λ s. s ≡ IsIdle) (d == c) _ _
      (λ here. no_truth (d == c) here other)
      (λ apart. by_test (λ s. s ≡ IsIdle) (among (channels_to_start step.action) d) _ _
      (λ starts. no_truth (has_channel b.start d) (starts_known b step.action there starts) off)
      (λ rests. idle))

  idle_part : (b : Board) (c : ℕ) (step : Step) (alarm : Option ℕ) → alarm_of b c step.action ≡ alarm → has_channel b.start d ≡ false → (d == c) ≡ false → b.state d ≡ IsIdle → (after_part b c step alarm).state d ≡ IsIdle
  idle_part b c step (Some code) is off other idle = idle_alarm b c step code other idle
  idle_part b c step None is off other idle = idle_action b c step (no_alarm b c step.action is).known off other idle

  idle_goes : (b : Board) → b.state d ≡ IsIdle → (after_goes b).state d ≡ IsIdle
  unfolding state_after_goes
  idle_goes b idle = by_test (λ s. s ≡ IsIdle) (among (goers_at_once b) d) _ _
      (λ goes. no_truth (goes_at_once b (b.state d)) (and_parts (among channel_numbers d) (goes_at_once b (b.state d)) (sym (among_kept (λ c. goes_at_once b (b.state c)) channel_numbers d) ∙ goes)).1 (no_goer b (b.state d) idle))
      (λ rests. idle)

  idle_taking : (b : Board) (c : ℕ) → can_take b c ≡ true → b.state d ≡ IsIdle → (after_taking b c).state d ≡ IsIdle
  unfolding state_after_taking
  idle_taking b c takes idle = by_test (λ s. s ≡ IsIdle) (d == c) _ _
      (λ here. no_truth (waits_for_axes (b.state c)) (and_parts _ _ takes).0 (ap (λ x. waits_for_axes (b.state x)) (sym (eqb-true d c here)) ∙ ap waits_for_axes idle))
      (λ other. idle)

  idle_takings : (n : ℕ) (b : Board) → b.state d ≡ IsIdle → (takings n b).board.state d ≡ IsIdle
  idle_takings zero b idle = idle
  idle_takings (suc n) b idle = next (idle_takings n) (next_taker b) refl
    where
      next : ((a : Board) → a.state d ≡ IsIdle → (takings n a).board.state d ≡ IsIdle) → (taker : Option ℕ) → next_taker b ≡ taker → (takings_from (takings n) b taker).board.state d ≡ IsIdle
      next rest None is = idle
      next rest (Some c) is = rest (after_taking b c) (idle_taking b c (first_passes (can_take b) channel_numbers c is) idle)

  idle_step : (b : Board) (c : ℕ) (step : Step) → has_channel b.start d ≡ false → (d == c) ≡ false → b.state d ≡ IsIdle → (after_step b c step).state d ≡ IsIdle
  idle_step b c step off other idle = idle_takings CHANNEL_LIMIT (after_goes (after_own_part b c step)) (idle_goes (after_own_part b c step) (idle_part b c step (alarm_of b c step.action) refl off other idle))

  not_own : (own : Bool) (e : EntryView) (others : List EntryView) → own ≡ false → others ≡ [] → cond own (e ∷ others) others ≡ []
  not_own false e others is none = none
  not_own true e others is none = absurd cc

  this_or_not : (b : Board) (c : ℕ) → is_running (b.state c) ≡ true → b.state d ≡ IsIdle → ((c == d) ≡ false) × ((d == c) ≡ false)
  this_or_not b c runs idle =
      let apart : c ≡ d → ⊥ = λ same. no_truth (is_running (b.state c)) runs (ap (λ (n : ℕ). is_running (b.state n)) same ∙ ap is_running idle) in
      (not_same c d apart, not_same d c (λ same. apart (sym same)))

  none_there : (b : Board) (es : List EntryView) → AreEntries b es → has_channel b.start d ≡ false → b.state d ≡ IsIdle → own_entries d es ≡ []
  none_there b [] lawful off idle = refl
  none_there b (e ∷ es) lawful off idle =
      let apart = this_or_not b e.channel lawful.0 idle in
      not_own (e.channel == d) e (own_entries d es) apart.0
      (none_there (after_step b e.channel e.step) es lawful.2
      (ap (λ (s : StartView). has_channel s d) (step_start b e.channel e.step) ∙ off)
      (idle_step b e.channel e.step off apart.1 idle))

-- a channel that the start has not has no entries
pub no_strangers : (start : StartView) (d : ℕ) (es : List EntryView) → AreEntries (first_board start) es → has_channel start d ≡ false → own_entries d es ≡ []
no_strangers start d es lawful off = none_there d (first_board start) es lawful off (idle_at_first start d off)
