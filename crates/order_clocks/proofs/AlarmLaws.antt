-- A step alarms where it is the channel's last and the channel is alarmed at the end.
use Rattle.axis_sets.specs.declared.limits.TheConstants.{CHANNEL_LIMIT}
use Rattle.std.proofs.Common.{◌≡◌, ℕ, zero, suc, ◌⊎◌, ◌==◌, ◌||◌, Bool, true, false, inl, inr, Option, Some, None, refl, sym, ap, ◌∙◌}
use Rattle.std.specs.Prelude.{is_some}
use Rattle.std.proofs.lemmas.Bool.{cases_Bool, eqb-true, eq-eqb, and_parts}
use Rattle.axis_sets.specs.Sets.{members_of}
use Rattle.order_clocks.specs.Stops.{is_alarmed}
use Rattle.order_clocks.specs.Watching.{wait_in}
use Rattle.order_clocks.proofs.DepartLaws.{taker_waits}
use Rattle.order_clocks.proofs.ReadLaws.{no_alarm, named_channels_are, started_idle}
use Rattle.sync_types.proofs.BoardTests.{no_truth, among_kept, passes, not_not}
use Rattle.sync_types.specs.BoardActions.{channels_to_start, after_own_part, after_part, after_effects, state_after_alarm, state_after_action, state_of_actor}
use Rattle.sync_types.specs.BoardAlarms.{alarm_of, names_no_channel}
use Rattle.sync_types.specs.Boards.{State, IsIdle, IsRunning, IsHolding, HasAlarmed, Board, among, channel_numbers, is_idle, is_running}
use Rattle.sync_types.specs.GoingOn.{goes_at_once, goers_at_once, state_after_goes, after_goes, waits_for_axes, next_taker, state_after_taking, after_taking, takings, takings_from, after_goings}
use Rattle.sync_types.specs.Starts.{has_channel}
use Rattle.sync_types.specs.Turns.{after_step}
use Rattle.sync_types.specs.declared.Action.{Action}
use Rattle.sync_types.specs.declared.Action.TheVariants.{WaitM, SetM, ClearM, Init, Start, WaitE, Release, Get, End, Alarm}
use Rattle.sync_types.specs.declared.Step.{Step}

-- a test of states that those which go on pass (or none), and that stays
record Stays (b : Board) (d : ℕ) (a : Board) : Type 0 where
  same : (a.state d ≡ b.state d) ⊎ (is_running (a.state d) ≡ true)

stays_on : (b mid a : Board) (d : ℕ) → Stays b d mid → Stays mid d a → Stays b d a
stays_on b mid a d one two = elim two.same [
  | inl same ↦ elim one.same [
    | inl before ↦ record { same = inl (same ∙ before) }
    | inr runs ↦ record { same = inr (rw same runs) }
  ]
  | inr runs ↦ record { same = inr runs }
]

taking_stays : (b : Board) (c d : ℕ) → Stays b d (after_taking b c)
unfolding state_after_taking
taking_stays b c d = by_case (d == c) refl
  where
    by_case : (t : Bool) → (d == c) ≡ t → Stays b d (after_taking b c)
    by_case true e = record { same = inr (rw e refl) }
    by_case false e = record { same = inl (rw e refl) }

takings_stay : (n : ℕ) (b : Board) (d : ℕ) → Stays b d (takings n b).board
takings_stay zero b d = record { same = inl refl }
takings_stay (suc n) b d = next (takings_stay n) (next_taker b)
  where
    next : ((a : Board) (x : ℕ) → Stays a x (takings n a).board) → (taker : Option ℕ) → Stays b d (takings_from (takings n) b taker).board
    next rest None = record { same = inl refl }
    next rest (Some c) = stays_on b (after_taking b c) (takings n (after_taking b c)).board d (taking_stays b c d) (rest (after_taking b c) d)

goes_stay : (b : Board) (d : ℕ) → Stays b d (after_goes b)
unfolding state_after_goes
goes_stay b d = by_case (among (goers_at_once b) d) refl
  where
    by_case : (t : Bool) → among (goers_at_once b) d ≡ t → Stays b d (after_goes b)
    by_case true e = record { same = inr (rw e refl) }
    by_case false e = record { same = inl (rw e refl) }

goings_stay : (b : Board) (d : ℕ) → Stays b d (after_goings b)
goings_stay b d = stays_on b (after_goes b) (after_goings b) d (goes_stay b d) (takings_stay CHANNEL_LIMIT (after_goes b) d)

-- who does not wait is as it was
taking_leaves : (b : Board) (c d : ℕ) → next_taker b ≡ Some c → wait_in (b.state d) ≡ None → (after_taking b c).state d ≡ b.state d
unfolding state_after_taking
taking_leaves b c d is none = elim (cases_Bool (d == c)) [
  | inl same ↦ no_truth (waits_for_axes (b.state c)) (taker_waits b c is) (no_axes (b.state c) (rw (eqb-true d c same) at none))
  | inr other ↦ rw other refl
]
  where
    no_axes : (s : State) → wait_in s ≡ None → waits_for_axes s ≡ false
    no_axes (IsHolding hold line) bad = no_truth false (ap is_some (sym bad)) refl
    no_axes other none = refl

takings_still : (n : ℕ) (b : Board) (d : ℕ) → wait_in (b.state d) ≡ None → (takings n b).board.state d ≡ b.state d
takings_still zero b d none = refl
takings_still (suc n) b d none = next (takings_still n) (next_taker b) refl
  where
    next : ((a : Board) (x : ℕ) → wait_in (a.state x) ≡ None → (takings n a).board.state x ≡ a.state x) → (taker : Option ℕ) → next_taker b ≡ taker → (takings_from (takings n) b taker).board.state d ≡ b.state d
    next rest None is = refl
    next rest (Some c) is = let same = taking_leaves b c d is none in rest (after_taking b c) d (ap wait_in same ∙ none) ∙ same

goes_still : (b : Board) (d : ℕ) → wait_in (b.state d) ≡ None → (after_goes b).state d ≡ b.state d
unfolding state_after_goes
goes_still b d none = elim (cases_Bool (among (goers_at_once b) d)) [
  | inl goes ↦ no_truth (goes_at_once b (b.state d)) (goer goes) (no_goer (b.state d) none)
  | inr stays ↦ rw stays refl
]
  where
    goer : among (goers_at_once b) d ≡ true → goes_at_once b (b.state d) ≡ true
    goer on = (and_parts (among channel_numbers d) (goes_at_once b (b.state d)) (sym (among_kept (λ e. goes_at_once b (b.state e)) channel_numbers d) ∙ on)).1

    no_goer : (s : State) → wait_in s ≡ None → goes_at_once b s ≡ false
    no_goer (IsHolding hold line) bad = no_truth false (ap is_some (sym bad)) refl
    no_goer other none = refl

goings_still : (b : Board) (d : ℕ) → wait_in (b.state d) ≡ None → (after_goings b).state d ≡ b.state d
goings_still b d none = let one = goes_still b d none in takings_still CHANNEL_LIMIT (after_goes b) d (ap wait_in one ∙ none) ∙ one

-- the own part of a step for another channel
part_stays : (b : Board) (c : ℕ) (step : Step) (d : ℕ) → (d == c) ≡ false → ((after_own_part b c step).state d ≡ b.state d) ⊎ ((is_idle (b.state d) ≡ true) × (is_running ((after_own_part b c step).state d) ≡ true))
unfolding state_after_alarm state_after_action
part_stays b c step d other = by_alarm (alarm_of b c step.action) refl
  where
    by_alarm : (a : Option ℕ) → alarm_of b c step.action ≡ a → ((after_own_part b c step).state d ≡ b.state d) ⊎ ((is_idle (b.state d) ≡ true) × (is_running ((after_own_part b c step).state d) ≡ true))
    by_alarm (Some code) e = inl (rw (e, other) refl)
    by_alarm None e = elim (cases_Bool (among (channels_to_start step.action) d)) [
      | inl started ↦ inr (started_idle b step.action d (no_alarm b c step.action e).1 started, rw (e, other, started) refl)
      | inr left ↦ inl (rw (e, other, left) refl)
    ]

-- a channel that does not act and does not wait, and is not idle, stays as it is
pub other_stays : (b : Board) (c : ℕ) (step : Step) (d : ℕ) → (d == c) ≡ false → is_alarmed (b.state d) ≡ true → is_alarmed ((after_step b c step).state d) ≡ true
other_stays b c step d other on = elim (part_stays b c step d other) [
  | inl same ↦ ap is_alarmed (goings_still (after_own_part b c step) d (ap wait_in same ∙ alarmed_waits (b.state d) on) ∙ same) ∙ on
  | inr starts ↦ no_truth false (sym (not_both (b.state d) on) ∙ starts.0) refl
]
  where
    alarmed_waits : (s : State) → is_alarmed s ≡ true → wait_in s ≡ None
    alarmed_waits (HasAlarmed code line) on = refl
    alarmed_waits other on = no_truth false on refl

    not_both : (s : State) → is_alarmed s ≡ true → is_idle s ≡ false
    not_both (HasAlarmed code line) on = refl
    not_both other on = no_truth false on refl

runs_unalarmed : (s : State) → is_running s ≡ true → is_alarmed s ≡ false
runs_unalarmed (IsRunning grant) on = refl
runs_unalarmed other on = no_truth false on refl

-- one that is not alarmed and does not act is not alarmed
pub other_unalarmed : (b : Board) (c : ℕ) (step : Step) (d : ℕ) → (d == c) ≡ false → is_alarmed (b.state d) ≡ false → is_alarmed ((after_step b c step).state d) ≡ false
other_unalarmed b c step d other off = elim (goings_stay (after_own_part b c step) d).same [
  | inl same ↦ ap is_alarmed same ∙ part
  | inr runs ↦ runs_unalarmed _ runs
]
  where
    part : is_alarmed ((after_own_part b c step).state d) ≡ false
    part = elim (part_stays b c step d other) [
      | inl same ↦ ap is_alarmed same ∙ off
      | inr starts ↦ runs_unalarmed _ starts.1
    ]

-- the actor
pub actor_alarms : (b : Board) (c : ℕ) (step : Step) → is_some (alarm_of b c step.action) ≡ true → is_alarmed ((after_step b c step).state c) ≡ true
unfolding state_after_alarm
actor_alarms b c step on = by_alarm (alarm_of b c step.action) refl
  where
    by_alarm : (a : Option ℕ) → alarm_of b c step.action ≡ a → is_alarmed ((after_step b c step).state c) ≡ true
    by_alarm (Some code) e =
        let own : (after_own_part b c step).state c ≡ HasAlarmed code step.line = rw (e, eq-eqb c c refl) refl in
        ap is_alarmed (goings_still (after_own_part b c step) c (ap wait_in own) ∙ own)
    by_alarm None e = no_truth false (sym (ap is_some e) ∙ on) refl

actor_part : (b : Board) (c : ℕ) (step : Step) → alarm_of b c step.action ≡ None → (after_own_part b c step).state c ≡ state_of_actor (after_effects b c step) c step.line step.action
unfolding state_after_action
actor_part b c step e = rw (e, eq-eqb c c refl) refl

pub actor_unalarmed : (b : Board) (c : ℕ) (step : Step) → is_some (alarm_of b c step.action) ≡ false → is_alarmed ((after_step b c step).state c) ≡ false
actor_unalarmed b c step off = elim (goings_stay (after_own_part b c step) c).same [
  | inl same ↦ ap is_alarmed same ∙ own (alarm_of b c step.action) refl
  | inr runs ↦ runs_unalarmed _ runs
]
  where
    kinds : (a : Action) → is_alarmed (state_of_actor (after_effects b c step) c step.line a) ≡ false
    kinds (WaitM n named) = refl
    kinds (SetM marks) = refl
    kinds (ClearM marks) = refl
    kinds (Init target program) = refl
    kinds (Start named) = refl
    kinds (WaitE named) = refl
    kinds (Release axes) = refl
    kinds (Get axes) = refl
    kinds End = refl
    kinds (Alarm code) = refl

    own : (a : Option ℕ) → alarm_of b c step.action ≡ a → is_alarmed ((after_own_part b c step).state c) ≡ false
    own (Some code) e = no_truth true refl (sym (ap is_some e) ∙ off)
    own None e = ap is_alarmed (actor_part b c step e) ∙ kinds step.action

-- idle channels
pub actor_awake : (b : Board) (c : ℕ) (step : Step) → is_idle ((after_step b c step).state c) ≡ false
unfolding state_after_alarm
actor_awake b c step = elim (goings_stay (after_own_part b c step) c).same [
  | inl same ↦ ap is_idle same ∙ own (alarm_of b c step.action) refl
  | inr runs ↦ awake _ runs
]
  where
    awake : (s : State) → is_running s ≡ true → is_idle s ≡ false
    awake (IsRunning grant) on = refl
    awake other on = no_truth false on refl

    kinds : (a : Action) → is_idle (state_of_actor (after_effects b c step) c step.line a) ≡ false
    kinds (WaitM n named) = refl
    kinds (SetM marks) = refl
    kinds (ClearM marks) = refl
    kinds (Init target program) = refl
    kinds (Start named) = refl
    kinds (WaitE named) = refl
    kinds (Release axes) = refl
    kinds (Get axes) = refl
    kinds End = refl
    kinds (Alarm code) = refl

    own : (a : Option ℕ) → alarm_of b c step.action ≡ a → is_idle ((after_own_part b c step).state c) ≡ false
    own (Some code) e = rw (e, eq-eqb c c refl) refl
    own None e = ap is_idle (actor_part b c step e) ∙ kinds step.action

pub other_awake : (b : Board) (c : ℕ) (step : Step) (d : ℕ) → (d == c) ≡ false → is_idle (b.state d) ≡ false → is_idle ((after_step b c step).state d) ≡ false
other_awake b c step d other off = elim (goings_stay (after_own_part b c step) d).same [
  | inl same ↦ ap is_idle same ∙ part
  | inr runs ↦ awake _ runs
]
  where
    awake : (s : State) → is_running s ≡ true → is_idle s ≡ false
    awake (IsRunning grant) on = refl
    awake other on = no_truth false on refl

    part : is_idle ((after_own_part b c step).state d) ≡ false
    part = elim (part_stays b c step d other) [
      | inl same ↦ ap is_idle same ∙ off
      | inr starts ↦ awake _ starts.1
    ]

-- one that has not acted is idle or runs
pub other_fresh : (b : Board) (c : ℕ) (step : Step) (d : ℕ) → (d == c) ≡ false → (is_idle (b.state d) || is_running (b.state d)) ≡ true → (is_idle ((after_step b c step).state d) || is_running ((after_step b c step).state d)) ≡ true
other_fresh b c step d other on = ap (λ (s : State). is_idle s || is_running s) (goings_still (after_own_part b c step) d (fresh_waits _ part)) ∙ part
  where
    fresh_waits : (s : State) → (is_idle s || is_running s) ≡ true → wait_in s ≡ None
    fresh_waits (IsHolding hold line) bad = no_truth false bad refl
    fresh_waits other on = refl

    runs : (s : State) → is_running s ≡ true → (is_idle s || is_running s) ≡ true
    runs (IsRunning grant) on = refl
    runs other on = no_truth false on refl

    part : (is_idle ((after_own_part b c step).state d) || is_running ((after_own_part b c step).state d)) ≡ true
    part = elim (part_stays b c step d other) [
      | inl same ↦ rw same on
      | inr starts ↦ runs _ starts.1
    ]

-- who is no longer idle is a channel of the machine
takings_start : (n : ℕ) (b : Board) → (takings n b).board.start ≡ b.start
takings_start zero b = refl
takings_start (suc n) b = next (takings_start n) (next_taker b)
  where
    next : ((a : Board) → (takings n a).board.start ≡ a.start) → (taker : Option ℕ) → (takings_from (takings n) b taker).board.start ≡ b.start
    next rest None = refl
    next rest (Some c) = rest (after_taking b c)

step_start : (b : Board) (c : ℕ) (step : Step) → (after_step b c step).start ≡ b.start
step_start b c step = takings_start CHANNEL_LIMIT (after_goes (after_own_part b c step)) ∙ by_alarm (alarm_of b c step.action)
  where
    by_alarm : (a : Option ℕ) → (after_part b c step a).start ≡ b.start
    by_alarm (Some code) = refl
    by_alarm None = refl

started_channels : (b : Board) (c : ℕ) (step : Step) (d : ℕ) → (d == c) ≡ false → is_idle (b.state d) ≡ true → is_running ((after_own_part b c step).state d) ≡ true → has_channel b.start d ≡ true
unfolding state_after_alarm state_after_action
started_channels b c step d other idle runs = by_alarm (alarm_of b c step.action) refl
  where
    idle_runs : (s : State) → is_idle s ≡ true → is_running s ≡ false
    idle_runs IsIdle on = refl
    idle_runs s on = no_truth false on refl

    named : (a : Action) → names_no_channel b a ≡ false → among (channels_to_start a) d ≡ true → has_channel b.start d ≡ true
    named (Start channels) off on = passes (has_channel b.start) (members_of channels) d (not_not _ off) on
    named a off on = no_truth false on refl

    by_alarm : (a : Option ℕ) → alarm_of b c step.action ≡ a → has_channel b.start d ≡ true
    by_alarm (Some code) e = no_truth (is_running (b.state d)) (rw (e, other) at runs) (idle_runs (b.state d) idle)
    by_alarm None e = elim (cases_Bool (among (channels_to_start step.action) d)) [
      | inl started ↦ named step.action (named_channels_are b c step.action e) started
      | inr left ↦ no_truth (is_running (b.state d)) (rw (e, other, left) at runs) (idle_runs (b.state d) idle)
    ]

pub idle_stays : (b : Board) (c : ℕ) (step : Step) → is_running (b.state c) ≡ true → ((d : ℕ) → is_idle (b.state d) ≡ false → has_channel b.start d ≡ true)
    → (d : ℕ) → is_idle ((after_step b c step).state d) ≡ false → has_channel (after_step b c step).start d ≡ true
idle_stays b c step running are d awake = rw (step_start b c step) (elim (cases_Bool (is_idle (b.state d))) [
  | inr off ↦ are d off
  | inl idle ↦ elim (cases_Bool (d == c)) [
    | inl same ↦ no_truth (is_idle (b.state c)) (rw (eqb-true d c same) at idle) (runs_awake (b.state c) running)
    | inr other ↦ elim (part_stays b c step d other) [
      | inl same ↦ no_truth (is_idle ((after_step b c step).state d)) (ap is_idle (goings_still (after_own_part b c step) d (ap wait_in same ∙ idle_waits (b.state d) idle) ∙ same) ∙ idle) awake
      | inr starts ↦ started_channels b c step d other idle starts.1
    ]
  ]
])
  where
    runs_awake : (s : State) → is_running s ≡ true → is_idle s ≡ false
    runs_awake (IsRunning grant) on = refl
    runs_awake other on = no_truth false on refl

    idle_waits : (s : State) → is_idle s ≡ true → wait_in s ≡ None
    idle_waits IsIdle on = refl
    idle_waits other on = no_truth false on refl
