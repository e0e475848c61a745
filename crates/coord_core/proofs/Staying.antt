-- What a step of a channel leaves of the states of channels.
use Rattle.axis_sets.specs.declared.limits.TheConstants.{CHANNEL_LIMIT}
use Rattle.std.proofs.Common.{◌≡◌, ℕ, zero, suc, ◌==◌, Bool, true, false, Option, Some, None, if◌then◌else◌, refl, sym, ap, ◌∙◌, eqb-true, eq-eqb}
use Rattle.std.proofs.lemmas.Bool.{and_parts}
use Rattle.axis_sets.specs.Sets.{members_of}
use Rattle.sync_types.proofs.BoardTests.{no_truth, passes, among_kept, not_so, by_test, not_not, first_passes}
use Rattle.sync_types.specs.Boards.{State, IsIdle, IsRunning, IsHolding, HasEnded, HasAlarmed, Board, among, channel_numbers, is_idle}
use Rattle.sync_types.specs.BoardAlarms.{alarm_of, names_no_mark, names_no_channel, names_no_axis, lets_go_of_others, splits_a_zone, finds_own_mark, finds_one_awake, starts_without_program, own_alarm}
use Rattle.sync_types.specs.BoardActions.{channels_to_start, state_after_alarm, state_after_action, state_of_actor, after_effects, after_action, after_part, after_own_part}
use Rattle.sync_types.specs.GoingOn.{waits_for_axes, goes_at_once, goers_at_once, state_after_goes, after_goes, can_take, next_taker, state_after_taking, after_taking, takings, takings_from, after_goings}
use Rattle.sync_types.specs.Turns.{after_step}
use Rattle.sync_types.specs.declared.Action.{Action}
use Rattle.sync_types.specs.declared.Action.TheVariants.{Start, End, Alarm}
use Rattle.sync_types.specs.declared.Step.{Step}

-- a channel that runs, has ended or is alarmed does not change its state by what others do
abbrev pub stays : State → Bool
stays IsIdle = false
stays (IsHolding hold line) = false
stays (IsRunning grant) = true
stays (HasEnded line) = true
stays (HasAlarmed code line) = true

-- a channel that has ended or is alarmed never runs again
abbrev pub has_stopped : State → Bool
has_stopped (HasEnded line) = true
has_stopped (HasAlarmed code line) = true
has_stopped other = false

pub stopped_stays : (s : State) → has_stopped s ≡ true → stays s ≡ true
stopped_stays (HasEnded line) on = refl
stopped_stays (HasAlarmed code line) on = refl
stopped_stays other on = no_truth false on refl

-- such a channel does not go on
stays_no_goer : (b : Board) (s : State) → stays s ≡ true → goes_at_once b s ≡ false
stays_no_goer b (IsRunning grant) on = refl
stays_no_goer b (HasEnded line) on = refl
stays_no_goer b (HasAlarmed code line) on = refl
stays_no_goer b other on = no_truth false on refl

stays_no_taker : (s : State) → stays s ≡ true → waits_for_axes s ≡ false
stays_no_taker (IsRunning grant) on = refl
stays_no_taker (HasEnded line) on = refl
stays_no_taker (HasAlarmed code line) on = refl
stays_no_taker other on = no_truth false on refl

stays_awake : (s : State) → stays s ≡ true → is_idle s ≡ false
stays_awake (IsRunning grant) on = refl
stays_awake (HasEnded line) on = refl
stays_awake (HasAlarmed code line) on = refl
stays_awake other on = no_truth false on refl

stays_in_goes : (b : Board) (d : ℕ) → stays (b.state d) ≡ true → (after_goes b).state d ≡ b.state d
unfolding state_after_goes
stays_in_goes b d on = by_test (λ s. s ≡ b.state d) (among (goers_at_once b) d) _ _
    (λ goes. no_truth (goes_at_once b (b.state d)) (and_parts (among channel_numbers d) (goes_at_once b (b.state d)) (sym (among_kept (λ c. goes_at_once b (b.state c)) channel_numbers d) ∙ goes)).1 (stays_no_goer b (b.state d) on))
    (λ other. refl)

stays_in_taking : (b : Board) (c d : ℕ) → can_take b c ≡ true → stays (b.state d) ≡ true → (after_taking b c).state d ≡ b.state d
unfolding state_after_taking
stays_in_taking b c d takes on = by_test (λ s. s ≡ b.state d) (d == c) _ _
    (λ here. no_truth (waits_for_axes (b.state c)) (and_parts _ _ takes).0 (ap (λ x. waits_for_axes (b.state x)) (sym (eqb-true d c here)) ∙ stays_no_taker (b.state d) on))
    (λ other. refl)

stays_in_takings : (n : ℕ) (b : Board) (d : ℕ) → stays (b.state d) ≡ true → (takings n b).board.state d ≡ b.state d
stays_in_takings zero b d on = refl
stays_in_takings (suc n) b d on = next (λ a. stays_in_takings n a d) (next_taker b) refl
  where
    next : ((a : Board) → stays (a.state d) ≡ true → (takings n a).board.state d ≡ a.state d) → (taker : Option ℕ) → next_taker b ≡ taker → (takings_from (takings n) b taker).board.state d ≡ b.state d
    next rest None is = refl
    next rest (Some c) is =
        let same = stays_in_taking b c d (first_passes (can_take b) channel_numbers c is) on in
        rest (after_taking b c) (ap stays same ∙ on) ∙ same

-- nobody who goes on ran, had ended or was alarmed
pub stays_in_goings : (b : Board) (d : ℕ) → stays (b.state d) ≡ true → (after_goings b).state d ≡ b.state d
stays_in_goings b d on =
    let same = stays_in_goes b d on in
    stays_in_takings CHANNEL_LIMIT (after_goes b) d (ap stays same ∙ on) ∙ same

-- where an action does not alarm, START names idle channels
idle_starts : (b : Board) (action : Action) (d : ℕ) → finds_one_awake b action ≡ false → among (channels_to_start action) d ≡ true → is_idle (b.state d) ≡ true
idle_starts b (Start named) d off on = passes (λ c. is_idle (b.state c)) (members_of named) d (not_not _ off) on
idle_starts b other d off on = no_truth false on refl

-- what an action has passed that does not alarm
pub record Passes (b : Board) (action : Action) : Type 0 where
  pub known : names_no_channel b action ≡ false
  pub asleep : finds_one_awake b action ≡ false
  pub own : own_alarm action ≡ None

pub no_alarm : (b : Board) (c : ℕ) (action : Action) → alarm_of b c action ≡ None → Passes b action
unfolding alarm_of
no_alarm b c action none =
    let late_5 : Option ℕ = if starts_without_program b action then Some 28 else own_alarm action in
    let late_4 : Option ℕ = if finds_one_awake b action then Some 27 else late_5 in
    let late_3 : Option ℕ = if finds_own_mark b c action then Some 26 else late_4 in
    let late_2 : Option ℕ = if splits_a_zone b action then Some 31 else late_3 in
    let late_1 : Option ℕ = if lets_go_of_others b c action then Some 15 else late_2 in
    let late_0 : Option ℕ = if names_no_axis b action then Some 14 else late_1 in
    let late : Option ℕ = if names_no_channel b action then Some 24 else late_0 in
    let numbered = not_so (names_no_mark action) 25 late none in
    let known = not_so (names_no_channel b action) 24 late_0 numbered.1 in
    let there = not_so (names_no_axis b action) 14 late_1 known.1 in
    let own = not_so (lets_go_of_others b c action) 15 late_2 there.1 in
    let whole = not_so (splits_a_zone b action) 31 late_3 own.1 in
    let lowered = not_so (finds_own_mark b c action) 26 late_4 whole.1 in
    let asleep = not_so (finds_one_awake b action) 27 late_5 lowered.1 in
    let selected = not_so (starts_without_program b action) 28 (own_alarm action) asleep.1 in
    record { known = known.0; asleep = asleep.0; own = selected.1 }

stays_in_action : (b : Board) (c : ℕ) (step : Step) (d : ℕ) → finds_one_awake b step.action ≡ false → (d == c) ≡ false → stays (b.state d) ≡ true → (after_action b c step).state d ≡ b.state d
unfolding state_after_action
stays_in_action b c step d asleep other on = by_test (λ s. s ≡ b.state d) (d == c) _ _
    (λ here. no_truth (d == c) here other)
    (λ off. by_test (λ s. s ≡ b.state d) (among (channels_to_start step.action) d) _ _
    (λ starts. no_truth (is_idle (b.state d)) (idle_starts b step.action d asleep starts) (stays_awake (b.state d) on))
    (λ rests. refl))

stays_in_alarm : (b : Board) (c : ℕ) (step : Step) (code d : ℕ) → (d == c) ≡ false → state_after_alarm b c step code d ≡ b.state d
unfolding state_after_alarm
stays_in_alarm b c step code d other = by_test (λ s. s ≡ b.state d) (d == c) _ _ (λ here. no_truth (d == c) here other) (λ off. refl)

stays_in_part : (b : Board) (c : ℕ) (step : Step) (d : ℕ) (alarm : Option ℕ) → alarm_of b c step.action ≡ alarm → (d == c) ≡ false → stays (b.state d) ≡ true
    → (after_part b c step alarm).state d ≡ b.state d
stays_in_part b c step d (Some code) is other on = stays_in_alarm b c step code d other
stays_in_part b c step d None is other on = stays_in_action b c step d (no_alarm b c step.action is).asleep other on

-- a step changes the state of no other channel that runs, has ended or is alarmed
pub stays_in_step : (b : Board) (c : ℕ) (step : Step) (d : ℕ) → (d == c) ≡ false → stays (b.state d) ≡ true → (after_step b c step).state d ≡ b.state d
stays_in_step b c step d other on =
    let same = stays_in_part b c step d (alarm_of b c step.action) refl other on in
    stays_in_goings (after_own_part b c step) d (ap stays same ∙ on) ∙ same

-- ---- who acts

-- the program end and an alarm stop a channel
abbrev pub stops : Action → Bool
stops End = true
stops (Alarm code) = true
stops other = false

stopped_by_alarm : (b : Board) (c : ℕ) (step : Step) (code : ℕ) → has_stopped (state_after_alarm b c step code c) ≡ true
unfolding state_after_alarm
stopped_by_alarm b c step code = by_test (λ s. has_stopped s ≡ true) (c == c) _ _ (λ here. refl) (λ off. no_truth (c == c) (same c) off)
  where
    same : (n : ℕ) → (n == n) ≡ true
    same n = eq-eqb n n refl

stopped_actor : (b : Board) (c line : ℕ) (action : Action) → own_alarm action ≡ None → stops action ≡ true → has_stopped (state_of_actor b c line action) ≡ true
stopped_actor b c line End none on = refl
stopped_actor b c line (Alarm code) none on = absurd cc
stopped_actor b c line other none on = no_truth false on refl

stopped_by_action : (b : Board) (c : ℕ) (step : Step) → own_alarm step.action ≡ None → stops step.action ≡ true → has_stopped ((after_action b c step).state c) ≡ true
unfolding state_after_action
stopped_by_action b c step none on = by_test (λ s. has_stopped s ≡ true) (c == c) _ _
    (λ here. stopped_actor (after_effects b c step) c step.line step.action none on)
    (λ off. no_truth (c == c) (eq-eqb c c refl) off)

stopped_in_part : (b : Board) (c : ℕ) (step : Step) (alarm : Option ℕ) → alarm_of b c step.action ≡ alarm → stops step.action ≡ true → has_stopped ((after_part b c step alarm).state c) ≡ true
stopped_in_part b c step (Some code) is on = stopped_by_alarm b c step code
stopped_in_part b c step None is on = stopped_by_action b c step (no_alarm b c step.action is).own on

-- such a step stops the channel that makes it
pub stopped_in_step : (b : Board) (c : ℕ) (step : Step) → stops step.action ≡ true → has_stopped ((after_step b c step).state c) ≡ true
stopped_in_step b c step on =
    let stopped = stopped_in_part b c step (alarm_of b c step.action) refl on in
    ap has_stopped (stays_in_goings (after_own_part b c step) c (stopped_stays _ stopped)) ∙ stopped
