-- No more channels go on in a step than there can be.
use Rattle.axis_sets.specs.declared.limits.TheConstants.{CHANNEL_LIMIT, CHANNEL_PLACES}
use Rattle.std.proofs.Common.{arith, inl, inr, ◌≡◌, ℕ, ◌+◌, ◌≤◌, zero, suc, ◌==◌, Bool, true, false, cond, List, [], ◌∷◌, ◌++◌, length, length-append, map, Option, Some, None, filter, refl, ap, ◌∙◌}
use Rattle.std.proofs.lemmas.Bool.{cases_Bool}
use Rattle.std.proofs.lemmas.List.{length-map}
use Rattle.std.specs.List.{range_with_len}
use Rattle.axis_sets.specs.Sets.{has, members_of}
use Rattle.axis_sets.proofs.SetLaws.{list_any-members_of}
use Rattle.sync_types.proofs.BoardTests.{no_truth, by_test}
use Rattle.sync_types.proofs.Settling.{waiters, fewer, fewer_after_taking}
use Rattle.sync_types.specs.BoardActions.{after_part, after_action, after_effects, channels_started, channels_to_start, state_of_actor, state_after_action}
use Rattle.sync_types.specs.BoardAlarms.{alarm_of}
use Rattle.sync_types.specs.Boards.{AtAxes, State, IsRunning, IsHolding, Board, among, channel_numbers, is_running}
use Rattle.sync_types.specs.GoingOn.{Going, goes_at_once, goers_at_once, state_after_goes, after_goes, waits_for_axes, next_taker, after_taking, takings, takings_from, all_takings, going_of_start, going_at_once, goings_on}
use Rattle.sync_types.specs.RunLaws.{FewGoOn, StartsChannels}
use Rattle.sync_types.specs.declared.Action.{Action}
use Rattle.sync_types.specs.declared.Action.TheVariants.{Start}
use Rattle.sync_types.specs.declared.Step.{Step}

-- three tests of which no number passes two
three_apart : (p q r : ℕ → Bool) (xs : List ℕ) → ((x : ℕ) → p x ≡ true → q x ≡ false) → ((x : ℕ) → p x ≡ true → r x ≡ false) → ((x : ℕ) → q x ≡ true → r x ≡ false)
    → length (filter p xs) + (length (filter q xs) + length (filter r xs)) ≤ length xs
three_apart p q r [] pq pr qr = omega arith
three_apart p q r (x ∷ xs) pq pr qr =
    let rest = three_apart p q r xs pq pr qr in
    elim (cases_Bool (p x)) [
      | inl on ↦ rw (on, pq x on, pr x on) (omega (arith, rest))
      | inr off_p ↦ elim (cases_Bool (q x)) [
        | inl on ↦ rw (off_p, on, qr x on) (omega (arith, rest))
        | inr off_q ↦ elim (cases_Bool (r x)) [
          | inl on ↦ rw (off_p, off_q, on) (omega (arith, rest))
          | inr off_r ↦ rw (off_p, off_q, off_r) (omega (arith, rest))
        ]
      ]
    ]

takings_within : (n : ℕ) (b : Board) → length (takings n b).goings ≤ length (waiters b)
takings_within zero b = omega arith
takings_within (suc n) b = next (takings_within n) (next_taker b) refl
  where
    next : ((a : Board) → length (takings n a).goings ≤ length (waiters a)) → (taker : Option ℕ) → next_taker b ≡ taker → length (takings_from (takings n) b taker).goings ≤ length (waiters b)
    next rest None is = omega arith
    next rest (Some c) is = omega (arith, rest (after_taking b c), fewer_after_taking b c is)

-- who runs does not wait
runs_not_goes : (b : Board) (s : State) → is_running s ≡ true → goes_at_once b s ≡ false
runs_not_goes b (IsRunning grant) on = refl
runs_not_goes b other on = no_truth false on refl

runs_not_waits : (s : State) → is_running s ≡ true → waits_for_axes s ≡ false
runs_not_waits (IsRunning grant) on = refl
runs_not_waits other on = no_truth false on refl

goes_not_waits : (b : Board) (s : State) → goes_at_once b s ≡ true → waits_for_axes s ≡ false
goes_not_waits b (IsHolding (AtAxes from_standing axes) line) on = no_truth false on refl
goes_not_waits b other on = refl

-- who does not wait for axes does not after the goings either
still_none : (b : Board) (x : ℕ) → waits_for_axes (b.state x) ≡ false → waits_for_axes ((after_goes b).state x) ≡ false
unfolding state_after_goes
still_none b x off = by_test (λ s. waits_for_axes s ≡ false) (among (goers_at_once b) x) _ _ (λ goes. refl) (λ stays. off)

goings_within : (b : Board) (starts : List ℕ) (p : ℕ → Bool) → length starts ≤ length (filter p channel_numbers) → ((x : ℕ) → p x ≡ true → is_running (b.state x) ≡ true)
    → length (goings_on b starts) ≤ CHANNEL_LIMIT
goings_within b starts p few runs =
    let q : ℕ → Bool = λ x. goes_at_once b (b.state x) in
    let r : ℕ → Bool = λ x. waits_for_axes ((after_goes b).state x) in
    let apart = three_apart p q r channel_numbers
    (λ x on. runs_not_goes b (b.state x) (runs x on))
    (λ x on. still_none b x (runs_not_waits (b.state x) (runs x on)))
    (λ x on. still_none b x (goes_not_waits b (b.state x) on)) in
    let started : List Going = map (going_of_start b) starts in
    let at_once : List Going = map (going_at_once b) (goers_at_once b) in
    let takers : List Going = (all_takings (after_goes b)).goings in
    omega (
      arith,
      few,
      apart,
      takings_within CHANNEL_LIMIT (after_goes b),
      length-append started (at_once ++ takers),
      length-append at_once takers,
      length-map starts (going_of_start b),
      length-map (goers_at_once b) (going_at_once b),
    )

actor_runs : (b : Board) (c line : ℕ) (action : Action) (d : ℕ) → among (channels_to_start action) d ≡ true → is_running (state_of_actor b c line action) ≡ true
actor_runs b c line (Start named) d on = refl
actor_runs b c line other d on = no_truth false on refl

started_run : (b : Board) (c : ℕ) (step : Step) (d : ℕ) → among (channels_to_start step.action) d ≡ true → is_running ((after_action b c step).state d) ≡ true
unfolding state_after_action
started_run b c step d on = by_test (λ s. is_running s ≡ true) (d == c) _ _ (λ here. actor_runs (after_effects b c step) c step.line step.action d on)
    (λ other. by_test (λ s. is_running s ≡ true) (among (channels_to_start step.action) d) _ _ (λ starts. refl) (λ off. no_truth (among (channels_to_start step.action) d) on off))

starts_within : (action : Action) → StartsChannels action → length (channels_to_start action) ≤ length (filter (among (channels_to_start action)) channel_numbers)
starts_within (Start named) sized =
    let by_length : length (members_of named) ≡ length (filter (has named) (range_with_len 0 CHANNEL_PLACES)) = ap (λ n. length (filter (has named) (range_with_len 0 n))) sized.0 in
    let without_none : length (filter (has named) (range_with_len 0 CHANNEL_PLACES)) ≡ length (filter (has named) channel_numbers) =
    ap (λ (t : Bool). length (cond t (0 ∷ filter (has named) channel_numbers) (filter (has named) channel_numbers))) sized.1 in
    let same = fewer (among (members_of named)) (has named) channel_numbers (λ x on. list_any-members_of named x ∙ on) in
    omega (arith, by_length, without_none, same)
starts_within other sized = omega arith

goings_of_part : (b : Board) (c : ℕ) (step : Step) (alarm : Option ℕ) → StartsChannels step.action → length (goings_on (after_part b c step alarm) (channels_started alarm step.action)) ≤ CHANNEL_LIMIT
goings_of_part b c step (Some code) sized = goings_within (after_part b c step (Some code)) [] (λ x. false) (omega arith) (λ x on. no_truth false on refl)
goings_of_part b c step None sized =
    goings_within (after_action b c step) (channels_to_start step.action) (among (channels_to_start step.action)) (starts_within step.action sized) (started_run b c step)

pub few_go : (b : Board) (c : ℕ) (step : Step) → FewGoOn b c step
few_go b c step sized = goings_of_part b c step (alarm_of b c step.action) sized
