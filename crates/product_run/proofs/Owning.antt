-- What channels are granted: a channel that runs owns the axes of its grant, and each is placed by it or was in the grant before.
use Rattle.axis_sets.specs.declared.limits.TheConstants.{AXIS_LIMIT, CHANNEL_LIMIT, ZONE_LIMIT}
use Rattle.std.proofs.Common.{◌≡◌, ◌∙◌, ◌⊎◌, ℕ, zero, suc, ℤ, ◌+◌, ◌<◌, ◌≤◌, ◌==◌, ◌&&◌, ◌||◌, Bool, true, false, cond, List, [], ◌∷◌, ◌++◌, map, fold, is_some, Option, Some, None, IfSome, inl, inr, zero-add, refl, sym, ap, subst, arith, eqb-true, eq-eqb}
use Rattle.std.proofs.lemmas.Bool.{and_parts, ne_eqb}
use Rattle.std.proofs.lemmas.List.{get_or_past}
use Rattle.std.proofs.lemmas.List.FromFn.{get_or-map-range_with_len, length-map-range_with_len}
use Rattle.axis_sets.specs.Positions.{position_of}
use Rattle.axis_sets.specs.Sets.{has, members_of}
use Rattle.block_motions.proofs.Ends.{le_or_lt}
use Rattle.channel_machine.proofs.Pasts.{fold-push}
use Rattle.coordination_words.specs.Laws.{selected_program}
use Rattle.product_run.proofs.KeptMachines.{IsKept, IsLawful, is_zone, kept_first, kept_goes, kept_part, kept_taking, lawful}
use Rattle.sync_types.proofs.BoardTests.{among_kept, by_test, first_passes, no_truth, not_not, passes}
use Rattle.sync_types.proofs.FreeTakings.{NobodyRobs, first_robs_nobody, goes_rob_nobody, own_part_robs_nobody, taking_robs_nobody}
use Rattle.sync_types.proofs.TakenAxes.{free_is_not_own, taken_is_free}
use Rattle.sync_types.specs.BoardActions.{after_action, after_effects, after_own_part, after_part, axes_to_free, channels_to_start, ownership_after, program_after, state_after_action, state_after_alarm, state_of_actor}
use Rattle.sync_types.specs.BoardAlarms.{alarm_of, lets_go_of_others, starts_without_program}
use Rattle.sync_types.specs.Boards.{State, IsIdle, IsRunning, IsHolding, HasEnded, HasAlarmed, OwnedBy, Board, among, channel_numbers, first_board, first_state, grant_in, grant_with, is_running, is_this, no_positions, owner_of, owns, positions_where, start_grant, zone_numbers}
use Rattle.sync_types.specs.GoingOn.{after_goes, after_taking, axes_to_take, can_take, resting_position, goers_at_once, goes_at_once, grant_of_taker, next_taker, ownership_after_taking, state_after_goes, state_after_taking, takings, takings_from, takes_from_standing, waits_for_axes}
use Rattle.sync_types.specs.Runs.{as_list}
use Rattle.sync_types.specs.Starts.{axes_of_zone, first_position, first_program, runs_at_first, IsSound}
use Rattle.sync_types.specs.Turns.{after_step}
use Rattle.sync_types.specs.Views.{StartView}
use Rattle.sync_types.specs.declared.Action.{Action}
use Rattle.sync_types.specs.declared.Action.TheVariants.{WaitM, Start, WaitE, Release, Get, End}
use Rattle.sync_types.specs.declared.Grant.{Grant}
use Rattle.sync_types.specs.declared.Step.{Step}

-- an axis is in the last of these grants
abbrev pub was_owned : List Grant → ℕ → Bool
was_owned had x = fold (λ _ g. has g.axes x) false had

-- a grant after these
pub record IsOwnGrant (count : ℕ) (had : List Grant) (start : StartView) (owned : ℕ → Bool) (grant : Grant) : Type 0 where
  pub axes : (x : ℕ) → x < AXIS_LIMIT → has grant.axes x ≡ owned x
  pub placed : (x : ℕ) → x < AXIS_LIMIT → has grant.axes x ≡ true → (is_some (position_of grant.at x) || was_owned had x) ≡ true
  pub at : (x : ℕ) → x < AXIS_LIMIT → is_some (position_of grant.at x) ≡ true → has grant.axes x ≡ true
  pub on : (z : ℕ) → has grant.on z ≡ true → (is_zone start z ≡ true) × ((x : ℕ) → x < AXIS_LIMIT → has (axes_of_zone start z) x ≡ true → has grant.axes x ≡ true)
  pub program : had ≡ [] → (p : ℕ) × (grant.program ≡ Some p) × (p < count)

-- who waits has had a grant, and owns no axis that the last had not
pub record IsOwnWait (had : List Grant) (owned : ℕ → Bool) : Type 0 where
  pub begun : had ≡ [] → ⊥
  pub had_each : (x : ℕ) → x < AXIS_LIMIT → owned x ≡ true → was_owned had x ≡ true

abbrev pub IsOwnState : ℕ → List Grant → StartView → (ℕ → Bool) → State → Type 0
IsOwnState count had start owned (IsRunning grant) = IsOwnGrant count had start owned grant
IsOwnState count had start owned (IsHolding hold line) = IsOwnWait had owned
IsOwnState count had start owned IsIdle = Unit {0}
IsOwnState count had start owned (HasEnded line) = Unit {0}
IsOwnState count had start owned (HasAlarmed code line) = Unit {0}

pub record AreOwn (count : ℕ) (had : ℕ → List Grant) (b : Board) : Type 0 where
  pub states : (d : ℕ) → IsOwnState count (had d) b.start (owns b d) (b.state d)

-- ---- tests

or_first : (a b : Bool) → a ≡ true → (a || b) ≡ true
or_first true b on = refl
or_first false b on = no_truth false on refl

or_second : (a b : Bool) → b ≡ true → (a || b) ≡ true
or_second true b on = refl
or_second false b on = on

this_one : (o : Option ℕ) (c : ℕ) → is_this o c ≡ true → o ≡ Some c
this_one None c is = no_truth false is refl
this_one (Some d) c is = ap (λ (n : ℕ). Some n) (eqb-true d c is)

other_number : (d c : ℕ) → (d == c) ≡ false → (c == d) ≡ false
other_number d c other = ne_eqb c d (λ same. no_truth (d == c) (eq-eqb d c (sym same)) other)

-- one owner
not_two : (o : Option ℕ) (c d : ℕ) → is_this o c ≡ true → (d == c) ≡ false → is_this o d ≡ false
not_two o c d is other = ap (λ (p : Option ℕ). is_this p d) (this_one o c is) ∙ other_number d c other

-- ---- grants

granted_axes : (b : Board) (d : ℕ) (at : List (Option ℤ)) (x : ℕ) → x < AXIS_LIMIT → has (grant_with b d at).axes x ≡ owns b d x
unfolding grant_with
granted_axes b d at x within = get_or-map-range_with_len (owns b d) 0 AXIS_LIMIT x x false within (zero-add x)

granted_on : (b : Board) (d : ℕ) (at : List (Option ℤ)) (z : ℕ) → has (grant_with b d at).on z ≡ true → is_this (b.holder z) d ≡ true
unfolding grant_with
granted_on b d at zero on = no_truth false on refl
granted_on b d at (suc n) on = by_place (le_or_lt ZONE_LIMIT n)
  where
    flag : ℕ → Bool
    flag z = is_this (b.holder z) d && b.is_on z

    by_place : (ZONE_LIMIT ≤ n) ⊎ (n < ZONE_LIMIT) → is_this (b.holder (suc n)) d ≡ true
    by_place (inl past) =
        let long = length-map-range_with_len flag 1 ZONE_LIMIT in
        no_truth (has (map flag zone_numbers) n) on (get_or_past (map flag zone_numbers) n false (omega (arith, long, past)))
    by_place (inr within) =
        let next : 1 + n ≡ suc n = omega arith in
        (and_parts (is_this (b.holder (suc n)) d) (b.is_on (suc n)) (sym (get_or-map-range_with_len flag 1 ZONE_LIMIT n (suc n) false within next) ∙ on)).0

no_position : (x : ℕ) → x < AXIS_LIMIT → position_of no_positions x ≡ None
no_position x within = get_or-map-range_with_len (λ (x : ℕ). let o : Option ℤ = None in o) 0 AXIS_LIMIT x x None within (zero-add x)

some_position : (test : ℕ → Bool) (place : ℕ → ℤ) (x : ℕ) → x < AXIS_LIMIT → is_some (position_of (positions_where test place) x) ≡ test x
some_position test place x within =
    ap is_some (get_or-map-range_with_len (λ x. cond (test x) (Some (place x)) None) 0 AXIS_LIMIT x x None within (zero-add x)) ∙ told (test x) (place x)
  where
    told : (b : Bool) (position : ℤ) → is_some (cond b (Some position) None) ≡ b
    told true position = refl
    told false position = refl

module _ (count : ℕ) (b : Board) (k : IsKept count b) (d : ℕ) (had : List Grant) where
  given : (at : List (Option ℤ)) → ((x : ℕ) → x < AXIS_LIMIT → owns b d x ≡ true → (is_some (position_of at x) || was_owned had x) ≡ true)
      → ((x : ℕ) → x < AXIS_LIMIT → is_some (position_of at x) ≡ true → owns b d x ≡ true) → (had ≡ [] → (p : ℕ) × (b.program d ≡ Some p) × (p < count))
      → IsOwnGrant count had b.start (owns b d) (grant_with b d at)
  unfolding grant_with
  given at placed owned program = record {
    axes = λ x within. granted_axes b d at x within;
    placed = λ x within on. placed x within (sym (granted_axes b d at x within) ∙ on);
    at = λ x within some. granted_axes b d at x within ∙ owned x within some;
    on = λ z is.
        let held : b.holder z ≡ Some d = this_one (b.holder z) d (granted_on b d at z is) in (
          k.held z d held,
          λ x within carries. granted_axes b d at x within ∙ ap (λ (o : Option ℕ). is_this o d) (k.zones z x carries ∙ held) ∙ eq-eqb d d refl,
        );
    program = program;
  }

  resumed : IsOwnWait had (owns b d) → IsOwnGrant count had b.start (owns b d) (grant_with b d no_positions)
  resumed wait = given no_positions
      (λ x within own. or_second (is_some (position_of no_positions x)) (was_owned had x) (wait.had_each x within own))
      (λ x within some. no_truth (is_some (position_of no_positions x)) some (ap is_some (no_position x within)))
      (λ none. absurd (wait.begun none))

  started : is_some (b.program d) ≡ true → IsOwnGrant count had b.start (owns b d) (start_grant b d)
  unfolding start_grant
  started some = given (positions_where (owns b d) (first_position b.start))
      (λ x within own. or_first (is_some (position_of (positions_where (owns b d) (first_position b.start)) x)) (was_owned had x) (some_position (owns b d) (first_position b.start) x within ∙ own))
      (λ x within some. sym (some_position (owns b d) (first_position b.start) x within) ∙ some)
      (λ none. known (b.program d) some (k.programs d))
    where
      known : (o : Option ℕ) → is_some o ≡ true → ((p : ℕ) → o ≡ Some p → p < count) → (p : ℕ) × (o ≡ Some p) × (p < count)
      known None some each = no_truth false some refl
      known (Some p) some each = (p, refl, each p refl)

same_state : (count : ℕ) (had : List Grant) (start : StartView) (owned now : ℕ → Bool) (s : State) → ((x : ℕ) → now x ≡ owned x) → IsOwnState count had start owned s → IsOwnState count had start now s
same_state count had start owned now (IsRunning grant) same own = record {
  axes = λ x within. own.axes x within ∙ sym (same x);
  placed = own.placed;
  at = own.at;
  on = own.on;
  program = own.program;
}
same_state count had start owned now (IsHolding hold line) same own = record { begun = own.begun; had_each = λ x within is. own.had_each x within (sym (same x) ∙ is) }
same_state count had start owned now IsIdle same own = tt
same_state count had start owned now (HasEnded line) same own = tt
same_state count had start owned now (HasAlarmed code line) same own = tt

-- ---- the channel's own part

freed_own : (b : Board) (c : ℕ) (action : Action) (x : ℕ) → lets_go_of_others b c action ≡ false → among (axes_to_free action) x ≡ true → owns b c x ≡ true
freed_own b c (Release axes) x law freed = passes (owns b c) (members_of axes) x (not_not _ law) freed
freed_own b c other x law freed = no_truth false freed refl

others_own : (b : Board) (c : ℕ) (step : Step) (d : ℕ) → lets_go_of_others b c step.action ≡ false → (d == c) ≡ false → (x : ℕ) → owns (after_effects b c step) d x ≡ owns b d x
unfolding ownership_after
others_own b c step d law other x = by_test (λ a. is_this (owner_of a) d ≡ owns b d x) (among (axes_to_free step.action) x) _ _
    (λ freed. sym (not_two (owner_of (b.axis x)) c d (freed_own b c step.action x law freed) other)) (λ stays. refl)

no_more_owned : (b : Board) (c : ℕ) (step : Step) (d x : ℕ) → owns (after_effects b c step) d x ≡ true → owns b d x ≡ true
unfolding ownership_after
no_more_owned b c step d x = by_test (λ a. is_this (owner_of a) d ≡ true → owns b d x ≡ true) (among (axes_to_free step.action) x) _ _ (λ freed own. no_truth false own refl) (λ stays own. own)

started_program : (b : Board) (action : Action) (d : ℕ) → starts_without_program b action ≡ false → among (channels_to_start action) d ≡ true → is_some (program_after action d (b.program d)) ≡ true
started_program b (Start named) d law on = passes (λ c. is_some (b.program c)) (members_of named) d (not_not _ law) on
started_program b other d law on = no_truth false on refl

-- what the channel that acts does next, and is granted where it runs on
own_actor : (count : ℕ) (b : Board) (c : ℕ) (step : Step) (had : List Grant) → IsKept count (after_action b c step) → IsOwnWait had (owns (after_action b c step) c) → (action : Action)
    → IsOwnState count had b.start (owns (after_action b c step) c) (state_of_actor (after_effects b c step) c step.line action)
unfolding grant_with
own_actor count b c step had k wait End = tt
own_actor count b c step had k wait (WaitM m named) = wait
own_actor count b c step had k wait (WaitE named) = wait
own_actor count b c step had k wait (Get axes) = wait
own_actor count b c step had k wait other = resumed count (after_action b c step) k c had wait

own_action : (count : ℕ) (had : ℕ → List Grant) (b : Board) (c : ℕ) (step : Step) → IsLawful b c step.action → IsKept count (after_action b c step) → IsOwnWait (had c) (owns b c)
    → AreOwn count had b → AreOwn count had (after_action b c step)
unfolding state_after_action start_grant grant_with
own_action count had b c step law k wait own = record {
  states = λ d. by_test (IsOwnState count (had d) b.start (owns (after_action b c step) d)) (d == c) _ _
      (λ here.
      let P : ℕ → Type 0 = λ e. IsOwnState count (had e) b.start (owns (after_action b c step) e) (state_of_actor (after_effects b c step) c step.line step.action) in
      subst P (sym (eqb-true d c here))
      (own_actor count b c step (had c) k (record { begun = wait.begun; had_each = λ x within is. wait.had_each x within (no_more_owned b c step c x is) }) step.action))
      (λ other. by_test (IsOwnState count (had d) b.start (owns (after_action b c step) d)) (among (channels_to_start step.action) d) _ _
      (λ starts. started count (after_action b c step) k d (had d) (started_program b step.action d law.selected starts))
      (λ stays. same_state count (had d) b.start (owns b d) (owns (after_action b c step) d) (b.state d) (others_own b c step d law.own other) (own.states d)));
}

own_part : (count : ℕ) (had : ℕ → List Grant) (b : Board) (c : ℕ) (step : Step) (alarm : Option ℕ) → alarm_of b c step.action ≡ alarm → IsKept count (after_part b c step alarm) → IsOwnWait (had c) (owns b c)
    → AreOwn count had b → AreOwn count had (after_part b c step alarm)
unfolding state_after_alarm
own_part count had b c step (Some code) is k wait own = record {
  states = λ d. by_test (IsOwnState count (had d) b.start (owns b d)) (d == c) (HasAlarmed code step.line) (b.state d) (λ here. tt) (λ other. own.states d);
}
own_part count had b c step None is k wait own = own_action count had b c step (lawful b c step.action is) k wait own

-- ---- who goes on

goer : (count : ℕ) (b : Board) (k : IsKept count b) (d : ℕ) (had : List Grant) (s : State) → goes_at_once b s ≡ true → IsOwnState count had b.start (owns b d) s
    → IsOwnGrant count had b.start (owns b d) (grant_with b d no_positions)
goer count b k d had (IsHolding hold line) goes wait = resumed count b k d had wait
goer count b k d had other goes own = no_truth false goes refl

own_goes : (count : ℕ) (had : ℕ → List Grant) (b : Board) → IsKept count b → AreOwn count had b → AreOwn count had (after_goes b)
unfolding state_after_goes
own_goes count had b k own = record {
  states = λ d. by_test (IsOwnState count (had d) b.start (owns b d)) (among (goers_at_once b) d) _ _
      (λ goes. goer count b k d (had d) (b.state d)
      (and_parts (among channel_numbers d) (goes_at_once b (b.state d)) (sym (among_kept (λ c. goes_at_once b (b.state c)) channel_numbers d) ∙ goes)).1 (own.states d))
      (λ stays. own.states d);
}

waits : (count : ℕ) (had : List Grant) (start : StartView) (owned : ℕ → Bool) (s : State) → waits_for_axes s ≡ true → IsOwnState count had start owned s → IsOwnWait had owned
waits count had start owned (IsHolding hold line) is wait = wait
waits count had start owned other is own = no_truth false is refl

others_taken : (b : Board) (c d : ℕ) → takes_from_standing (b.state c) ≡ false → can_take b c ≡ true → (d == c) ≡ false → (x : ℕ) → owns (after_taking b c) d x ≡ owns b d x
unfolding ownership_after_taking
others_taken b c d robs takes other x = by_test (λ a. is_this (owner_of a) d ≡ owns b d x) (among (axes_to_take b c) x) _ _
    (λ taken. other_number d c other ∙ sym (free_is_not_own (b.axis x) d (taken_is_free b c x robs takes taken)))
    (λ stays. refl)

taker : (count : ℕ) (b : Board) (c : ℕ) (had : List Grant) → IsKept count (after_taking b c) → IsOwnWait had (owns b c)
    → IsOwnGrant count had b.start (owns (after_taking b c) c) (grant_of_taker b c)
unfolding grant_of_taker grant_with ownership_after_taking
taker count b c had k wait =
    given count (after_taking b c) k c had at
    (λ x within own. by_taken x within (among (axes_to_take b c) x) refl own)
    (λ x within some. by_test (λ a. is_this (owner_of a) c ≡ true) (among (axes_to_take b c) x) _ _
    (λ taken. eq-eqb c c refl) (λ stays. no_truth (among (axes_to_take b c) x) (sym (some_position (among (axes_to_take b c)) place x within) ∙ some) stays))
    (λ none. absurd (wait.begun none))
  where
    place : ℕ → ℤ
    place x = resting_position b x (b.axis x)

    at : List (Option ℤ)
    at = positions_where (among (axes_to_take b c)) place

    by_taken : (x : ℕ) → x < AXIS_LIMIT → (taken : Bool) → among (axes_to_take b c) x ≡ taken → is_this (owner_of (cond taken (OwnedBy c) (b.axis x))) c ≡ true
        → (is_some (position_of at x) || was_owned had x) ≡ true
    by_taken x within true is own = or_first (is_some (position_of at x)) (was_owned had x) (some_position (among (axes_to_take b c)) place x within ∙ is)
    by_taken x within false is own = or_second (is_some (position_of at x)) (was_owned had x) (wait.had_each x within own)

own_taking : (count : ℕ) (had : ℕ → List Grant) (b : Board) (c : ℕ) → takes_from_standing (b.state c) ≡ false → can_take b c ≡ true → IsKept count (after_taking b c) → AreOwn count had b → AreOwn count had (after_taking b c)
unfolding state_after_taking
own_taking count had b c robs takes k own = record {
  states = λ d. by_test (IsOwnState count (had d) b.start (owns (after_taking b c) d)) (d == c) _ _
      (λ here.
      let P : ℕ → Type 0 = λ e. IsOwnGrant count (had e) b.start (owns (after_taking b c) e) (grant_of_taker b c) in
      subst P (sym (eqb-true d c here)) (taker count b c (had c) k (waits count (had c) b.start (owns b c) (b.state c) (and_parts _ _ takes).0 (own.states c))))
      (λ other. same_state count (had d) b.start (owns b d) (owns (after_taking b c) d) (b.state d) (others_taken b c d robs takes other) (own.states d));
}

-- ---- a whole step

pub record IsOwned (count : ℕ) (had : ℕ → List Grant) (b : Board) : Type 0 where
  pub kept : IsKept count b
  pub own : AreOwn count had b
  pub robs : NobodyRobs b

owned_takings : (count : ℕ) (had : ℕ → List Grant) (n : ℕ) (b : Board) → IsOwned count had b → IsOwned count had (takings n b).board
owned_takings count had zero b o = o
owned_takings count had (suc n) b o = next (owned_takings count had n) (next_taker b) refl
  where
    next : ((a : Board) → IsOwned count had a → IsOwned count had (takings n a).board) → (taker : Option ℕ) → next_taker b ≡ taker → IsOwned count had (takings_from (takings n) b taker).board
    next rest None is = o
    next rest (Some c) is =
        let k = kept_taking count b c o.kept in
        rest (after_taking b c) (record { kept = k; own = own_taking count had b c (o.robs c) (first_passes (can_take b) channel_numbers c is) k o.own; robs = taking_robs_nobody b c o.robs })

-- by a channel that has used its last grant, and selects a program of the library where it selects one
pub owned_step : (count : ℕ) (had : ℕ → List Grant) (b : Board) (c : ℕ) (step : Step) → IfSome (selected_program step.action) (λ place. place < count) → IsOwnWait (had c) (owns b c)
    → IsOwned count had b → IsOwned count had (after_step b c step)
owned_step count had b c step known wait o =
    let part : IsKept count (after_own_part b c step) = kept_part count b c step (alarm_of b c step.action) refl known o.kept in
    let own : AreOwn count had (after_own_part b c step) = own_part count had b c step (alarm_of b c step.action) refl part wait o.own in
    owned_takings count had CHANNEL_LIMIT (after_goes (after_own_part b c step))
    (record { kept = kept_goes count (after_own_part b c step) part; own = own_goes count had (after_own_part b c step) part own; robs = goes_rob_nobody (after_own_part b c step) (own_part_robs_nobody b c step o.robs) })

-- before the first step
pub owned_first : (count : ℕ) (start : StartView) → IsSound start → ((d p : ℕ) → first_program start d ≡ Some p → p < count) → IsOwned count (λ d. []) (first_board start)
unfolding first_state start_grant grant_with
owned_first count start sound programs =
    let k = kept_first count start sound programs in
    record {
      kept = k;
      own = record {
        states = λ d. by_test (IsOwnState count [] start (owns (first_board start) d)) (runs_at_first start d) _ _ (λ runs. started count (first_board start) k d [] (sound.programs d runs)) (λ rests. tt);
      };
      robs = first_robs_nobody start;
    }

-- a channel that goes for its step has used its grant
pub used_grant : (count : ℕ) (used got : List Grant) (start : StartView) (owned : ℕ → Bool) (s : State) → is_running s ≡ true → got ≡ used ++ as_list (grant_in s) → IsOwnState count used start owned s
    → IsOwnState count got start owned s × IsOwnWait got owned
used_grant count used got start owned (IsRunning grant) runs is own = (
  record {
    axes = own.axes;
    placed = λ x within on. or_second (is_some (position_of grant.at x)) (was_owned got x) (last x ∙ on);
    at = own.at;
    on = own.on;
    program = λ none. absurd (some used (sym is ∙ none));
  },
  record { begun = λ none. some used (sym is ∙ none); had_each = λ x within on. last x ∙ own.axes x within ∙ on },
)
  where
    last : (x : ℕ) → was_owned got x ≡ has grant.axes x
    last x = ap (λ gs. was_owned gs x) is ∙ fold-push (λ (_ : Bool) (g : Grant). has g.axes x) false used grant

    some : (gs : List Grant) → gs ++ grant ∷ [] ≡ [] → ⊥
    some [] e = cc
    some (g ∷ gs) e = cc
used_grant count used got start owned other runs is own = no_truth false runs refl
