-- In each run the grant of a channel that runs tells which of the zones are on that the channel holds.
use Rattle.axis_sets.specs.declared.limits.TheConstants.{CHANNEL_LIMIT, ZONE_LIMIT, ZONE_PLACES}
use Rattle.std.proofs.Common.{◌≡◌, ◌∙◌, ℕ, ℤ, zero, suc, ◌+◌, ◌≤◌, ◌==◌, ◌&&◌, ◌||◌, Bool, true, false, cond, List, [], ◌∷◌, map, length, Option, None, Some, refl, sym, ap, subst, arith, eqb-true, eq-eqb}
use Rattle.std.specs.List.{list_any}
use Rattle.std.proofs.lemmas.Bool.{ne_eqb}
use Rattle.std.proofs.lemmas.List.FromFn.{get_or-map-range_with_len}
use Rattle.axis_sets.specs.Sets.{has, members_of}
use Rattle.board_laws.proofs.Footprint.{no_alarm}
use Rattle.speed_laws.proofs.RunBoards.{IsRunBoard, run_board_first, run_board_goes, run_board_part, run_board_step, run_board_taking}
use Rattle.sync_types.proofs.BoardTests.{by_test, first_passes, no_truth, not_not, passes}
use Rattle.sync_types.proofs.TakenAxes.{taken_is_free}
use Rattle.sync_types.specs.BoardActions.{after_action, after_alarm, after_effects, after_own_part, after_part, axes_to_free, carries, channels_to_start, holder_after, is_on_after, state_after_action, state_after_alarm, state_of_actor}
use Rattle.sync_types.specs.BoardAlarms.{alarm_of, lets_go_of_others}
use Rattle.sync_types.specs.Boards.{State, IsRunning, HasAlarmed, Ownership, OwnedBy, FreeAt, Board, among, board_at_rest, channel_numbers, first_board, first_state, grant_with, is_free, is_this, no_positions, owner_of, owns, positions_where, start_grant, zone_numbers}
use Rattle.sync_types.specs.GoingOn.{after_goes, after_taking, axes_to_take, can_take, goers_at_once, grant_of_taker, holder_after_taking, next_taker, resting_position, state_after_goes, state_after_taking, takings, takings_from, with_its_axes}
use Rattle.sync_types.specs.Runs.{Script, Stage, after_turn, first_stage, stage_after}
use Rattle.sync_types.specs.Starts.{IsSound, axes_of_zone, first_position, runs_at_first}
use Rattle.sync_types.specs.Turns.{after_step}
use Rattle.sync_types.specs.Views.{StartView}
use Rattle.sync_types.specs.declared.Action.{Action}
use Rattle.sync_types.specs.declared.Action.TheVariants.{WaitM, WaitE, Release, Get, End}
use Rattle.sync_types.specs.declared.Grant.{Grant}
use Rattle.sync_types.specs.declared.Step.{Step}

-- ---- tests

and_never : (a b : Bool) → a ≡ false → (a && b) ≡ false
and_never false b off = refl
and_never true b off = no_truth true refl off

this_one : (o : Option ℕ) (c : ℕ) → is_this o c ≡ true → o ≡ Some c
this_one None c is = no_truth false is refl
this_one (Some d) c is = ap (λ (n : ℕ). Some n) (eqb-true d c is)

other_number : (d c : ℕ) → (d == c) ≡ false → (c == d) ≡ false
other_number d c other = ne_eqb c d (λ same. no_truth (d == c) (eq-eqb d c (sym same)) other)

-- one holder
not_two : (o : Option ℕ) (c d : ℕ) → is_this o c ≡ true → (d == c) ≡ false → is_this o d ≡ false
not_two o c d is other = ap (λ (p : Option ℕ). is_this p d) (this_one o c is) ∙ other_number d c other

no_owner : (a : Ownership) → is_free a ≡ true → owner_of a ≡ None
no_owner (OwnedBy c) free = no_truth false free refl
no_owner (FreeAt position) free = refl

-- an axis of the list that carries the zone
carrying : (zone : List Bool) (xs : List ℕ) → list_any (has zone) xs ≡ true → (x : ℕ) × (among xs x ≡ true) × (has zone x ≡ true)
carrying zone [] some = no_truth false some refl
carrying zone (y ∷ ys) some = by_first (has zone y) refl some (carrying zone ys)
  where
    by_first : (on : Bool) → has zone y ≡ on → (on || list_any (has zone) ys) ≡ true → (list_any (has zone) ys ≡ true → (x : ℕ) × (among ys x ≡ true) × (has zone x ≡ true))
        → (x : ℕ) × (among (y ∷ ys) x ≡ true) × (has zone x ≡ true)
    by_first true is some rest = (y, rw (eq-eqb y y refl) refl, is)
    by_first false is some rest = let later = rest some in (later.0, later_too (y == later.0) (among ys later.0) later.1, later.2)
      where
        later_too : (a b : Bool) → b ≡ true → (a || b) ≡ true
        later_too true b on = refl
        later_too false b on = on

-- ---- grants

module _ (z : ℕ) (low : 1 ≤ z) (high : z ≤ ZONE_LIMIT) where
  -- the grant tells whether the zone is on, in a row of all zones
  pub record IsTold (on : Bool) (grant : Grant) : Type 0 where
    pub told : has grant.on z ≡ on
    pub row : length grant.on ≡ ZONE_PLACES

  abbrev pub IsToldIn : Bool → State → Type 0
  IsToldIn on (IsRunning grant) = IsTold on grant
  IsToldIn on other = Unit {0}

  -- the channel holds the zone, and it is on
  abbrev pub holds_on : Board → ℕ → Bool
  holds_on b d = is_this (b.holder z) d && b.is_on z

  pub record AreTold (b : Board) : Type 0 where
    pub states : (d : ℕ) → IsToldIn (holds_on b d) (b.state d)

  flag_at : (flag : ℕ → Bool) (n : ℕ) → n ≡ z → has (false ∷ map flag zone_numbers) n ≡ flag n
  flag_at flag zero is = absurd (omega arith)
  flag_at flag (suc n) is = let next : 1 + n ≡ suc n = omega arith in get_or-map-range_with_len flag 1 ZONE_LIMIT n (suc n) false (omega arith) next

  granted : (b : Board) (d : ℕ) (at : List (Option ℤ)) → IsTold (holds_on b d) (grant_with b d at)
  unfolding grant_with
  granted b d at =
      let flag : ℕ → Bool = λ n. is_this (b.holder n) d && b.is_on n in
      record { told = flag_at flag z refl; row = refl }

  started : (b : Board) (d : ℕ) → IsTold (holds_on b d) (start_grant b d)
  unfolding start_grant
  started b d = granted b d (positions_where (owns b d) (first_position b.start))

  still : (old new : Bool) (s : State) → new ≡ old → IsToldIn old s → IsToldIn new s
  still old new s same told = subst (λ (on : Bool). IsToldIn on s) (sym same) told

  -- ---- the channel's own part

  -- what it tells of its zones says nothing of those of others
  others_on : (o : Option ℕ) (c d : ℕ) (new old : Bool) → (d == c) ≡ false → (is_this o d && cond (is_this o c) new old) ≡ (is_this o d && old)
  others_on o c d new old other = by_holder (is_this o c) refl
    where
      by_holder : (held : Bool) → is_this o c ≡ held → (is_this o d && cond held new old) ≡ (is_this o d && old)
      by_holder true is = let no : is_this o d ≡ false = not_two o c d is other in and_never (is_this o d) new no ∙ sym (and_never (is_this o d) old no)
      by_holder false is = refl

  told_alarm : (b : Board) (c : ℕ) (step : Step) (code : ℕ) → AreTold b → AreTold (after_alarm b c step code)
  unfolding state_after_alarm is_on_after
  told_alarm b c step code t = record {
    states = λ d. by_test (IsToldIn (holds_on (after_alarm b c step code) d)) (d == c) (HasAlarmed code step.line) (b.state d) (λ here. tt)
        (λ other. still (holds_on b d) (holds_on (after_alarm b c step code) d) (b.state d) (others_on (b.holder z) c d (has step.on z) (b.is_on z) other) (t.states d));
  }

  freed_own : (b : Board) (c : ℕ) (action : Action) (x : ℕ) → lets_go_of_others b c action ≡ false → among (axes_to_free action) x ≡ true → owns b c x ≡ true
  freed_own b c (Release axes) x law freed = passes (owns b c) (members_of axes) x (not_not _ law) freed
  freed_own b c other x law freed = no_truth false freed refl

  -- a zone that the channel lets go was no other's
  let_go : (b : Board) (c : ℕ) (action : Action) (d : ℕ) → IsRunBoard b → lets_go_of_others b c action ≡ false → carries b (axes_to_free action) z ≡ true → (d == c) ≡ false → is_this (b.holder z) d ≡ false
  let_go b c action d zs law carried other =
      let some = carrying (axes_of_zone b.start z) (axes_to_free action) carried in
      let mine : owns b c some.0 ≡ true = freed_own b c action some.0 law some.1 in
      ap (λ (o : Option ℕ). is_this o d) (sym (zs.zones.owner z some.0 some.2)) ∙ not_two (owner_of (b.axis some.0)) c d mine other

  others_action : (b : Board) (c : ℕ) (step : Step) (d : ℕ) → IsRunBoard b → lets_go_of_others b c step.action ≡ false → (d == c) ≡ false → holds_on (after_action b c step) d ≡ holds_on b d
  unfolding holder_after is_on_after
  others_action b c step d zs law other = by_carried (carries b (axes_to_free step.action) z) refl
    where
      by_carried : (carried : Bool) → carries b (axes_to_free step.action) z ≡ carried
          → (is_this (cond carried None (b.holder z)) d && cond (is_this (b.holder z) c) (has step.on z) (b.is_on z)) ≡ holds_on b d
      by_carried true is = sym (and_never (is_this (b.holder z) d) (b.is_on z) (let_go b c step.action d zs law is other))
      by_carried false is = others_on (b.holder z) c d (has step.on z) (b.is_on z) other

  told_actor : (b : Board) (c line : ℕ) (action : Action) → IsToldIn (holds_on b c) (state_of_actor b c line action)
  told_actor b c line End = tt
  told_actor b c line (WaitM m named) = tt
  told_actor b c line (WaitE named) = tt
  told_actor b c line (Get axes) = tt
  told_actor b c line other = granted b c no_positions

  told_action : (b : Board) (c : ℕ) (step : Step) → IsRunBoard b → lets_go_of_others b c step.action ≡ false → AreTold b → AreTold (after_action b c step)
  unfolding state_after_action
  told_action b c step zs law t =
      let a : Board = after_effects b c step in
      record {
        states = λ d. by_test (IsToldIn (holds_on (after_action b c step) d)) (d == c) _ _
            (λ here. subst (λ (e : ℕ). IsToldIn (holds_on a e) (state_of_actor a c step.line step.action)) (sym (eqb-true d c here)) (told_actor a c step.line step.action))
            (λ other. by_test (IsToldIn (holds_on (after_action b c step) d)) (among (channels_to_start step.action) d) (IsRunning (start_grant a d)) (b.state d)
            (λ starts. started a d)
            (λ stays. still (holds_on b d) (holds_on (after_action b c step) d) (b.state d) (others_action b c step d zs law other) (t.states d)));
      }

  told_part : (b : Board) (c : ℕ) (step : Step) (alarm : Option ℕ) → alarm_of b c step.action ≡ alarm → IsRunBoard b → AreTold b → AreTold (after_part b c step alarm)
  told_part b c step (Some code) is zs t = told_alarm b c step code t
  told_part b c step None is zs t = told_action b c step zs (no_alarm b c step.action is).own t

  -- ---- who goes on

  told_goes : (b : Board) → AreTold b → AreTold (after_goes b)
  unfolding state_after_goes
  told_goes b t = record {
    states = λ d. by_test (IsToldIn (holds_on b d)) (among (goers_at_once b) d) (IsRunning (grant_with b d no_positions)) (b.state d) (λ goes. granted b d no_positions) (λ stays. t.states d);
  }

  taker_told : (b : Board) (c : ℕ) → IsTold (holds_on (with_its_axes b c) c) (grant_of_taker b c)
  unfolding grant_of_taker
  taker_told b c = granted (with_its_axes b c) c (positions_where (among (axes_to_take b c)) (λ x. resting_position b x (b.axis x)))

  -- a zone that is taken was nobody's
  was_free : (b : Board) (c : ℕ) → can_take b c ≡ true → IsRunBoard b → carries b (axes_to_take b c) z ≡ true → b.holder z ≡ None
  was_free b c takes zs carried =
      let some = carrying (axes_of_zone b.start z) (axes_to_take b c) carried in
      sym (zs.zones.owner z some.0 some.2) ∙ no_owner (b.axis some.0) (taken_is_free b c some.0 (zs.robs_nobody c) takes some.1)

  others_taking : (b : Board) (c d : ℕ) → can_take b c ≡ true → IsRunBoard b → (d == c) ≡ false → holds_on (with_its_axes b c) d ≡ holds_on b d
  unfolding holder_after_taking
  others_taking b c d takes zs other = by_carried (carries b (axes_to_take b c) z) refl
    where
      by_carried : (carried : Bool) → carries b (axes_to_take b c) z ≡ carried → (is_this (cond carried (Some c) (b.holder z)) d && b.is_on z) ≡ (is_this (b.holder z) d && b.is_on z)
      by_carried true is =
          and_never (c == d) (b.is_on z) (other_number d c other)
          ∙ sym (and_never (is_this (b.holder z) d) (b.is_on z) (ap (λ (o : Option ℕ). is_this o d) (was_free b c takes zs is)))
      by_carried false is = refl

  told_taking : (b : Board) (c : ℕ) → can_take b c ≡ true → IsRunBoard b → AreTold b → AreTold (after_taking b c)
  unfolding state_after_taking
  told_taking b c takes zs t = record {
    states = λ d. by_test (IsToldIn (holds_on (with_its_axes b c) d)) (d == c) (IsRunning (grant_of_taker b c)) (b.state d)
        (λ here. subst (λ (e : ℕ). IsTold (holds_on (with_its_axes b c) e) (grant_of_taker b c)) (sym (eqb-true d c here)) (taker_told b c))
        (λ other. still (holds_on b d) (holds_on (with_its_axes b c) d) (b.state d) (others_taking b c d takes zs other) (t.states d));
  }

  told_takings : (n : ℕ) (b : Board) → IsRunBoard b → AreTold b → AreTold (takings n b).board
  told_takings zero b zs t = t
  told_takings (suc n) b zs t = next (told_takings n) (next_taker b) refl
    where
      next : ((a : Board) → IsRunBoard a → AreTold a → AreTold (takings n a).board) → (taker : Option ℕ) → next_taker b ≡ taker → AreTold (takings_from (takings n) b taker).board
      next rest None is = t
      next rest (Some c) is = rest (after_taking b c) (run_board_taking b c zs) (told_taking b c (first_passes (can_take b) channel_numbers c is) zs t)

  -- ---- runs

  told_step : (b : Board) (c : ℕ) (step : Step) → IsRunBoard b → AreTold b → AreTold (after_step b c step)
  told_step b c step zs t =
      let own : Board = after_own_part b c step in
      let zones : IsRunBoard own = run_board_part b c step zs in
      told_takings CHANNEL_LIMIT (after_goes own) (run_board_goes own zones) (told_goes own (told_part b c step (alarm_of b c step.action) refl zs t))

  told_first : (start : StartView) → AreTold (first_board start)
  unfolding first_state
  told_first start = record {
    states = λ d. by_test (IsToldIn (holds_on (first_board start) d)) (runs_at_first start d) _ _ (λ runs. started (board_at_rest start) d) (λ rests. tt);
  }

  told_run : (script : Script) (stage : Stage) (cs : List ℕ) → IsRunBoard stage.board → AreTold stage.board → AreTold (stage_after script stage cs).board
  told_run script stage [] zs t = t
  told_run script stage (c ∷ cs) zs t =
      let step : Step = script c (stage.grants c) in
      told_run script (after_turn script stage c) cs (run_board_step stage.board c step zs) (told_step stage.board c step zs t)

  pub run_told : (script : Script) (start : StartView) → IsSound start → (cs : List ℕ) → AreTold (stage_after script (first_stage start) cs).board
  run_told script start sound cs = told_run script (first_stage start) cs (run_board_first start sound) (told_first start)

  -- of a zone that it holds
  pub grant_tells : (script : Script) (start : StartView) → IsSound start → (cs : List ℕ) (c : ℕ) (grant : Grant) → (stage_after script (first_stage start) cs).board.state c ≡ IsRunning grant
      → (stage_after script (first_stage start) cs).board.holder z ≡ Some c → IsTold ((stage_after script (first_stage start) cs).board.is_on z) grant
  grant_tells script start sound cs c grant runs held =
      let b : Board = (stage_after script (first_stage start) cs).board in
      let mine : holds_on b c ≡ b.is_on z = rw (held, eq-eqb c c refl) refl in
      subst (λ (on : Bool). IsTold on grant) mine (subst (IsToldIn (holds_on b c)) runs ((run_told script start sound cs).states c))
