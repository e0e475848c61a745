-- What a step of a running channel is for one channel: whether the channel goes on in it, and what it does then.
use Rattle.axis_sets.specs.declared.limits.TheConstants.{CHANNEL_LIMIT}
use Rattle.std.proofs.Common.{◌≡◌, ◌⊎◌, ◌∙◌, ℕ, zero, suc, Bool, true, false, cond, ◌==◌, ◌||◌, List, [], ◌∷◌, ◌++◌, map, filter, Option, None, Some, inl, inr, refl, sym, ap, subst}
use Rattle.std.specs.Prelude.{is_some}
use Rattle.std.proofs.lemmas.Bool.{and_parts, cases_Bool, eqb-true, eq-eqb, ne_eqb}
use Rattle.axis_sets.specs.Positions.{position_of}
use Rattle.board_laws.proofs.Takings.{IsOf, AllTaken, all_taken}
use Rattle.order_clocks.proofs.DepartLaws.{goers_among, going_there, takings_take}
use Rattle.order_clocks.proofs.MemberLaws.{in_append}
use Rattle.order_clocks.proofs.ReadLaws.{no_alarm, part_acts, part_alarms, part_waits, started_idle, started_waits}
use Rattle.order_clocks.specs.Chains.{IsIn}
use Rattle.order_clocks.specs.Happenings.{going_of, happening_of}
use Rattle.order_clocks.specs.Watching.{wait_in}
use Rattle.speed_laws.proofs.RunBoards.{IsRunBoard, run_board_goes, run_board_part}
use Rattle.sync_types.proofs.BoardTests.{among_kept, no_truth}
use Rattle.sync_types.specs.BoardActions.{after_effects, after_own_part, channels_started, channels_to_start, hold_of, state_after_action, state_after_alarm, state_of_actor}
use Rattle.sync_types.specs.BoardAlarms.{alarm_of}
use Rattle.sync_types.specs.Boards.{State, IsIdle, IsRunning, IsHolding, HasEnded, HasAlarmed, Board, among, axis_numbers, channel_numbers, grant_with, no_positions, is_idle, is_running, start_grant}
use Rattle.sync_types.specs.Events.{channels_in}
use Rattle.sync_types.specs.GoingOn.{Going, after_goes, all_takings, going_at_once, going_of_start, goers_at_once, goes_at_once, state_after_goes, waits_for_axes}
use Rattle.sync_types.specs.Turns.{after_step, goings_in_step}
use Rattle.sync_types.specs.declared.Action.{Action}
use Rattle.sync_types.specs.declared.Action.TheVariants.{WaitM, WaitE, Get, End}
use Rattle.sync_types.specs.declared.Grant.{Grant}
use Rattle.sync_types.specs.declared.Step.{Step}
use Rattle.zone_stretches.proofs.EventLaws.{Once, goings_once, starts_once}
use Rattle.zone_stretches.proofs.NameLaws.{in_mapped}
use Rattle.zone_stretches.specs.Occurrences.{OccurrenceView, act_of, going_on_of, occurrences_in}

-- ---- states

-- it has stopped for good
abbrev pub is_stopped : State → Bool
is_stopped (HasEnded line) = true
is_stopped (HasAlarmed code line) = true
is_stopped other = false

-- an action waits where it has something to wait for
abbrev pub waits_by : ℕ → Action → Bool
waits_by c action = is_some (hold_of c action)

pub stopped_waits : (s : State) → is_stopped s ≡ true → (wait_in s ≡ None) × (is_idle s ≡ false) × (is_running s ≡ false)
stopped_waits (HasEnded line) over = (refl, refl, refl)
stopped_waits (HasAlarmed code line) over = (refl, refl, refl)
stopped_waits other over = absurd cc

running_parts : (s : State) → is_running s ≡ true → (is_idle s ≡ false) × (is_stopped s ≡ false) × (waits_for_axes s ≡ false)
running_parts (IsRunning grant) on = (refl, refl, refl)
running_parts other on = absurd cc

goes_waits : (b : Board) (s : State) → goes_at_once b s ≡ true → is_some (wait_in s) ≡ true
goes_waits b (IsHolding hold line) on = refl
goes_waits b other on = absurd cc

asks_waits : (s : State) → waits_for_axes s ≡ true → is_some (wait_in s) ≡ true
asks_waits (IsHolding hold line) on = refl
asks_waits other on = absurd cc

pub of_in : (g : Going) (gs : List Going) → IsIn g gs → IsOf g gs
of_in g [] within = absurd within
of_in g (h ∷ gs) (inl e) = inl e
of_in g (h ∷ gs) (inr later) = inr (of_in g gs later)

or_off : (p q : Bool) → (p || q) ≡ false → (p ≡ false) × (q ≡ false)
or_off true q off = absurd cc
or_off false q off = (refl, off)

-- ---- one step

module _ (b : Board) (p : ℕ) (step : Step) (zs : IsRunBoard b) (running : is_running (b.state p) ≡ true) where
  abbrev part : Board
  part = after_own_part b p step

  abbrev starts : List ℕ
  starts = channels_started (alarm_of b p step.action) step.action

  abbrev goings : List Going
  goings = goings_in_step b p step

  pub taken : AllTaken (after_goes part) (all_takings (after_goes part))
  taken = all_taken CHANNEL_LIMIT (after_goes part) before.zones before.robs_nobody
    where
      before : IsRunBoard (after_goes part)
      before = run_board_goes part (run_board_part b p step zs)

  -- who is started was idle
  pub started_was : (c : ℕ) → among starts c ≡ true → (is_idle (b.state c) ≡ true) × (alarm_of b p step.action ≡ None)
  started_was c on = by_alarm (alarm_of b p step.action) refl on
    where
      by_alarm : (a : Option ℕ) → alarm_of b p step.action ≡ a → among (channels_started a step.action) c ≡ true → (is_idle (b.state c) ≡ true) × (alarm_of b p step.action ≡ None)
      by_alarm (Some code) e on = absurd cc
      by_alarm None e on = (started_idle b step.action c (no_alarm b p step.action e).1 on, e)

  pub started_other : (c : ℕ) → among starts c ≡ true → (c == p) ≡ false
  started_other c on = elim (cases_Bool (c == p)) [
    | inl same ↦ no_truth (is_idle (b.state c)) (started_was c on).0 (ap (λ (d : ℕ). is_idle (b.state d)) (eqb-true c p same) ∙ (running_parts (b.state p) running).0)
    | inr other ↦ other
  ]

  started_runs : (c : ℕ) → among starts c ≡ true → part.state c ≡ IsRunning (start_grant part c)
  unfolding state_after_action start_grant grant_with
  started_runs c on =
      let was = started_was c on in
      let on' : among (channels_to_start step.action) c ≡ true = subst (λ (a : Option ℕ). among (channels_started a step.action) c ≡ true) was.1 on in
      subst (λ (a : Board). a.state c ≡ IsRunning (start_grant a c)) (sym (part_acts b p step was.1)) (rw (started_other c on, on') refl)

  -- a channel that is not among those that take
  no_taker : (c : ℕ) → waits_for_axes ((after_goes part).state c) ≡ false → among (channels_in (all_takings (after_goes part)).goings) c ≡ false
  no_taker c off = elim (cases_Bool (among (channels_in (all_takings (after_goes part)).goings) c)) [
    | inr out ↦ out
    | inl on ↦
        let w = going_there (all_takings (after_goes part)).goings c on in
        let t = takings_take CHANNEL_LIMIT (after_goes part) w.0 w.1.0 in
        no_truth (waits_for_axes w.0.from) t.waits (ap waits_for_axes t.from ∙ ap (λ (d : ℕ). waits_for_axes ((after_goes part).state d)) w.1.1 ∙ off)
  ]

  not_at_once : (c : ℕ) → wait_in (part.state c) ≡ None → among (goers_at_once part) c ≡ false
  not_at_once c none = elim (cases_Bool (among (goers_at_once part) c)) [
    | inr out ↦ out
    | inl on ↦ let goes = goer c on in no_truth (is_some (wait_in (part.state c))) (goes_waits part (part.state c) goes) (ap is_some none)
  ]
    where
      goer : (c : ℕ) → among (goers_at_once part) c ≡ true → goes_at_once part (part.state c) ≡ true
      goer c on = (and_parts (among channel_numbers c) (goes_at_once part (part.state c)) (sym (among_kept (λ d. goes_at_once part (part.state d)) channel_numbers c) ∙ on)).1

  -- who does not go on does what it did after the own part
  pub kept_state : (c : ℕ) → among (channels_in goings) c ≡ false → (after_step b p step).state c ≡ part.state c
  unfolding state_after_goes
  kept_state c out =
      let all : (among starts c || (among (goers_at_once part) c || among (channels_in (all_takings (after_goes part)).goings) c)) ≡ false = sym (goers_among part starts c) ∙ out in
      let rest = or_off (among starts c) _ all in
      let two = or_off (among (goers_at_once part) c) _ rest.1 in
      taken.kept c two.1 ∙ rw two.0 refl

  pub not_started : (c : ℕ) → among (channels_in goings) c ≡ false → among starts c ≡ false
  not_started c out = (or_off (among starts c) _ (sym (goers_among part starts c) ∙ out)).0

  -- one that goes on: it was started, or it waited; and it runs with its grant
  pub record GoesOn (g : Going) : Type 0 where
    pub waited : (among starts g.channel ≡ true) ⊎ (is_some (wait_in (part.state g.channel)) ≡ true)
    pub runs : (after_step b p step).state g.channel ≡ IsRunning g.grant

  start_goes : (c : ℕ) → among starts c ≡ true → GoesOn (going_of_start part c)
  unfolding state_after_goes
  start_goes c on =
      let runs = started_runs c on in
      let quick = not_at_once c (ap wait_in runs) in
      let same : (after_goes part).state c ≡ part.state c = rw quick refl in
      record { waited = inl on; runs = taken.kept c (no_taker c (ap waits_for_axes (same ∙ runs))) ∙ same ∙ runs }

  at_once_goes : (c : ℕ) → among (goers_at_once part) c ≡ true → is_some (wait_in (part.state c)) ≡ true → GoesOn (going_at_once part c)
  unfolding state_after_goes
  at_once_goes c on waits =
      let same : (after_goes part).state c ≡ IsRunning (going_at_once part c).grant = rw on refl in
      record { waited = inr waits; runs = taken.kept c (no_taker c (ap waits_for_axes same)) ∙ same }

  taker_goes : (g : Going) → IsIn g (all_takings (after_goes part)).goings → GoesOn g
  unfolding state_after_goes
  taker_goes g within =
      let t = taken.each g (of_in g (all_takings (after_goes part)).goings within) in
      record { waited = inr (by_once (among (goers_at_once part) g.channel) refl t.waits); runs = t.runs }
    where
      by_once : (o : Bool) → among (goers_at_once part) g.channel ≡ o → waits_for_axes (cond (among (goers_at_once part) g.channel) (IsRunning (going_at_once part g.channel).grant) (part.state g.channel)) ≡ true
          → is_some (wait_in (part.state g.channel)) ≡ true
      by_once true is on = no_truth false (subst (λ (o : Bool). waits_for_axes (cond o (IsRunning (going_at_once part g.channel).grant) (part.state g.channel)) ≡ true) is on) refl
      by_once false is on = asks_waits (part.state g.channel) (subst (λ (o : Bool). waits_for_axes (cond o (IsRunning (going_at_once part g.channel).grant) (part.state g.channel)) ≡ true) is on)

  pub goes_on : (g : Going) → IsIn g goings → GoesOn g
  goes_on g within = elim ((in_append g (map (going_of_start part) starts) (map (going_at_once part) (goers_at_once part) ++ (all_takings (after_goes part)).goings)).0 within) [
    | inl start ↦ let w = in_mapped (going_of_start part) g starts start in subst GoesOn (sym w.1.1) (start_goes w.0 (there starts w.0 w.1.0))
    | inr rest ↦ elim ((in_append g (map (going_at_once part) (goers_at_once part)) (all_takings (after_goes part)).goings).0 rest) [
      | inl once ↦
          let w = in_mapped (going_at_once part) g (goers_at_once part) once in
          let on = there (goers_at_once part) w.0 w.1.0 in
          subst GoesOn (sym w.1.1) (at_once_goes w.0 on (elim (cases_Bool (is_some (wait_in (part.state w.0)))) [
            | inl waits ↦ waits
            | inr none ↦ no_truth (among (goers_at_once part) w.0) on (not_at_once w.0 (no_wait (wait_in (part.state w.0)) none))
          ]))
      | inr took ↦ taker_goes g took
    ]
  ]
    where
      no_wait : {A : Type 0} (o : Option A) → is_some o ≡ false → o ≡ None
      no_wait None off = refl
      no_wait (Some x) off = absurd cc

      there : (xs : List ℕ) (x : ℕ) → IsIn x xs → among xs x ≡ true
      there [] x within = absurd within
      there (y ∷ ys) x (inl e) = rw (eq-eqb y x (sym e)) refl
      there (y ∷ ys) x (inr later) = or_second (y == x) (among ys x) (there ys x later)
        where
          or_second : (u v : Bool) → v ≡ true → (u || v) ≡ true
          or_second true v on = refl
          or_second false v on = on

  -- ---- the own part

  -- it leaves the other channels, but for those that it starts
  pub part_other : (c : ℕ) → (c == p) ≡ false → among starts c ≡ false → part.state c ≡ b.state c
  unfolding state_after_alarm state_after_action
  part_other c other off = by_alarm (alarm_of b p step.action) refl off
    where
      by_alarm : (a : Option ℕ) → alarm_of b p step.action ≡ a → among (channels_started a step.action) c ≡ false → part.state c ≡ b.state c
      by_alarm (Some code) e off = ap (λ (a : Board). a.state c) (part_alarms b p step code e) ∙ rw other refl
      by_alarm None e off = ap (λ (a : Board). a.state c) (part_acts b p step e) ∙ rw (other, off) refl

  -- what the acting channel does after it
  pub record ActorTold (s : State) : Type 0 where
    pub acted : is_idle s ≡ false
    pub waits : is_some (wait_in s) ≡ true → waits_by p step.action ≡ true
    pub runs : is_running s ≡ true → waits_by p step.action ≡ false
    pub holds : is_running s ≡ false → is_stopped s ≡ false → waits_by p step.action ≡ true
    -- where it runs on it learns of no axis where it stands
    pub plain : (grant : Grant) → s ≡ IsRunning grant → (axis : ℕ) → position_of grant.at axis ≡ None

  pub actor_told : ActorTold (part.state p)
  unfolding state_after_alarm state_after_action grant_with
  actor_told = by_alarm (alarm_of b p step.action) refl
    where
      none_at : (xs : List ℕ) (k : ℕ) → position_of (map (λ x. None) xs) k ≡ None
      none_at [] k = refl
      none_at (x ∷ xs) zero = refl
      none_at (x ∷ xs) (suc k) = none_at xs k

      no_place : (a : Board) (grant : Grant) → IsRunning (grant_with a p no_positions) ≡ IsRunning grant → (axis : ℕ) → position_of grant.at axis ≡ None
      no_place a grant e axis = let same : grant_with a p no_positions ≡ grant = cc in subst (λ (g : Grant). position_of g.at axis ≡ None) same (none_at axis_numbers axis)

      by_action : (a : Board) (action : Action) → step.action ≡ action → ActorTold (state_of_actor a p step.line action)
      by_action a (WaitM m named) e = record { acted = refl; waits = λ on. ap (waits_by p) e; runs = λ on. no_truth false on refl; holds = λ off over. ap (waits_by p) e; plain = λ grant e axis. no_truth false (ap is_running e) refl }
      by_action a (WaitE named) e = record { acted = refl; waits = λ on. ap (waits_by p) e; runs = λ on. no_truth false on refl; holds = λ off over. ap (waits_by p) e; plain = λ grant e axis. no_truth false (ap is_running e) refl }
      by_action a (Get axes) e = record { acted = refl; waits = λ on. ap (waits_by p) e; runs = λ on. no_truth false on refl; holds = λ off over. ap (waits_by p) e; plain = λ grant e axis. no_truth false (ap is_running e) refl }
      by_action a End e = record { acted = refl; waits = λ on. no_truth false on refl; runs = λ on. no_truth false on refl; holds = λ off over. no_truth true refl over; plain = λ grant e axis. no_truth false (ap is_running e) refl }
      by_action a other e = record { acted = refl; waits = λ on. no_truth false on refl; runs = λ on. ap (waits_by p) e; holds = λ off. no_truth true refl off; plain = λ grant same axis. no_place a grant same axis }

      by_alarm : (a : Option ℕ) → alarm_of b p step.action ≡ a → ActorTold (part.state p)
      by_alarm (Some code) e = subst (λ (a : Board). ActorTold (a.state p)) (sym (part_alarms b p step code e))
          (rw (eq-eqb p p refl) (record { acted = refl; waits = λ on. no_truth false on refl; runs = λ on. no_truth false on refl; holds = λ off over. no_truth true refl over; plain = λ grant e axis. no_truth false (ap is_running e) refl }))
      by_alarm None e = subst (λ (a : Board). ActorTold (a.state p)) (sym (part_acts b p step e)) (rw (eq-eqb p p refl) (by_action (after_effects b p step) step.action refl))

  -- who goes on and has not acted did not run before, nor had it stopped
  pub goes_waited : (g : Going) (c : ℕ) → IsIn g goings → g.channel ≡ c → (c == p) ≡ false → (is_running (b.state c) ≡ false) × (is_stopped (b.state c) ≡ false)
  goes_waited g c within at other = elim (goes_on g within).waited [
    | inl start ↦ idle_parts (b.state c) (started_was c (subst (λ (d : ℕ). among starts d ≡ true) at start)).0
    | inr waits ↦ wait_parts (b.state c) (ap is_some (sym (part_waits b p step c ∙ rw other refl)) ∙ subst (λ (d : ℕ). is_some (wait_in (part.state d)) ≡ true) at waits)
  ]
    where
      idle_parts : (s : State) → is_idle s ≡ true → (is_running s ≡ false) × (is_stopped s ≡ false)
      idle_parts IsIdle on = (refl, refl)
      idle_parts other on = absurd cc

      wait_parts : (s : State) → is_some (wait_in s) ≡ true → (is_running s ≡ false) × (is_stopped s ≡ false)
      wait_parts (IsHolding hold line) on = (refl, refl)
      wait_parts other on = absurd cc

  -- the acting channel goes on where its action waits
  pub actor_goes : (g : Going) (c : ℕ) → IsIn g goings → g.channel ≡ c → (c == p) ≡ true → waits_by p step.action ≡ true
  actor_goes g c within at same = elim (goes_on g within).waited [
    | inl start ↦ no_truth (c == p) same (started_other c (subst (λ (d : ℕ). among starts d ≡ true) at start))
    | inr waits ↦ actor_told.waits (subst (λ (d : ℕ). is_some (wait_in (part.state d)) ≡ true) (at ∙ eqb-true c p same) waits)
  ]

  pub once : Once goings
  once = goings_once part starts (starts_once (alarm_of b p step.action) step.action) (λ s on. started_waits b p step s running on)

-- ---- the events of a channel in a step

abbrev pub as_goings : Option Going → List Going
as_goings None = []
as_goings (Some g) = g ∷ []

none_of : (gs : List Going) (c : ℕ) → ((h : Going) → IsIn h gs → h.channel ≡ c → ⊥) → filter (λ g. g.channel == c) gs ≡ []
none_of [] c none = refl
none_of (g ∷ gs) c none = rw (ne_eqb g.channel c (none g (inl refl))) (none_of gs c (λ h within. none h (inr within)))

-- a channel goes on once
pub once_of : (gs : List Going) (c : ℕ) → Once gs → filter (λ g. g.channel == c) gs ≡ as_goings (going_of gs c)
once_of [] c singles = refl
once_of (g ∷ gs) c singles = by_test (g.channel == c) refl (once_of gs c singles.1)
  where
    by_test : (t : Bool) → (g.channel == c) ≡ t → filter (λ h. h.channel == c) gs ≡ as_goings (going_of gs c)
        → cond t (g ∷ filter (λ h. h.channel == c) gs) (filter (λ h. h.channel == c) gs) ≡ as_goings (cond t (Some g) (going_of gs c))
    by_test true is rest = ap (λ (hs : List Going). g ∷ hs) (none_of gs c (λ h within at. singles.0 h within (eqb-true g.channel c is ∙ sym at)))
    by_test false is rest = rest

going_events : (i c : ℕ) (all gs : List Going) → filter (λ o. o.channel == c) (map (going_on_of i all) gs) ≡ map (going_on_of i all) (filter (λ g. g.channel == c) gs)
going_events i c all [] = refl
going_events i c all (g ∷ gs) = by_test (g.channel == c) (going_events i c all gs)
  where
    by_test : (t : Bool) → filter (λ o. o.channel == c) (map (going_on_of i all) gs) ≡ map (going_on_of i all) (filter (λ h. h.channel == c) gs)
        → cond t (going_on_of i all g ∷ filter (λ o. o.channel == c) (map (going_on_of i all) gs)) (filter (λ o. o.channel == c) (map (going_on_of i all) gs))
        ≡ map (going_on_of i all) (cond t (g ∷ filter (λ h. h.channel == c) gs) (filter (λ h. h.channel == c) gs))
    by_test true rest = ap (λ (os : List OccurrenceView). going_on_of i all g ∷ os) rest
    by_test false rest = rest

-- in the step of a channel: its act, and that it goes on
pub step_events : (b : Board) (p : ℕ) (step : Step) (i c : ℕ) → is_running (b.state p) ≡ true → IsRunBoard b
    → filter (λ o. o.channel == c) (occurrences_in i step (happening_of b p step))
    ≡ cond (p == c) (act_of i step (happening_of b p step) ∷ []) [] ++ map (going_on_of i (goings_in_step b p step)) (as_goings (going_of (goings_in_step b p step) c))
step_events b p step i c running zs =
    by_test (p == c) (going_events i c goings goings ∙ ap (map (going_on_of i goings)) (once_of goings c (once b p step zs running)))
  where
    goings : List Going
    goings = goings_in_step b p step

    by_test : (t : Bool) → filter (λ o. o.channel == c) (map (going_on_of i goings) goings) ≡ map (going_on_of i goings) (as_goings (going_of goings c))
        → cond t (act_of i step (happening_of b p step) ∷ filter (λ o. o.channel == c) (map (going_on_of i goings) goings)) (filter (λ o. o.channel == c) (map (going_on_of i goings) goings))
        ≡ cond t (act_of i step (happening_of b p step) ∷ []) [] ++ map (going_on_of i goings) (as_goings (going_of goings c))
    by_test true is = ap (λ (os : List OccurrenceView). act_of i step (happening_of b p step) ∷ os) is
    by_test false is = is
