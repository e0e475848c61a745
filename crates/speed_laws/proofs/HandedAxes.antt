-- What a step does with axes: who lets one go tells where it stands, and who takes one learns where it stood.
use Rattle.std.proofs.Common.{◌≡◌, ◌⊎◌, ◌∙◌, ℕ, ℤ, ◌<◌, ◌≤◌, Bool, true, false, cond, not, ◌==◌, ◌&&◌, List, [], ◌∷◌, ◌++◌, map, length, find, slice_get, Option, None, Some, inl, inr, zero, suc, refl, sym, ap, subst, arith}
use Rattle.std.specs.Prelude.{is_some}
use Rattle.std.specs.Option.{option_map}
use Rattle.std.proofs.Math.ListN.{get_or-eq_default}
use Rattle.std.proofs.lemmas.Bool.{and_parts, cases_Bool, eqb-true}
use Rattle.std.proofs.lemmas.List.FromFn.{get_or-map-range_with_len}
use Rattle.std.proofs.lemmas.Option.{slice_get_within}
use Rattle.axis_sets.specs.Positions.{position_of}
use Rattle.axis_sets.specs.Sets.{members_of}
use Rattle.axis_sets.specs.declared.limits.TheConstants.{AXIS_LIMIT}
use Rattle.board_laws.proofs.Footprint.{no_alarm}
use Rattle.board_laws.proofs.Takings.{IsOf, taker_grant, taken_was_free}
use Rattle.board_laws.specs.Machine.{grant_by}
use Rattle.channel_machine.proofs.StartLaws.{axis_found}
use Rattle.channel_machine.specs.StartStates.{first_axes, first_axis, start_of}
use Rattle.job_types.specs.Job.{JobView}
use Rattle.job_types.specs.SoundJob.{IsSoundJob}
use Rattle.job_types.specs.declared.job.AxisLine.{AxisLine}
use Rattle.order_clocks.proofs.CounterLaws.{contains_from}
use Rattle.order_clocks.proofs.DepartLaws.{going_there}
use Rattle.order_clocks.proofs.MemberLaws.{in_append, map_in}
use Rattle.order_clocks.proofs.ReadLaws.{part_acts, part_alarms}
use Rattle.order_clocks.proofs.WatchLaws.{any_is_found}
use Rattle.order_clocks.specs.Chains.{IsIn}
use Rattle.speed_laws.proofs.Grants.{le_or_lt, this_one}
use Rattle.speed_laws.proofs.PresentTenures.{part_start}
use Rattle.speed_laws.proofs.RunBoards.{IsRunBoard, run_board_step}
use Rattle.speed_laws.proofs.StepEvents.{actor_told, goes_on, kept_state, not_started, of_in, part_other, started_was, taken}
use Rattle.sync_types.proofs.BoardTests.{no_truth, not_not, passes}
use Rattle.sync_types.specs.BoardActions.{after_own_part, axes_to_free, channels_started, channels_to_start, after_effects, ownership_after, position_or_zero, state_after_action, state_after_alarm, state_of_actor}
use Rattle.sync_types.specs.BoardAlarms.{alarm_of, lets_go_of_others, names_no_axis}
use Rattle.sync_types.specs.Boards.{State, IsIdle, IsRunning, HasAlarmed, Ownership, OwnedBy, FreeAt, Board, among, axis_numbers, board_at_rest, first_state, grant_in, grant_with, is_free, is_idle, is_running, no_positions, owner_of, owns, positions_where, start_grant}
use Rattle.sync_types.specs.Events.{channels_in}
use Rattle.sync_types.specs.GoingOn.{Going, after_goes, all_takings, axes_asked, going_at_once, going_of_start, goers_at_once, resting_position, state_after_goes}
use Rattle.sync_types.specs.Runs.{Script, Stage, IsRun, as_list, after_turn, first_stage, stage_after}
use Rattle.sync_types.specs.Starts.{first_position, has_axis, runs_at_first}
use Rattle.sync_types.specs.Turns.{after_step, goings_in_step}
use Rattle.sync_types.specs.Views.{StartView}
use Rattle.sync_types.specs.declared.Action.{Action}
use Rattle.sync_types.specs.declared.Action.TheVariants.{Get, Release}
use Rattle.sync_types.specs.declared.Grant.{Grant}
use Rattle.sync_types.specs.declared.Step.{Step}

-- ---- rows of positions

none_in_row : (xs : List ℕ) (k : ℕ) → position_of (map (λ x. None) xs) k ≡ None
none_in_row [] k = refl
none_in_row (x ∷ xs) zero = refl
none_in_row (x ∷ xs) (suc k) = none_in_row xs k

placed : (test : ℕ → Bool) (place : ℕ → ℤ) (x : ℕ) → x < AXIS_LIMIT → position_of (positions_where test place) x ≡ cond (test x) (Some (place x)) None
placed test place x below = get_or-map-range_with_len (λ y. cond (test y) (Some (place y)) None) 0 AXIS_LIMIT x x None below (omega arith)

placed_past : (test : ℕ → Bool) (place : ℕ → ℤ) (x : ℕ) → AXIS_LIMIT ≤ x → position_of (positions_where test place) x ≡ None
placed_past test place x up = get_or-eq_default (positions_where test place) None up

-- no position, or the one of the axis
placed_or_none : (test : ℕ → Bool) (place : ℕ → ℤ) (x : ℕ) → (position_of (positions_where test place) x ≡ None) ⊎ (position_of (positions_where test place) x ≡ Some (place x))
placed_or_none test place x = elim (le_or_lt AXIS_LIMIT x) [
  | inl up ↦ inl (placed_past test place x up)
  | inr below ↦ by_test (test x) (placed test place x below)
]
  where
    by_test : (t : Bool) → position_of (positions_where test place) x ≡ cond t (Some (place x)) None → (position_of (positions_where test place) x ≡ None) ⊎ (position_of (positions_where test place) x ≡ Some (place x))
    by_test true is = inr is
    by_test false is = inl is

not_placed : (test : ℕ → Bool) (place : ℕ → ℤ) (x : ℕ) → test x ≡ false → position_of (positions_where test place) x ≡ None
not_placed test place x off = elim (le_or_lt AXIS_LIMIT x) [
  | inl up ↦ placed_past test place x up
  | inr below ↦ placed test place x below ∙ rw off refl
]

-- ---- one step

module _ (b : Board) (p : ℕ) (step : Step) where
  -- a channel lets the axis go where the step tells
  pub record LetsGo (x : ℕ) : Type 0 where
    pub owner : owner_of (b.axis x) ≡ Some p
    pub listed : among (axes_to_free step.action) x ≡ true
    pub there : has_axis b.start x ≡ true
    pub free : (after_own_part b p step).axis x ≡ FreeAt (position_or_zero (position_of step.at x))

  freed_owned : (action : Action) (x : ℕ) → lets_go_of_others b p action ≡ false → among (axes_to_free action) x ≡ true → owns b p x ≡ true
  freed_owned (Release axes) x off on = passes (owns b p) (members_of axes) x (not_not _ off) on
  freed_owned other x off on = no_truth false on refl

  freed_there : (action : Action) (x : ℕ) → names_no_axis b action ≡ false → among (axes_to_free action) x ≡ true → has_axis b.start x ≡ true
  freed_there (Release axes) x off on = passes (has_axis b.start) (members_of axes) x (not_not _ off) on
  freed_there other x off on = no_truth false on refl

  -- the own part leaves an axis as it is, or lets it go
  pub part_axis : (x : ℕ) → ((after_own_part b p step).axis x ≡ b.axis x) ⊎ LetsGo x
  unfolding ownership_after
  part_axis x = by_alarm (alarm_of b p step.action) refl
    where
      by_free : (t : Bool) → among (axes_to_free step.action) x ≡ t → alarm_of b p step.action ≡ None → ((after_own_part b p step).axis x ≡ b.axis x) ⊎ LetsGo x
      by_free true on e = inr (record {
        owner = this_one (owner_of (b.axis x)) p (freed_owned step.action x (no_alarm b p step.action e).own on);
        listed = on;
        there = freed_there step.action x (no_alarm b p step.action e).axis on;
        free = ap (λ (a : Board). a.axis x) (part_acts b p step e) ∙ rw on refl;
      })
      by_free false off e = inl (ap (λ (a : Board). a.axis x) (part_acts b p step e) ∙ rw off refl)

      by_alarm : (a : Option ℕ) → alarm_of b p step.action ≡ a → ((after_own_part b p step).axis x ≡ b.axis x) ⊎ LetsGo x
      by_alarm (Some code) e = inl (ap (λ (a : Board). a.axis x) (part_alarms b p step code e))
      by_alarm None e = by_free (among (axes_to_free step.action) x) refl e

  -- ---- axes that are asked for

  named_known : (a : Board) (action : Action) (line x : ℕ) → names_no_axis b action ≡ false → among (axes_asked (state_of_actor a p line action)) x ≡ true → has_axis b.start x ≡ true
  named_known a (Get axes) line x off on = passes (has_axis b.start) (members_of axes) x (not_not _ off) on
  named_known a other line x off on = no_truth false on refl

  -- if the channel asks for the axis in this state, there is one
  abbrev pub Known : ℕ → State → Type 0
  Known x s = among (axes_asked s) x ≡ true → has_axis b.start x ≡ true

  pub part_known : ((c x : ℕ) → Known x (b.state c)) → (c x : ℕ) → Known x ((after_own_part b p step).state c)
  unfolding state_after_alarm state_after_action
  part_known known c x = by_alarm (alarm_of b p step.action) refl
    where
      by_case : (t : Bool) (s o : State) → Known x s → Known x o → Known x (cond t s o)
      by_case true s o one two = one
      by_case false s o one two = two

      by_alarm : (a : Option ℕ) → alarm_of b p step.action ≡ a → Known x ((after_own_part b p step).state c)
      by_alarm (Some code) e = subst (λ (a : Board). Known x (a.state c)) (sym (part_alarms b p step code e)) (by_case (c == p) (HasAlarmed code step.line) (b.state c) (λ on. no_truth false on refl) (known c x))
      by_alarm None e = subst (λ (a : Board). Known x (a.state c)) (sym (part_acts b p step e)) (by_case (c == p) (state_of_actor (after_effects b p step) p step.line step.action)
          (cond (among (channels_to_start step.action) c) (IsRunning (start_grant (after_effects b p step) c)) (b.state c))
          (named_known (after_effects b p step) step.action step.line x (no_alarm b p step.action e).axis)
          (by_case (among (channels_to_start step.action) c) (IsRunning (start_grant (after_effects b p step) c)) (b.state c) (λ on. no_truth false on refl) (known c x)))

  module _ (zs : IsRunBoard b) (running : is_running (b.state p) ≡ true) where
    abbrev part : Board
    part = after_own_part b p step

    abbrev starts : List ℕ
    starts = channels_started (alarm_of b p step.action) step.action

    -- ---- takings

    -- somebody takes the axis, which was free, and asked for it
    pub record Takes (x : ℕ) : Type 0 where
      pub going : Going
      pub within : IsIn going (goings_in_step b p step)
      pub took : among going.took x ≡ true
      pub owned : (after_step b p step).axis x ≡ OwnedBy going.channel
      pub was_free : is_free ((after_own_part b p step).axis x) ≡ true
      pub asked : among (axes_asked ((after_own_part b p step).state going.channel)) x ≡ true

    to_in : (g : Going) (gs : List Going) → IsOf g gs → IsIn g gs
    to_in g [] within = absurd within
    to_in g (h ∷ gs) (inl e) = inl e
    to_in g (h ∷ gs) (inr later) = inr (to_in g gs later)

    asks_part : (c x : ℕ) → among (axes_asked ((after_goes part).state c)) x ≡ true → among (axes_asked (part.state c)) x ≡ true
    unfolding state_after_goes
    asks_part c x = by_test (among (goers_at_once part) c)
      where
        by_test : (t : Bool) → among (axes_asked (cond t (IsRunning (grant_with part c no_positions)) (part.state c))) x ≡ true → among (axes_asked (part.state c)) x ≡ true
        by_test true on = no_truth false on refl
        by_test false on = on

    pub final_axis : (x : ℕ) → ((after_step b p step).axis x ≡ (after_own_part b p step).axis x) ⊎ Takes x
    final_axis x = elim ((taken b p step zs running).axis x) [
      | inl same ↦ inl same
      | inr some ↦
          let t = (taken b p step zs running).each some.0 some.1.0 in
          let both = and_parts _ _ (sym (t.took x) ∙ some.1.1) in
          inr (record {
            going = some.0;
            within = (in_append some.0 (map (going_of_start part) starts) (map (going_at_once part) (goers_at_once part) ++ (all_takings (after_goes part)).goings)).1
                (inr ((in_append some.0 (map (going_at_once part) (goers_at_once part)) (all_takings (after_goes part)).goings).1 (inr (to_in some.0 (all_takings (after_goes part)).goings some.1.0))));
            took = some.1.1;
            owned = t.has x both.0;
            was_free = taken_was_free (after_goes part) (all_takings (after_goes part)).board some.0 x t some.1.1;
            asked = asks_part some.0.channel x both.0;
          })
    ]

    -- ---- what grants tell of an axis

    -- who is started learns where the job puts it, and took none; who takes it where it stood free; and no one of another axis
    abbrev pub Told : ℕ → Going → Type 0
    Told x g =
        ((is_idle (b.state g.channel) ≡ true) × (among g.took x ≡ false) × ((position_of g.grant.at x ≡ None) ⊎ (position_of g.grant.at x ≡ Some (first_position b.start x))))
        ⊎ ((among g.took x ≡ false → position_of g.grant.at x ≡ None) × (among g.took x ≡ true → (is_free ((after_own_part b p step).axis x) ≡ true) × (x < AXIS_LIMIT → position_of g.grant.at x ≡ Some (resting_position (after_own_part b p step) x ((after_own_part b p step).axis x)))))

    start_told : (x c : ℕ) → among starts c ≡ true → Told x (going_of_start part c)
    unfolding start_grant grant_with
    start_told x c on = inl (
      (started_was b p step zs running c on).0,
      refl,
      subst (λ (s : StartView). (position_of (positions_where (owns part c) (first_position part.start)) x ≡ None) ⊎ (position_of (positions_where (owns part c) (first_position part.start)) x ≡ Some (first_position s x)))
          (part_start b p step) (placed_or_none (owns part c) (first_position part.start) x),
    )

    quick_told : (x c : ℕ) → Told x (going_at_once part c)
    unfolding grant_with
    quick_told x c = inr ((λ off. none_in_row axis_numbers x), (λ on. no_truth false on refl))

    -- no going tells where axes stand
    rests_alike : (x : ℕ) (a : Ownership) → resting_position (after_goes part) x a ≡ resting_position part x a
    rests_alike x (OwnedBy c) = refl
    rests_alike x (FreeAt position) = refl

    taker_told : (x : ℕ) (g : Going) → IsIn g (all_takings (after_goes part)).goings → Told x g
    unfolding grant_by
    taker_told x g within =
        let t = (taken b p step zs running).each g (of_in g (all_takings (after_goes part)).goings within) in
        let test : ℕ → Bool = λ y. among (axes_asked ((after_goes part).state g.channel)) y && not (owns part g.channel y) in
        let rests : ℕ → ℤ = λ y. resting_position (after_goes part) y (part.axis y) in
        let there : position_of g.grant.at x ≡ position_of (taker_grant (after_goes part) g.channel).at x = ap (λ (grant : Grant). position_of grant.at x) t.grant in
        inr (
          (λ off. there ∙ not_placed test rests x (sym (t.took x) ∙ off)),
          (λ on. (
            taken_was_free (after_goes part) (all_takings (after_goes part)).board g x t on,
            (λ below. there ∙ placed test rests x below ∙ ap (λ (t : Bool). cond t (Some (rests x)) None) (sym (t.took x) ∙ on) ∙ ap (λ (n : ℤ). Some n) (rests_alike x (part.axis x))),
          )),
        )

    pub told : (x : ℕ) (g : Going) → IsIn g (goings_in_step b p step) → Told x g
    told x g within = elim ((in_append g (map (going_of_start part) starts) (map (going_at_once part) (goers_at_once part) ++ (all_takings (after_goes part)).goings)).0 within) [
      | inl start ↦ let w = map_in (going_of_start part) g starts start in subst (Told x) (sym w.1.1) (start_told x w.0 (contains_from starts w.0 w.1.0))
      | inr rest ↦ elim ((in_append g (map (going_at_once part) (goers_at_once part)) (all_takings (after_goes part)).goings).0 rest) [
        | inl quick ↦ let w = map_in (going_at_once part) g (goers_at_once part) quick in subst (Told x) (sym w.1.1) (quick_told x w.0)
        | inr took ↦ taker_told x g took
      ]
    ]

    -- ---- what is always so

    pub start_same : (after_step b p step).start ≡ b.start
    start_same = (taken b p step zs running).start ∙ part_start b p step

    asks_known : ((c x : ℕ) → Known x (b.state c)) → (c x : ℕ) → Known x ((after_step b p step).state c)
    asks_known known c x on = elim (cases_Bool (among (channels_in (goings_in_step b p step)) c)) [
      | inr out ↦ part_known known c x (subst (λ (s : State). among (axes_asked s) x ≡ true) (kept_state b p step zs running c out) on)
      | inl in_it ↦
          let w = going_there (goings_in_step b p step) c in_it in
          let now : (after_step b p step).state c ≡ IsRunning w.0.grant = ap (after_step b p step).state (sym w.1.1) ∙ (goes_on b p step zs running w.0 w.1.0).runs in
          no_truth false (subst (λ (s : State). among (axes_asked s) x ≡ true) now on) refl
    ]

    -- who is idle after the step was idle before it, and has not acted
    idle_before : (c : ℕ) → is_idle ((after_step b p step).state c) ≡ true → ((c == p) ≡ false) × (is_idle (b.state c) ≡ true)
    idle_before c on = elim (cases_Bool (among (channels_in (goings_in_step b p step)) c)) [
      | inl in_it ↦
          let w = going_there (goings_in_step b p step) c in_it in
          let now : (after_step b p step).state c ≡ IsRunning w.0.grant = ap (after_step b p step).state (sym w.1.1) ∙ (goes_on b p step zs running w.0 w.1.0).runs in
          no_truth false (sym (ap is_idle now) ∙ on) refl
      | inr out ↦
          let kept = kept_state b p step zs running c out in
          elim (cases_Bool (c == p)) [
            | inl same ↦ no_truth (is_idle (part.state p)) (sym (ap (λ (d : ℕ). is_idle (part.state d)) (eqb-true c p same)) ∙ ap is_idle (sym kept) ∙ on) (actor_told b p step zs running).acted
            | inr off ↦ (off, ap is_idle (sym (kept ∙ part_other b p step zs running c off (not_started b p step zs running c out))) ∙ on)
          ]
    ]

-- ---- in every run

-- the start stays, channels ask only for axes that there are, and who is idle has got no grant
pub record Keeps (start_view : StartView) (stage : Stage) : Type 0 where
  pub start : stage.board.start ≡ start_view
  pub known : (c x : ℕ) → among (axes_asked (stage.board.state c)) x ≡ true → has_axis start_view x ≡ true
  pub fresh : (c : ℕ) → is_idle (stage.board.state c) ≡ true → stage.grants c ≡ []

keeps_turn : (script : Script) (start_view : StartView) (stage : Stage) (p : ℕ) → IsRunBoard stage.board → is_running (stage.board.state p) ≡ true → Keeps start_view stage → Keeps start_view (after_turn script stage p)
keeps_turn script start_view stage p zs running keeps =
    let step = script p (stage.grants p) in
    record {
      start = start_same stage.board p step zs running ∙ keeps.start;
      known = λ c x on. subst (λ (s : StartView). has_axis s x ≡ true) keeps.start
          (asks_known stage.board p step zs running (λ d y asked. subst (λ (s : StartView). has_axis s y ≡ true) (sym keeps.start) (keeps.known d y asked)) c x on);
      fresh = λ c on.
          let was = idle_before stage.board p step zs running c on in
          rw (was.0, no_grant ((after_step stage.board p step).state c) on, keeps.fresh c was.1) (nothing (not (is_running (stage.board.state c))));
    }
  where
    no_grant : (s : State) → is_idle s ≡ true → as_list (grant_in s) ≡ []
    no_grant (IsRunning grant) on = no_truth false on refl
    no_grant other on = refl

    nothing : (t : Bool) → cond {A = List Grant} t [] [] ≡ []
    nothing true = refl
    nothing false = refl

pub keeps_run : (script : Script) (start_view : StartView) (stage : Stage) (cs : List ℕ) → IsRunBoard stage.board → IsRun script stage cs → Keeps start_view stage → Keeps start_view (stage_after script stage cs)
keeps_run script start_view stage [] zs run keeps = keeps
keeps_run script start_view stage (p ∷ cs) zs run keeps =
    keeps_run script start_view (after_turn script stage p) cs (run_board_step stage.board p (script p (stage.grants p)) zs) run.1 (keeps_turn script start_view stage p zs run.0 keeps)

pub keeps_first : (start_view : StartView) → Keeps start_view (first_stage start_view)
unfolding first_state
keeps_first start_view = record {
  start = refl;
  known = λ c x on. asks_none (runs_at_first start_view c) (start_grant (board_at_rest start_view) c) x on;
  fresh = λ c on. idle_none (runs_at_first start_view c) (start_grant (board_at_rest start_view) c) on;
}
  where
    asks_none : (t : Bool) (grant : Grant) (x : ℕ) → among (axes_asked (cond t (IsRunning grant) IsIdle)) x ≡ true → has_axis start_view x ≡ true
    asks_none true grant x on = no_truth false on refl
    asks_none false grant x on = no_truth false on refl

    idle_none : (t : Bool) (grant : Grant) → is_idle (cond t (IsRunning grant) IsIdle) ≡ true → as_list (grant_in (cond t (IsRunning grant) IsIdle)) ≡ []
    idle_none true grant on = no_truth false on refl
    idle_none false grant on = refl

-- an axis that there is has a place in rows of axes
pub axis_below : (job : JobView) → IsSoundJob job → (x : ℕ) → has_axis (start_of job) x ≡ true → x < AXIS_LIMIT
unfolding start_of
axis_below job sound x on = by_line (slice_get job.axes x) refl
  where
    by_line : (o : Option AxisLine) → slice_get job.axes x ≡ o → x < AXIS_LIMIT
    by_line None none =
        no_truth (is_some (find (λ e. e.0 == x) (first_axes job))) (sym (any_is_found (λ e. e.0 == x) (first_axes job)) ∙ on) (ap is_some (axis_found job sound x ∙ ap (option_map (first_axis x)) none))
    by_line (Some line) is =
        let few : length job.axes ≤ AXIS_LIMIT = sound.few_axes in
        let below : x < length job.axes = slice_get_within job.axes x line is in
        omega arith
