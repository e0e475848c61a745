-- The steps as effects: what they read, and that each is an act.
use Rattle.std.proofs.Math.Path.{fun_ext}
use Rattle.std.proofs.Common.{◌≡◌, ℕ, ℤ, Bool, true, Option, None, Some, is_some, inl, inr, refl, sym, ap, ◌∙◌}
use Rattle.std.proofs.lemmas.Bool.{cases_Bool, eq-eqb}
use Rattle.axis_sets.specs.Sets.{has, members_of}
use Rattle.sync_types.specs.Boards.{IsIdle, IsRunning, State as Doing, Board, among, channel_numbers, is_this}
use Rattle.sync_types.specs.GoingOn.{first_of}
use Rattle.sync_types.specs.Starts.{axes_of_zone, first_holder}
use Rattle.sync_types.specs.Views.{StartView}
use Rattle.sync_types.specs.declared.Step.{Step}
use Rattle.board_laws.specs.Machine.{Seat, In, Called, Own, State, Effect, is_idle, mine, holds_by_carrier, holds_zone, board_of, touches, effect, doing_of, carrier, own_after_act, axes_freed, selects_program, program_selected, places_told}
use Rattle.board_laws.specs.Clean.{MarkChange, Stays, Raises, Lowers, IsAct}
use Rattle.board_laws.proofs.Basics.{in_no_call}
use Rattle.board_laws.proofs.Footprint.{ReadsSame, alarm_same, part_marks, part_state, part_awake, part_found, part_calls, part_selects}
use Rattle.sync_types.specs.Boards as boards
use Rattle.sync_types.specs.Boards.{owner_of, ownership_of, owns}
use Rattle.sync_types.specs.BoardActions.{after_own_part, channels_started}
use Rattle.sync_types.specs.BoardAlarms.{alarm_of}
use Rattle.sync_types.specs.declared.Action.{Action}

pub owner_is : (o : Option ℕ) (p : ℤ) → owner_of (ownership_of o p) ≡ o
owner_is (Some c) p = refl
owner_is None p = refl

-- the board of a machine has its owners and holders
pub owns_mine : (t : State) (c a : ℕ) → owns (board_of t) c a ≡ mine t c a
owns_mine t c a = ap (λ (o : Option ℕ). is_this o c) (owner_is (t.axis a).owner (t.axis a).position)

pub holder_mine : (t : State) (c z : ℕ) → is_this ((board_of t).holder z) c ≡ holds_zone t.start (mine t c) c z
unfolding holds_zone
holder_mine t c z = go (first_of (members_of (axes_of_zone t.start z)))
  where
    go : (o : Option ℕ) → is_this (carrier o (λ a. (t.axis a).owner) (first_holder t.start z)) c ≡ holds_by_carrier o (mine t c) (is_this (first_holder t.start z) c)
    go (Some a) = refl
    go None = refl

pub idle_shown : (t : State) (c : ℕ) (s : Seat) → boards.is_idle (doing_of t c s) ≡ is_idle s
idle_shown t c (In IsIdle) = refl
idle_shown t c (In state) = refl
idle_shown t c (Called p) = refl

-- what a step of p reads is the same of both
pub record Agree (b t : State) (p : ℕ) (names : ℕ → Bool) : Type 0 where
  pub start : b.start ≡ t.start
  pub own : b.own p ≡ t.own p
  pub mine : (a : ℕ) → mine b p a ≡ mine t p a
  pub idle : (y : ℕ) → names y ≡ true → is_idle (b.own y).seat ≡ is_idle (t.own y).seat
  pub chosen : (y : ℕ) → names y ≡ true → is_some (b.own y).program ≡ is_some (t.own y).program

reads : (b t : State) (p : ℕ) (action : Action) → Agree b t p (touches action) → ReadsSame (board_of b) (board_of t) p action
reads b t p action s = record {
  start = s.start;
  marks = ap (λ (o : Own). o.marks) s.own;
  program = ap (λ (o : Own). o.program) s.own;
  owns = λ x. owns_mine b p x ∙ s.mine x ∙ sym (owns_mine t p x);
  holder = λ z. holder_mine b p z
      ∙ ap (λ (f : ℕ → Bool). holds_zone b.start f p z) (fun_ext s.mine) ∙ ap (λ (x : StartView). holds_zone x (mine t p) p z) s.start
      ∙ sym (holder_mine t p z);
  idle = λ y on. idle_shown b y (b.own y).seat ∙ s.idle y on ∙ sym (idle_shown t y (t.own y).seat);
  chosen = s.chosen;
}

pub effect_agree : (b t : State) (p : ℕ) (step : Step) → Agree b t p (touches step.action) → effect b p step ≡ effect t p step
unfolding effect
effect_agree b t p step s =
    let r = reads b t p step.action s in
    let make : Own → Option ℕ → Effect = λ o alarm. record {
      own = o;
      frees = among (axes_freed alarm step.action);
      place = places_told step;
      calls = among (channels_started alarm step.action);
      selects = selects_program alarm step.action;
      program = program_selected step.action;
      on = has step.on;
    } in
    let own : own_after_act p (b.own p) ((after_own_part (board_of b) p step).marks p) ((after_own_part (board_of b) p step).state p) (touches step.action) (places_told step)
    ≡ own_after_act p (t.own p) ((after_own_part (board_of t) p step).marks p) ((after_own_part (board_of t) p step).state p) (touches step.action) (places_told step) =
    ap (λ (o : Own). own_after_act p o ((after_own_part (board_of b) p step).marks p) ((after_own_part (board_of b) p step).state p) (touches step.action) (places_told step)) s.own
    ∙ ap (λ (m : ℕ → Bool). own_after_act p (t.own p) m ((after_own_part (board_of b) p step).state p) (touches step.action) (places_told step)) (part_marks (board_of b) (board_of t) p step r)
    ∙ ap (λ (d : Doing). own_after_act p (t.own p) ((after_own_part (board_of t) p step).marks p) d (touches step.action) (places_told step)) (part_state (board_of b) (board_of t) p step r) in
    ap (λ (o : Own). make o (alarm_of (board_of b) p step.action)) own
    ∙ ap (λ (alarm : Option ℕ). make (own_after_act p (t.own p) ((after_own_part (board_of t) p step).marks p) ((after_own_part (board_of t) p step).state p) (touches step.action) (places_told step)) alarm)
    (alarm_same (board_of b) (board_of t) p step.action r)

changes : (p k : ℕ) (o : Own) (marks : ℕ → Bool) (state : Doing) (names : ℕ → Bool) (place : ℕ → ℤ) → MarkChange o (own_after_act p o marks state names place) k
unfolding own_after_act
changes p k o marks state names place = elim (cases_Bool (o.marks k)) [
  | inl old ↦ elim (cases_Bool (marks k)) [
    | inl new ↦ Stays (new ∙ sym old) (rw (new, old) refl) (rw (new, old) refl)
    | inr new ↦ Lowers old new (rw new refl) (rw (new, old) refl)
  ]
  | inr old ↦ elim (cases_Bool (marks k)) [
    | inl new ↦ Raises old new (rw (new, old) refl) (rw old refl)
    | inr new ↦ Stays (new ∙ sym old) (rw new refl) (rw old refl)
  ]
]

-- each step is an act
pub act_is : (b : State) (p : ℕ) (step : Step) → IsAct p (b.own p) (touches step.action) (effect b p step)
unfolding effect own_after_act
act_is b p step = record {
  count = refl;
  own_past = rw (eq-eqb p p refl) refl;
  past = λ x n. rw n refl;
  needs = λ d k. refl;
  took = λ a. refl;
  program = refl;
  mark = λ k. changes p k (b.own p) ((after_own_part (board_of b) p step).marks p) ((after_own_part (board_of b) p step).state p) (touches step.action) (places_told step);
  found_down = λ k y. (part_found (board_of b) p step k y).down;
  leaves_up = λ k y. (part_found (board_of b) p step k y).up;
  awake = part_awake (board_of b) p step;
  uncalled = λ r. in_no_call ((after_own_part (board_of b) p step).state p) r;
  named = λ y n. rw n refl;
  unnamed = λ y n. rw n refl;
  calls = λ y off. part_calls (alarm_of (board_of b) p step.action) step.action y off;
  selects = λ y off. part_selects (alarm_of (board_of b) p step.action) step.action y off;
}
