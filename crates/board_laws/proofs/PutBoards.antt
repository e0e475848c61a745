-- The own part of a step on the board of a machine.
use Rattle.std.proofs.Math.Path.{fun_ext}
use Rattle.std.proofs.Common.{◌≡◌, ℕ, ℤ, ◌==◌, ◌&&◌, Bool, true, false, Option, None, Some, inl, inr, refl, sym, ap, ◌∙◌, if◌then◌else◌}
use Rattle.std.proofs.lemmas.Bool.{cases_Bool, eqb-true, true≢false}
use Rattle.std.specs.List.{list_all}
use Rattle.axis_sets.specs.Sets.{has, members_of}
use Rattle.axis_sets.specs.Positions.{position_of}
use Rattle.sync_types.proofs.BoardTests.{passes, not_not}
use Rattle.sync_types.specs.BoardActions.{axes_to_free, channels_to_start, channels_started, position_or_zero, program_after, is_on_after, last_position_after, state_after_alarm, state_after_action, marks_of_all, ownership_after, after_effects, after_part, after_own_part}
use Rattle.sync_types.specs.BoardAlarms.{alarm_of}
use Rattle.sync_types.specs.Boards.{IsIdle, IsRunning, State as Doing, Ownership, OwnedBy, FreeAt, Board, among, is_this, owner_of, ownership_of, owns, positions_where}
use Rattle.sync_types.specs.Boards as boards
use Rattle.sync_types.specs.Starts.{first_position}
use Rattle.sync_types.specs.declared.Action.{Action}
use Rattle.sync_types.specs.declared.Action.TheVariants.{Init, Start, Release}
use Rattle.sync_types.specs.declared.Step.{Step}
use Rattle.board_laws.specs.Machine.{Call, Seat, In, Called, Own, Cell, State, Effect, asks, is_idle, is_running, mine, axes_then_owned, holds_zone, grant_by, places_of, grant_at_go, own_after_call, cell_after_release, put_own, put_axis, put_on, with_effect, doing_of, board_of, own_after_act, axes_freed, selects_program, program_selected, places_told, effect}
use Rattle.board_laws.specs.Zones.{Zones}
use Rattle.board_laws.proofs.Basics.{no, called_self}
use Rattle.board_laws.proofs.Parts.{put_same, put_other, touched_off, touched_kept}
use Rattle.board_laws.proofs.Footprint.{NoAlarm, no_alarm}
use Rattle.board_laws.proofs.Actions.{owner_is, owns_mine, holder_mine, idle_shown}
use Rattle.board_laws.proofs.Zones.{grant_told, zones_effects, zones_part}
use Rattle.board_laws.proofs.Shown.{eqb_turned, is_called}
use Rattle.board_laws.proofs.SettledBoards.{board_eq, holder_by_axes}

on_told : (t : State) (p : ℕ) (step : Step) (z : ℕ) → (effect t p step).on z ≡ has step.on z
unfolding effect
on_told t p step z = refl

called_granted : (u : State) (c : ℕ) (o : Own) (p : ℕ) → o.seat ≡ Called p → grant_at_go u c o ≡ grant_by u.start c (mine u c) (positions_where (mine u c) (first_position u.start)) u.on o.program
unfolding grant_at_go axes_then_owned places_of asks
called_granted u c o p seat = ap (λ (s : Seat). grant_by u.start c (axes_then_owned u c s) (places_of u c s) u.on o.program) seat

-- an effect by its alarm
record ByAlarm (t : State) (p : ℕ) (step : Step) (alarm : Option ℕ) : Type 0 where
  pub is : alarm_of (board_of t) p step.action ≡ alarm
  pub frees : (x : ℕ) → (effect t p step).frees x ≡ among (axes_freed alarm step.action) x
  pub calls : (c : ℕ) → (effect t p step).calls c ≡ among (channels_started alarm step.action) c
  pub selects : (c : ℕ) → (effect t p step).selects c ≡ selects_program alarm step.action c
  pub program : (effect t p step).program ≡ program_selected step.action
  pub place : (x : ℕ) → (effect t p step).place x ≡ position_or_zero (position_of step.at x)
  pub on : (z : ℕ) → (effect t p step).on z ≡ has step.on z

by_alarm : (t : State) (p : ℕ) (step : Step) (alarm : Option ℕ) → alarm_of (board_of t) p step.action ≡ alarm → ByAlarm t p step alarm
unfolding effect
by_alarm t p step alarm e = record {
  is = e;
  frees = λ x. ap (λ (a : Option ℕ). among (axes_freed a step.action) x) e;
  calls = λ c. ap (λ (a : Option ℕ). among (channels_started a step.action) c) e;
  selects = λ c. ap (λ (a : Option ℕ). selects_program a step.action c) e;
  program = refl;
  place = λ x. refl;
  on = λ z. refl;
}

own_marks : (t : State) (p : ℕ) (step : Step) → (effect t p step).own.marks ≡ (after_own_part (board_of t) p step).marks p
unfolding effect own_after_act
own_marks t p step = refl

own_seat : (t : State) (p : ℕ) (step : Step) → (effect t p step).own.seat ≡ In ((after_own_part (board_of t) p step).state p)
unfolding effect own_after_act
own_seat t p step = refl

own_last_position : (t : State) (p : ℕ) (step : Step) → (effect t p step).own.last_position ≡ places_told step
unfolding effect own_after_act
own_last_position t p step = refl

own_program : (t : State) (p : ℕ) (step : Step) → (effect t p step).own.program ≡ (t.own p).program
unfolding effect own_after_act
own_program t p step = refl

-- what an action does without an alarm
starts_idle : (b : Board) (p : ℕ) (action : Action) (c : ℕ) → NoAlarm b p action → among (channels_to_start action) c ≡ true → boards.is_idle (b.state c) ≡ true
starts_idle b p (Start named) c w on = passes (λ d. boards.is_idle (b.state d)) (members_of named) c (not_not (list_all (λ d. boards.is_idle (b.state d)) (members_of named)) w.awake) on
starts_idle b p other c w on = absurd (true≢false (sym on))

selects_idle : (b : Board) (p : ℕ) (action : Action) (c : ℕ) → NoAlarm b p action → selects_program None action c ≡ true → boards.is_idle (b.state c) ≡ true
selects_idle b p (Init target program) c w on = ap (λ (d : ℕ). boards.is_idle (b.state d)) (sym (eqb-true target c on)) ∙ not_not (boards.is_idle (b.state target)) w.awake
selects_idle b p other c w on = absurd (true≢false (sym on))

frees_own : (b : Board) (p : ℕ) (action : Action) (x : ℕ) → NoAlarm b p action → among (axes_to_free action) x ≡ true → owns b p x ≡ true
frees_own b p (Release axes) x w on = passes (owns b p) (members_of axes) x (not_not (list_all (owns b p) (members_of axes)) w.own) on
frees_own b p other x w on = absurd (true≢false (sym on))

program_told : (action : Action) (c : ℕ) (old : Option ℕ) → program_after action c old ≡ (if selects_program None action c then program_selected action else old)
program_told (Init target program) c old = ap (λ (b : Bool). if b then Some program else old) (eqb_turned c target)
program_told other c old = refl

selects_not_calls : (action : Action) (c : ℕ) → selects_program None action c ≡ true → among (channels_to_start action) c ≡ false
selects_not_calls (Init target program) c on = refl
selects_not_calls other c on = absurd (true≢false (sym on))

-- marks
others_marks : (t : State) (p : ℕ) (step : Step) (c m : ℕ) → (c == p) ≡ false → marks_of_all (board_of t) p step c m ≡ (t.own c).marks m
unfolding marks_of_all
others_marks t p step c m n = rw n refl

marks_put : (t : State) (p : ℕ) (step : Step) (c m : ℕ) → (after_own_part (board_of t) p step).marks c m ≡ (put_own t p (effect t p step) c).marks m
marks_put t p step c m = elim (cases_Bool (c == p)) [
  | inl i ↦
      let s : c ≡ p = eqb-true c p i in
      ap (λ (d : ℕ). (after_own_part (board_of t) p step).marks d m) s
      ∙ sym (ap (λ (d : ℕ). (put_own t p (effect t p step) d).marks m) s ∙ ap (λ (o : Own). o.marks m) (put_same t p (effect t p step)) ∙ ap (λ (f : ℕ → Bool). f m) (own_marks t p step))
  | inr n ↦
      go (alarm_of (board_of t) p step.action) n
      ∙ sym (ap (λ (o : Own). o.marks m) (put_other t p (effect t p step) c n) ∙ ap (λ (f : ℕ → Bool). f m) (touched_kept (effect t p step) p c (t.own c)).marks)
]
  where
    go : (alarm : Option ℕ) → (c == p) ≡ false → (after_part (board_of t) p step alarm).marks c m ≡ (t.own c).marks m
    go (Some code) n = refl
    go None n = others_marks t p step c m n

-- a channel that is touched
select_touched : (e : Effect) (p c : ℕ) (o : Own) → e.calls c ≡ false → e.selects c ≡ true → is_idle o.seat ≡ true → (own_after_call e p c o).program ≡ e.program
unfolding own_after_call
select_touched e p c o calls selects idle = rw (calls, selects, idle) refl

keep_touched : (e : Effect) (p c : ℕ) (o : Own) → e.selects c ≡ false → (own_after_call e p c o).program ≡ o.program
unfolding own_after_call
keep_touched e p c o selects = elim (cases_Bool (e.calls c && is_idle o.seat)) [ inl y ↦ rw y refl | inr n ↦ rw (n, selects) refl ]

call_touched : (e : Effect) (p c : ℕ) (o : Own) → e.calls c ≡ true → is_idle o.seat ≡ true → (own_after_call e p c o).seat ≡ Called p
unfolding own_after_call
call_touched e p c o calls idle = rw (calls, idle) refl

uncalled_touched : (e : Effect) (p c : ℕ) (o : Own) → e.calls c ≡ false → (own_after_call e p c o).seat ≡ o.seat
unfolding own_after_call
uncalled_touched e p c o calls = elim (cases_Bool (e.selects c && is_idle o.seat)) [ inl y ↦ rw (calls, y) refl | inr n ↦ rw (calls, n) refl ]

runs_awake : (s : Seat) → is_running s ≡ true → is_idle s ≡ false
runs_awake (In (IsRunning g)) r = refl
runs_awake s r = absurd (true≢false (sym r))

-- programs
program_put : (t : State) (p : ℕ) (step : Step) (c : ℕ) → is_running (t.own p).seat ≡ true → (after_own_part (board_of t) p step).program c ≡ (put_own t p (effect t p step) c).program
program_put t p step c run = go (alarm_of (board_of t) p step.action) (by_alarm t p step (alarm_of (board_of t) p step.action) refl)
  where
    here : (c == p) ≡ true → (put_own t p (effect t p step) c).program ≡ (t.own c).program
    here i =
        let s : c ≡ p = eqb-true c p i in
        ap (λ (d : ℕ). (put_own t p (effect t p step) d).program) s ∙ ap (λ (o : Own). o.program) (put_same t p (effect t p step)) ∙ own_program t p step ∙ ap (λ (d : ℕ). (t.own d).program) (sym s)

    go : (alarm : Option ℕ) → ByAlarm t p step alarm → (after_part (board_of t) p step alarm).program c ≡ (put_own t p (effect t p step) c).program
    go (Some code) w = elim (cases_Bool (c == p)) [
      | inl i ↦ sym (here i)
      | inr n ↦ sym (ap (λ (o : Own). o.program) (put_other t p (effect t p step) c n ∙ touched_off (effect t p step) p c (t.own c) (w.calls c) (w.selects c)))
    ]
    go None w =
        let none = no_alarm (board_of t) p step.action w.is in
        program_told step.action c (t.own c).program ∙ elim (cases_Bool (selects_program None step.action c)) [
          | inl on ↦
              let idle : is_idle (t.own c).seat ≡ true = sym (idle_shown t c (t.own c).seat) ∙ selects_idle (board_of t) p step.action c none on in
              elim (cases_Bool (c == p)) [
                | inl i ↦ no (ap (λ (d : ℕ). is_idle (t.own d).seat) (sym (eqb-true c p i)) ∙ idle) (runs_awake (t.own p).seat run)
                | inr n ↦
                    ap (λ (b : Bool). if b then program_selected step.action else (t.own c).program) on
                    ∙ sym (ap (λ (o : Own). o.program) (put_other t p (effect t p step) c n)
                    ∙ select_touched (effect t p step) p c (t.own c) (w.calls c ∙ selects_not_calls step.action c on) (w.selects c ∙ on) idle ∙ w.program)
              ]
          | inr off ↦
              ap (λ (b : Bool). if b then program_selected step.action else (t.own c).program) off ∙ sym (elim (cases_Bool (c == p)) [
                | inl i ↦ here i
                | inr n ↦ ap (λ (o : Own). o.program) (put_other t p (effect t p step) c n) ∙ keep_touched (effect t p step) p c (t.own c) (w.selects c ∙ off)
              ])
        ]

-- where axes stood last
told_here : (t : State) (p : ℕ) (step : Step) (c x : ℕ) → (c == p) ≡ true → last_position_after (board_of t) p step c x ≡ places_told step x
unfolding last_position_after
told_here t p step c x i = rw i refl

told_other : (t : State) (p : ℕ) (step : Step) (c x : ℕ) → (c == p) ≡ false → last_position_after (board_of t) p step c x ≡ (t.own c).last_position x
unfolding last_position_after
told_other t p step c x n = rw n refl

last_position_put : (t : State) (p : ℕ) (step : Step) (c x : ℕ) → (after_own_part (board_of t) p step).last_position c x ≡ (put_own t p (effect t p step) c).last_position x
last_position_put t p step c x = go (alarm_of (board_of t) p step.action) ∙ elim (cases_Bool (c == p)) [
  | inl i ↦
      told_here t p step c x i
      ∙ sym (ap (λ (d : ℕ). (put_own t p (effect t p step) d).last_position x) (eqb-true c p i) ∙ ap (λ (o : Own). o.last_position x) (put_same t p (effect t p step)) ∙ ap (λ (f : ℕ → ℤ). f x) (own_last_position t p step))
  | inr n ↦
      told_other t p step c x n
      ∙ sym (ap (λ (o : Own). o.last_position x) (put_other t p (effect t p step) c n) ∙ ap (λ (f : ℕ → ℤ). f x) (touched_kept (effect t p step) p c (t.own c)).last_position)
]
  where
    go : (alarm : Option ℕ) → (after_part (board_of t) p step alarm).last_position c x ≡ last_position_after (board_of t) p step c x
    go (Some code) = refl
    go None = refl

-- axes
cell_kept : (t : State) (p : ℕ) (e : Effect) (x : ℕ) → e.frees x ≡ false → put_axis t p e x ≡ t.axis x
unfolding put_axis
cell_kept t p e x off = rw off refl

cell_freed : (t : State) (p : ℕ) (e : Effect) (x : ℕ) → e.frees x ≡ true → mine t p x ≡ true → ownership_of (put_axis t p e x).owner (put_axis t p e x).position ≡ FreeAt (e.place x)
unfolding put_axis cell_after_release
cell_freed t p e x on own = rw (on, own) refl

freed_axis : (t : State) (step : Step) (x : ℕ) → among (axes_to_free step.action) x ≡ true → ownership_after (board_of t) step x ≡ FreeAt (position_or_zero (position_of step.at x))
unfolding ownership_after
freed_axis t step x on = rw on refl

kept_axis : (t : State) (step : Step) (x : ℕ) → among (axes_to_free step.action) x ≡ false → ownership_after (board_of t) step x ≡ (board_of t).axis x
unfolding ownership_after
kept_axis t step x off = rw off refl

axis_put : (t : State) (p : ℕ) (step : Step) (x : ℕ) → (after_own_part (board_of t) p step).axis x ≡ ownership_of (put_axis t p (effect t p step) x).owner (put_axis t p (effect t p step) x).position
axis_put t p step x = go (alarm_of (board_of t) p step.action) (by_alarm t p step (alarm_of (board_of t) p step.action) refl)
  where
    go : (alarm : Option ℕ) → ByAlarm t p step alarm → (after_part (board_of t) p step alarm).axis x ≡ ownership_of (put_axis t p (effect t p step) x).owner (put_axis t p (effect t p step) x).position
    go (Some code) w = sym (ap (λ (z : Cell). ownership_of z.owner z.position) (cell_kept t p (effect t p step) x (w.frees x)))
    go None w = elim (cases_Bool (among (axes_to_free step.action) x)) [
      | inl on ↦
          let own : mine t p x ≡ true = sym (owns_mine t p x) ∙ frees_own (board_of t) p step.action x (no_alarm (board_of t) p step.action w.is) on in
          freed_axis t step x on ∙ ap FreeAt (sym (w.place x)) ∙ sym (cell_freed t p (effect t p step) x (w.frees x ∙ on) own)
      | inr off ↦ kept_axis t step x off ∙ sym (ap (λ (z : Cell). ownership_of z.owner z.position) (cell_kept t p (effect t p step) x (w.frees x ∙ off)))
    ]

-- zones
told : (t : State) (p : ℕ) (step : Step) (z : ℕ) → is_on_after (board_of t) p step z ≡ put_on t p (effect t p step) z
unfolding is_on_after put_on
told t p step z = elim (cases_Bool (holds_zone t.start (mine t p) p z)) [
  | inl y ↦ rw (holder_mine t p z, y) (sym (on_told t p step z))
  | inr n ↦ rw (holder_mine t p z, n) refl
]

on_put : (t : State) (p : ℕ) (step : Step) (z : ℕ) → (after_own_part (board_of t) p step).is_on z ≡ put_on t p (effect t p step) z
on_put t p step z = go (alarm_of (board_of t) p step.action) ∙ told t p step z
  where
    go : (alarm : Option ℕ) → (after_part (board_of t) p step alarm).is_on z ≡ is_on_after (board_of t) p step z
    go (Some code) = refl
    go None = refl

start_part : (b : Board) (p : ℕ) (step : Step) (alarm : Option ℕ) → (after_part b p step alarm).start ≡ b.start
start_part b p step (Some code) = refl
start_part b p step None = refl

-- what each channel does
alarm_other : (t : State) (p : ℕ) (step : Step) (code c : ℕ) → (c == p) ≡ false → state_after_alarm (board_of t) p step code c ≡ doing_of t c (t.own c).seat
unfolding state_after_alarm
alarm_other t p step code c n = rw n refl

action_starts : (t : State) (p : ℕ) (step : Step) (c : ℕ) → (c == p) ≡ false → among (channels_to_start step.action) c ≡ true
    → state_after_action (after_effects (board_of t) p step) p step c ≡ IsRunning (boards.start_grant (after_effects (board_of t) p step) c)
unfolding state_after_action
action_starts t p step c n on = rw (n, on) refl

action_other : (t : State) (p : ℕ) (step : Step) (c : ℕ) → (c == p) ≡ false → among (channels_to_start step.action) c ≡ false
    → state_after_action (after_effects (board_of t) p step) p step c ≡ doing_of t c (t.own c).seat
unfolding state_after_action
action_other t p step c n off = rw (n, off) refl

-- who is started goes on with what the machine gives
starts_with : (t : State) (p : ℕ) (step : Step) (c : ℕ) → is_running (t.own p).seat ≡ true → NoAlarm (board_of t) p step.action → Zones (board_of t) → alarm_of (board_of t) p step.action ≡ None
    → (put_own t p (effect t p step) c).seat ≡ Called p → boards.start_grant (after_effects (board_of t) p step) c ≡ grant_at_go (with_effect t p (effect t p step)) c (put_own t p (effect t p step) c)
unfolding boards.start_grant
starts_with t p step c run none zs is seat =
    let b : Board = after_effects (board_of t) p step in
    let u : State = with_effect t p (effect t p step) in
    let own : (x : ℕ) → owns b c x ≡ mine u c x = λ x.
    ap (λ (a : Ownership). is_this (owner_of a) c) (ap (λ (a : Option ℕ). (after_part (board_of t) p step a).axis x) (sym is) ∙ axis_put t p step x)
    ∙ ap (λ (o : Option ℕ). is_this o c) (owner_is (put_axis t p (effect t p step) x).owner (put_axis t p (effect t p step) x).position) in
    let on : (z : ℕ) → b.is_on z ≡ u.on z = λ z. told t p step z in
    let program : b.program c ≡ (put_own t p (effect t p step) c).program = ap (λ (a : Option ℕ). (after_part (board_of t) p step a).program c) (sym is) ∙ program_put t p step c run in
    grant_told b (zones_effects (board_of t) p step none.whole zs) c (positions_where (owns b c) (first_position t.start))
    ∙ ap (λ (f : ℕ → Bool). grant_by t.start c f (positions_where f (first_position t.start)) b.is_on (b.program c)) (fun_ext own)
    ∙ ap (λ (f : ℕ → Bool). grant_by t.start c (mine u c) (positions_where (mine u c) (first_position t.start)) f (b.program c)) (fun_ext on)
    ∙ ap (λ (o : Option ℕ). grant_by t.start c (mine u c) (positions_where (mine u c) (first_position t.start)) u.on o) program
    ∙ sym (called_granted u c (put_own t p (effect t p step) c) p seat)

state_put : (t : State) (p : ℕ) (step : Step) (c : ℕ) → is_running (t.own p).seat ≡ true → Zones (board_of t) → ((d r : ℕ) → asks (t.own d).seat (Call r) ≡ false)
    → (after_own_part (board_of t) p step).state c ≡ doing_of (with_effect t p (effect t p step)) c (put_own t p (effect t p step) c).seat
state_put t p step c run zs uncalled = elim (cases_Bool (c == p)) [
  | inl i ↦
      let s : c ≡ p = eqb-true c p i in
      ap (λ (d : ℕ). (after_own_part (board_of t) p step).state d) s
      ∙ sym (ap (λ (d : ℕ). doing_of (with_effect t p (effect t p step)) d (put_own t p (effect t p step) d).seat) s
      ∙ ap (λ (x : Seat). doing_of (with_effect t p (effect t p step)) p x) (ap (λ (o : Own). o.seat) (put_same t p (effect t p step)) ∙ own_seat t p step))
  | inr n ↦ go (alarm_of (board_of t) p step.action) (by_alarm t p step (alarm_of (board_of t) p step.action) refl) n
]
  where
    still : (x : Seat) → (t.own c).seat ≡ x → (put_own t p (effect t p step) c).seat ≡ x → doing_of t c (t.own c).seat ≡ doing_of (with_effect t p (effect t p step)) c (put_own t p (effect t p step) c).seat
    still (In state) e f = ap (λ (x : Seat). doing_of t c x) e ∙ sym (ap (λ (x : Seat). doing_of (with_effect t p (effect t p step)) c x) f)
    still (Called r) e f = no (ap (λ (x : Seat). asks x (Call r)) e ∙ called_self r) (uncalled c r)

    go : (alarm : Option ℕ) → ByAlarm t p step alarm → (c == p) ≡ false → (after_part (board_of t) p step alarm).state c ≡ doing_of (with_effect t p (effect t p step)) c (put_own t p (effect t p step) c).seat
    go (Some code) w n =
        alarm_other t p step code c n
        ∙ still (t.own c).seat refl (ap (λ (o : Own). o.seat) (put_other t p (effect t p step) c n ∙ touched_off (effect t p step) p c (t.own c) (w.calls c) (w.selects c)))
    go None w n =
        let none = no_alarm (board_of t) p step.action w.is in
        elim (cases_Bool (among (channels_to_start step.action) c)) [
          | inl on ↦
              let idle : is_idle (t.own c).seat ≡ true = sym (idle_shown t c (t.own c).seat) ∙ starts_idle (board_of t) p step.action c none on in
              let seat : (put_own t p (effect t p step) c).seat ≡ Called p = ap (λ (o : Own). o.seat) (put_other t p (effect t p step) c n) ∙ call_touched (effect t p step) p c (t.own c) (w.calls c ∙ on) idle in
              action_starts t p step c n on ∙ ap IsRunning (starts_with t p step c run none zs w.is seat) ∙ sym (ap (λ (x : Seat). doing_of (with_effect t p (effect t p step)) c x) seat)
          | inr off ↦
              action_other t p step c n off
              ∙ still (t.own c).seat refl (ap (λ (o : Own). o.seat) (put_other t p (effect t p step) c n) ∙ uncalled_touched (effect t p step) p c (t.own c) (w.calls c ∙ off))
        ]

-- the own part of a step on the board of a machine is that of the machine
pub put_board : (t : State) (p : ℕ) (step : Step) → is_running (t.own p).seat ≡ true → ((d r : ℕ) → asks (t.own d).seat (Call r) ≡ false) → Zones (board_of t)
    → after_own_part (board_of t) p step ≡ board_of (with_effect t p (effect t p step))
put_board t p step run uncalled zs =
    let start : (after_own_part (board_of t) p step).start ≡ t.start = start_part (board_of t) p step (alarm_of (board_of t) p step.action) in
    board_eq (after_own_part (board_of t) p step) (board_of (with_effect t p (effect t p step))) start
    (λ c m. marks_put t p step c m)
    (λ c. state_put t p step c run zs uncalled)
    (λ c. program_put t p step c run)
    (λ c x. last_position_put t p step c x)
    (λ x. axis_put t p step x)
    (holder_by_axes (after_own_part (board_of t) p step) (with_effect t p (effect t p step)) (zones_part (board_of t) p step zs) start (λ x. axis_put t p step x))
    (λ z. on_put t p step z)

-- who is started is called
pub starts_called : (t : State) (p : ℕ) (step : Step) (c : ℕ) → is_running (t.own p).seat ≡ true → ((d r : ℕ) → asks (t.own d).seat (Call r) ≡ false)
    → among (channels_started (alarm_of (board_of t) p step.action) step.action) c ≡ is_called (put_own t p (effect t p step) c).seat
starts_called t p step c run uncalled = go (alarm_of (board_of t) p step.action) (by_alarm t p step (alarm_of (board_of t) p step.action) refl)
  where
    not_called : (s : Seat) → ((r : ℕ) → asks s (Call r) ≡ false) → is_called s ≡ false
    not_called (In state) each = refl
    not_called (Called q) each = no (called_self q) (each q)

    here : (c == p) ≡ true → is_called (put_own t p (effect t p step) c).seat ≡ false
    here i = ap (λ (d : ℕ). is_called (put_own t p (effect t p step) d).seat) (eqb-true c p i) ∙ ap (λ (s : Seat). is_called s) (ap (λ (o : Own). o.seat) (put_same t p (effect t p step)) ∙ own_seat t p step)

    still : (c == p) ≡ false → (effect t p step).calls c ≡ false → is_called (put_own t p (effect t p step) c).seat ≡ false
    still n off = ap (λ (s : Seat). is_called s) (ap (λ (o : Own). o.seat) (put_other t p (effect t p step) c n) ∙ uncalled_touched (effect t p step) p c (t.own c) off) ∙ not_called (t.own c).seat (uncalled c)

    go : (alarm : Option ℕ) → ByAlarm t p step alarm → among (channels_started alarm step.action) c ≡ is_called (put_own t p (effect t p step) c).seat
    go (Some code) w = sym (elim (cases_Bool (c == p)) [ inl i ↦ here i | inr n ↦ still n (w.calls c) ])
    go None w = elim (cases_Bool (among (channels_to_start step.action) c)) [
      | inl on ↦
          let idle : is_idle (t.own c).seat ≡ true = sym (idle_shown t c (t.own c).seat) ∙ starts_idle (board_of t) p step.action c (no_alarm (board_of t) p step.action w.is) on in
          elim (cases_Bool (c == p)) [
            | inl i ↦ no (ap (λ (d : ℕ). is_idle (t.own d).seat) (sym (eqb-true c p i)) ∙ idle) (runs_awake (t.own p).seat run)
            | inr n ↦ on ∙ sym (ap (λ (s : Seat). is_called s) (ap (λ (o : Own). o.seat) (put_other t p (effect t p step) c n) ∙ call_touched (effect t p step) p c (t.own c) (w.calls c ∙ on) idle))
          ]
      | inr off ↦ off ∙ sym (elim (cases_Bool (c == p)) [ inl i ↦ here i | inr n ↦ still n (w.calls c ∙ off) ])
    ]

-- what is let go is the channel's own
pub frees_mine : (t : State) (p : ℕ) (step : Step) (x : ℕ) → (effect t p step).frees x ≡ true → mine t p x ≡ true
frees_mine t p step x on = go (alarm_of (board_of t) p step.action) (by_alarm t p step (alarm_of (board_of t) p step.action) refl)
  where
    go : (alarm : Option ℕ) → ByAlarm t p step alarm → mine t p x ≡ true
    go (Some code) w = no on (w.frees x)
    go None w = sym (owns_mine t p x) ∙ frees_own (board_of t) p step.action x (no_alarm (board_of t) p step.action w.is) (sym (w.frees x) ∙ on)
