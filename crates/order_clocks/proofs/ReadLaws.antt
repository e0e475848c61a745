-- What the code reads of an act is what the board does.
use Rattle.std.proofs.Common.{◌≡◌, ℕ, ◌==◌, ◌&&◌, ◌||◌, not, Bool, true, false, inl, inr, Option, Some, None, refl, sym, ap, ◌∙◌, if◌then◌else◌}
use Rattle.std.specs.Prelude.{is_some}
use Rattle.std.proofs.lemmas.Bool.{cases_Bool, eqb-true, eq-eqb}
use Rattle.axis_sets.specs.Sets.{has, members_of}
use Rattle.order_clocks.specs.Happenings.{Happening, happening_of, hold_in}
use Rattle.order_clocks.specs.Watching.{wait_in, begun_shown, IsAct, IsNoAct, is_end}
use Rattle.order_clocks.specs.declared.acts.Act.{Act}
use Rattle.sync_types.proofs.BoardTests.{no_truth, passes, not_not}
use Rattle.sync_types.specs.BoardActions.{hold_of, marks_after, channels_to_start, channels_started, after_own_part, after_part, after_alarm, after_action, after_effects, marks_of_all, state_after_alarm, state_after_action, state_of_actor}
use Rattle.sync_types.specs.BoardAlarms.{alarm_of, names_no_mark, names_no_channel, names_no_axis, lets_go_of_others, splits_a_zone, finds_own_mark, finds_one_awake}
use Rattle.sync_types.specs.Boards.{Hold, State, IsIdle, IsRunning, HasAlarmed, Board, among, is_idle, is_running, has_ended, start_grant}
use Rattle.sync_types.specs.declared.Action.{Action}
use Rattle.sync_types.specs.declared.Action.TheVariants.{WaitM, SetM, ClearM, Init, Start, WaitE, Release, Get, End, Alarm}
use Rattle.sync_types.specs.declared.Step.{Step}

-- the action does not alarm
some_none : {A : Type 0} {x : A} → Some x ≡ None → ⊥
some_none e = no_truth false (ap is_some (sym e)) refl

past_test : (t : Bool) (k : ℕ) (rest : Option ℕ) → (if t then Some k else rest) ≡ None → (t ≡ false) × (rest ≡ None)
past_test true k rest e = absurd (some_none e)
past_test false k rest e = (refl, e)

pub no_alarm : (b : Board) (c : ℕ) (action : Action) → alarm_of b c action ≡ None → (names_no_mark action ≡ false) × (finds_one_awake b action ≡ false)
unfolding alarm_of
no_alarm b c action none =
    let one = past_test (names_no_mark action) 25 _ none in
    let two = past_test (names_no_channel b action) 24 _ one.1 in
    let three = past_test (names_no_axis b action) 14 _ two.1 in
    let four = past_test (lets_go_of_others b c action) 15 _ three.1 in
    let five = past_test (splits_a_zone b action) 31 _ four.1 in
    let six = past_test (finds_own_mark b c action) 26 _ five.1 in
    let seven = past_test (finds_one_awake b action) 27 _ six.1 in
    (one.0, seven.0)

pub named_channels_are : (b : Board) (c : ℕ) (action : Action) → alarm_of b c action ≡ None → names_no_channel b action ≡ false
unfolding alarm_of
named_channels_are b c action none = (past_test (names_no_channel b action) 24 _ (past_test (names_no_mark action) 25 _ none).1).0

pub started_idle : (b : Board) (action : Action) (d : ℕ) → finds_one_awake b action ≡ false → among (channels_to_start action) d ≡ true → is_idle (b.state d) ≡ true
started_idle b (Start named) d off on = passes (λ e. is_idle (b.state e)) (members_of named) d (not_not _ off) on
started_idle b other d off on = no_truth false on refl

-- a board's own part
pub part_alarms : (b : Board) (c : ℕ) (step : Step) (code : ℕ) → alarm_of b c step.action ≡ Some code → after_own_part b c step ≡ after_alarm b c step code
part_alarms b c step code e = ap (after_part b c step) e

pub part_acts : (b : Board) (c : ℕ) (step : Step) → alarm_of b c step.action ≡ None → after_own_part b c step ≡ after_action b c step
part_acts b c step e = ap (after_part b c step) e

-- own marks by the marks that stood
marks_alike : (p q : ℕ → Bool) (action : Action) (m : ℕ) → p m ≡ q m → marks_after p action m ≡ marks_after q action m
marks_alike p q (WaitM n named) m e = ap (λ (t : Bool). (m == n) || t) e
marks_alike p q (SetM marks) m e = ap (λ (t : Bool). has marks m || t) e
marks_alike p q (ClearM marks) m e = rw e refl
marks_alike p q (Init target program) m e = e
marks_alike p q (Start named) m e = e
marks_alike p q (WaitE named) m e = e
marks_alike p q (Release axes) m e = e
marks_alike p q (Get axes) m e = e
marks_alike p q End m e = e
marks_alike p q (Alarm code) m e = e

-- the state of the actor
pub actor_ends : (b : Board) (c line : ℕ) (action : Action) → has_ended (state_of_actor b c line action) ≡ is_end action
actor_ends b c line (WaitM n named) = refl
actor_ends b c line (SetM marks) = refl
actor_ends b c line (ClearM marks) = refl
actor_ends b c line (Init target program) = refl
actor_ends b c line (Start named) = refl
actor_ends b c line (WaitE named) = refl
actor_ends b c line (Release axes) = refl
actor_ends b c line (Get axes) = refl
actor_ends b c line End = refl
actor_ends b c line (Alarm code) = refl

-- a wait with its line
abbrev pub with_line : ℕ → Option Hold → Option (Hold × ℕ)
with_line line (Some hold) = Some (hold, line)
with_line line None = None

pub actor_waits : (b : Board) (c line : ℕ) (action : Action) → wait_in (state_of_actor b c line action) ≡ with_line line (hold_of c action)
actor_waits b c line (WaitM n named) = refl
actor_waits b c line (SetM marks) = refl
actor_waits b c line (ClearM marks) = refl
actor_waits b c line (Init target program) = refl
actor_waits b c line (Start named) = refl
actor_waits b c line (WaitE named) = refl
actor_waits b c line (Release axes) = refl
actor_waits b c line (Get axes) = refl
actor_waits b c line End = refl
actor_waits b c line (Alarm code) = refl

pub actor_begins : (b : Board) (c line : ℕ) (action : Action) → hold_in (state_of_actor b c line action) ≡ hold_of c action
actor_begins b c line (WaitM n named) = refl
actor_begins b c line (SetM marks) = refl
actor_begins b c line (ClearM marks) = refl
actor_begins b c line (Init target program) = refl
actor_begins b c line (Start named) = refl
actor_begins b c line (WaitE named) = refl
actor_begins b c line (Release axes) = refl
actor_begins b c line (Get axes) = refl
actor_begins b c line End = refl
actor_begins b c line (Alarm code) = refl

-- what the act of a step changes, as the code has it
pub record IsChange (act : Act) (h : Happening) : Type 0 where
  pub raises : (m : ℕ) → has act.raises m ≡ h.raises m
  pub lowers : (m : ℕ) → has act.lowers m ≡ h.lowers m
  pub frees : (x : ℕ) → has act.frees x ≡ among h.frees x
  pub starts : (d : ℕ) → has act.starts d ≡ among h.starts d
  pub ends : act.ends ≡ h.ends
  pub begins : begun_shown act.begins ≡ h.begins

here : (c : ℕ) {A : Type 0} (x y : A) → (if c == c then x else y) ≡ x
here c x y = rw (eq-eqb c c refl) refl

none_of : (t : Bool) → false ≡ (t && not t)
none_of true = refl
none_of false = refl

change_alarms : (b : Board) (c : ℕ) (step : Step) (code : ℕ) (act : Act) → alarm_of b c step.action ≡ Some code → IsNoAct act → IsChange act (happening_of b c step)
unfolding state_after_alarm
change_alarms b c step code act e none = rw e (record {
  raises = λ m. none.raises m ∙ none_of (b.marks c m);
  lowers = λ m. none.lowers m ∙ none_of (b.marks c m);
  frees = none.frees;
  starts = none.starts;
  ends = none.ends ∙ sym (ap has_ended (here c (HasAlarmed code step.line) (b.state c)));
  begins = none.begins ∙ sym (ap hold_in (here c (HasAlarmed code step.line) (b.state c)));
})

change_acts : (b : Board) (c : ℕ) (step : Step) (own : ℕ → Bool) (act : Act) → alarm_of b c step.action ≡ None → ((m : ℕ) → own m ≡ b.marks c m) → IsAct act c own step.action → IsChange act (happening_of b c step)
unfolding state_after_action marks_of_all
change_acts b c step own act e same is = rw e (record {
  raises = λ m. is.raises m ∙ rw (here c (marks_after (b.marks c) step.action m) (b.marks c m), same m, marks_alike own (b.marks c) step.action m (same m)) refl;
  lowers = λ m. is.lowers m ∙ rw (here c (marks_after (b.marks c) step.action m) (b.marks c m), same m, marks_alike own (b.marks c) step.action m (same m)) refl;
  frees = is.frees;
  starts = is.starts;
  ends = is.ends ∙ sym (ap has_ended (here c _ _) ∙ actor_ends (after_effects b c step) c step.line step.action);
  begins = is.begins ∙ sym (ap hold_in (here c _ _) ∙ actor_begins (after_effects b c step) c step.line step.action);
})

-- in either case
pub changes_are : (b : Board) (c : ℕ) (step : Step) (own : ℕ → Bool) (act : Act) (alarms : Bool) → alarms ≡ is_some (alarm_of b c step.action) → ((m : ℕ) → own m ≡ b.marks c m)
    → (alarms ≡ true → IsNoAct act) → (alarms ≡ false → names_no_mark step.action ≡ false → IsAct act c own step.action) → IsChange act (happening_of b c step)
changes_are b c step own act alarms is same none acts = by_alarm (alarm_of b c step.action) refl
  where
    by_alarm : (a : Option ℕ) → alarm_of b c step.action ≡ a → IsChange act (happening_of b c step)
    by_alarm (Some code) e = change_alarms b c step code act e (none (is ∙ ap is_some e))
    by_alarm None e = change_acts b c step own act e same (acts (is ∙ ap is_some e) (no_alarm b c step.action e).0)

-- the waits after the own part
not_idle : (t : State) → is_running t ≡ true → is_idle t ≡ false
not_idle (IsRunning grant) on = refl
not_idle other on = no_truth false on refl

idle_waits : (s : State) → is_idle s ≡ true → wait_in s ≡ None
idle_waits IsIdle on = refl
idle_waits other on = no_truth false on refl

pub running_waits : (s : State) → is_running s ≡ true → wait_in s ≡ None
running_waits (IsRunning grant) on = refl
running_waits other on = no_truth false on refl

alarmed_part : (b : Board) (c : ℕ) (step : Step) (code d : ℕ) → alarm_of b c step.action ≡ Some code
    → wait_in ((after_own_part b c step).state d) ≡ (if d == c then with_line step.line (happening_of b c step).begins else wait_in (b.state d))
unfolding state_after_alarm
alarmed_part b c step code d e = rw e (by_case (d == c) (c == c) (eq-eqb c c refl))
  where
    by_case : (t u : Bool) → u ≡ true → wait_in (if t then HasAlarmed code step.line else b.state d) ≡ (if t then with_line step.line (hold_in (if u then HasAlarmed code step.line else b.state c)) else wait_in (b.state d))
    by_case true u on = rw on refl
    by_case false u on = refl

acted_part : (b : Board) (c : ℕ) (step : Step) (d : ℕ) → alarm_of b c step.action ≡ None
    → wait_in ((after_own_part b c step).state d) ≡ (if d == c then with_line step.line (happening_of b c step).begins else wait_in (b.state d))
unfolding state_after_action
acted_part b c step d e = rw e (by_case (d == c) (among (channels_to_start step.action) d) (c == c) (eq-eqb c c refl) (λ on. idle_waits (b.state d) (started_idle b step.action d (no_alarm b c step.action e).1 on)))
  where
    by_case : (t s u : Bool) → u ≡ true → (s ≡ true → wait_in (b.state d) ≡ None)
        → wait_in (if t then state_of_actor (after_effects b c step) c step.line step.action else (if s then IsRunning (start_grant (after_effects b c step) d) else b.state d))
        ≡ (if t then with_line step.line (hold_in (if u then state_of_actor (after_effects b c step) c step.line step.action else (if among (channels_to_start step.action) c then IsRunning (start_grant (after_effects b c step) c) else b.state c))) else wait_in (b.state d))
    by_case true s u on idle = rw on (actor_waits (after_effects b c step) c step.line step.action ∙ sym (ap (with_line step.line) (actor_begins (after_effects b c step) c step.line step.action)))
    by_case false true u on idle = sym (idle refl)
    by_case false false u on idle = refl

pub part_waits : (b : Board) (c : ℕ) (step : Step) (d : ℕ) → wait_in ((after_own_part b c step).state d) ≡ (if d == c then with_line step.line (happening_of b c step).begins else wait_in (b.state d))
part_waits b c step d = by_alarm (alarm_of b c step.action) refl
  where
    by_alarm : (a : Option ℕ) → alarm_of b c step.action ≡ a → wait_in ((after_own_part b c step).state d) ≡ (if d == c then with_line step.line (happening_of b c step).begins else wait_in (b.state d))
    by_alarm (Some code) e = alarmed_part b c step code d e
    by_alarm None e = acted_part b c step d e

pub started_waits : (b : Board) (c : ℕ) (step : Step) (s : ℕ) → is_running (b.state c) ≡ true → among (channels_started (alarm_of b c step.action) step.action) s ≡ true → wait_in ((after_own_part b c step).state s) ≡ None
started_waits b c step s running on = by_alarm (alarm_of b c step.action) refl
  where
    by_alarm : (a : Option ℕ) → alarm_of b c step.action ≡ a → wait_in ((after_own_part b c step).state s) ≡ None
    by_alarm (Some code) e = no_truth false (rw e at on) refl
    by_alarm None e =
        let idle = started_idle b step.action s (no_alarm b c step.action e).1 (rw e at on) in
        part_waits b c step s ∙ elim (cases_Bool (s == c)) [
          | inl same ↦ no_truth (is_idle (b.state c)) (rw (eqb-true s c same) at idle) (not_idle (b.state c) running)
          | inr other ↦ rw other (idle_waits (b.state s) idle)
        ]

-- the marks after the own part
pub part_marks : (b : Board) (c : ℕ) (step : Step) (d m : ℕ) → (d == c) ≡ false → (after_own_part b c step).marks d m ≡ b.marks d m
unfolding marks_of_all
part_marks b c step d m other = by_alarm (alarm_of b c step.action) refl
  where
    by_alarm : (a : Option ℕ) → alarm_of b c step.action ≡ a → (after_own_part b c step).marks d m ≡ b.marks d m
    by_alarm (Some code) e = rw e refl
    by_alarm None e = rw (e, other) refl
