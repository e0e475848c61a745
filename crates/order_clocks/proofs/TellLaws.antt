-- What the code keeps of waits and marks stays what the board has.
use Rattle.axis_sets.specs.declared.limits.TheConstants.{AXIS_LIMIT}
use Rattle.std.proofs.Common.{◌≡◌, ℕ, ◌<◌, ◌==◌, ◌&&◌, ◌||◌, not, Bool, true, false, inl, inr, List, [], ◌∷◌, map, Option, Some, None, refl, sym, ap, ◌∙◌, arith, if◌then◌else◌}
use Rattle.std.specs.Prelude.{is_some, option_map, slice_index_or}
use Rattle.std.proofs.lemmas.Bool.{cases_Bool, cases_lt, eqb-true, eq-eqb}
use Rattle.std.proofs.Math.ListN.{get_or-eq_default}
use Rattle.axis_sets.specs.Positions.{position_of}
use Rattle.axis_sets.specs.Sets.{has}
use Rattle.axis_sets.proofs.SetLaws.{list_any-members_of}
use Rattle.order_clocks.specs.Chains.{IsIn}
use Rattle.order_clocks.specs.Happenings.{happening_of, going_of}
use Rattle.order_clocks.specs.Reading.{IsOnlyOne}
use Rattle.order_clocks.specs.Watching.{Keeps, GoesFrom, IsGone, IsGoingOf, WaitIsSound, begun_at, begun_shown, go_in, wait_in, wait_shown}
use Rattle.order_clocks.specs.declared.acts.Act.{Act}
use Rattle.step_deeds.specs.declared.deed.Wakeup.{Wakeup}
use Rattle.step_deeds.specs.declared.deed.Hold as code
use Rattle.step_deeds.specs.declared.deed.Hold.TheVariants.{Marks, Ends, Axes}
use Rattle.step_deeds.specs.declared.deed.WaitAt.{WaitAt}
use Rattle.order_clocks.specs.declared.watch.BoardReplay.{BoardReplay}
use Rattle.order_clocks.proofs.DepartLaws.{all_go_from, goings_leave, goings_lower, takers_alike}
use Rattle.order_clocks.proofs.ReadLaws.{IsChange, part_waits, part_marks, started_waits, running_waits, with_line}
use Rattle.sync_types.proofs.BoardTests.{no_truth}
use Rattle.sync_types.specs.BoardActions.{after_own_part, channels_started}
use Rattle.sync_types.specs.BoardAlarms.{alarm_of}
use Rattle.sync_types.specs.Boards.{Hold, AtMarks, AtEnds, AtAxes, State, IsHolding, Board, among, is_running}
use Rattle.sync_types.specs.Events.{channels_in}
use Rattle.sync_types.specs.GoingOn.{Going, go_of, lowers, waits_for_axes, axes_asked}
use Rattle.sync_types.specs.Turns.{goings_in_step, after_step}
use Rattle.sync_types.specs.declared.Step.{Step}
use Rattle.sync_types.specs.declared.runs.Go.{Go}
use Rattle.step_deeds.specs.Holds.{is_at_axes, lowers_at}

-- who is found among those that go on
pub go_found : (gs : List Going) (d : ℕ) → go_in (map go_of gs) d ≡ option_map go_of (going_of gs d)
go_found [] d = refl
go_found (g ∷ gs) d = elim (cases_Bool (g.channel == d)) [
  | inl on ↦ rw on refl
  | inr off ↦ rw off (go_found gs d)
]

pub going_some : (gs : List Going) (d : ℕ) → is_some (going_of gs d) ≡ among (channels_in gs) d
going_some [] d = refl
going_some (g ∷ gs) d = elim (cases_Bool (g.channel == d)) [
  | inl on ↦ rw on refl
  | inr off ↦ rw off (going_some gs d)
]

pub go_some : (gs : List Going) (d : ℕ) → is_some (go_in (map go_of gs) d) ≡ among (channels_in gs) d
go_some gs d = rw (go_found gs d) (kept (going_of gs d) ∙ going_some gs d)
  where
    kept : (o : Option Going) → is_some (option_map go_of o) ≡ is_some o
    kept (Some g) = refl
    kept None = refl

pub going_within : (gs : List Going) (d : ℕ) (g : Going) → going_of gs d ≡ Some g → IsIn g gs × (g.channel ≡ d)
going_within [] d g e = absurd (none_some e)
  where
    none_some : {A : Type 0} {x : A} → None ≡ Some x → ⊥
    none_some bad = no_truth false (ap is_some bad) refl
going_within (h ∷ gs) d g e = elim (cases_Bool (h.channel == d)) [
  | inl on ↦
      let same : Some h ≡ Some g = rw on at e in
      let is : h ≡ g = ap (given h) same in
      (inl (sym is), ap (λ (x : Going). x.channel) (sym is) ∙ eqb-true h.channel d on)
  | inr off ↦ let w = going_within gs d g (rw off at e) in (inr w.0, w.1)
]
  where
    given : Going → Option Going → Going
    given x (Some y) = y
    given x None = x

-- marks that a wait lowers
abbrev wait_lowers : Option (Hold × ℕ) → ℕ → Bool
wait_lowers (Some (AtMarks n named, line)) m = m == n
wait_lowers other m = false

lowers_by_wait : (s : State) (m : ℕ) → lowers s m ≡ wait_lowers (wait_in s) m
lowers_by_wait (IsHolding (AtMarks n named) line) m = refl
lowers_by_wait (IsHolding (AtEnds named) line) m = refl
lowers_by_wait (IsHolding (AtAxes from_standing axes) line) m = refl
lowers_by_wait other m = refl

kept_lowers : (held : Option WaitAt) (m : ℕ) → lowers_at held m ≡ wait_lowers (wait_shown held) m
kept_lowers (Some held) m = by_hold held.hold held.line
  where
    by_hold : (h : code.Hold) (line : ℕ) → lowers_at (Some (record { hold = h; line = line })) m ≡ wait_lowers (wait_shown (Some (record { hold = h; line = line }))) m
    by_hold (Marks n named) line = refl
    by_hold (Ends named) line = refl
    by_hold (Axes axes) line = refl
kept_lowers None m = refl

-- after the own part
own_marks : (b a : Bool) → ((b || (a && not b)) && not (b && not a)) ≡ a
own_marks true true = refl
own_marks true false = refl
own_marks false true = refl
own_marks false false = refl

begun_kept : (begins : Option code.Hold) (line : ℕ) (old : Option WaitAt) → wait_shown old ≡ None → wait_shown (begun_at begins line old) ≡ with_line line (begun_shown begins)
begun_kept (Some hold) line old none = refl
begun_kept None line old none = none

pub keeps_part : (old mid : BoardReplay) (b : Board) (c : ℕ) (step : Step) (act : Act) → Keeps old b → is_running (b.state c) ≡ true → IsChange act (happening_of b c step)
    → ((d m : ℕ) → has (slice_index_or mid.marks d []) m ≡ (if d == c then (has (slice_index_or old.marks d []) m || has act.raises m) && not (has act.lowers m) else has (slice_index_or old.marks d []) m))
    → ((d : ℕ) → slice_index_or mid.holds d None ≡ (if d == c then begun_at act.begins step.line (slice_index_or old.holds d None) else slice_index_or old.holds d None))
    → Keeps mid (after_own_part b c step)
keeps_part old mid b c step act keeps running change marks holds = record {
  marks = λ d m. marks d m ∙ elim (cases_Bool (d == c)) [
    | inl same ↦
        let e : d ≡ c = eqb-true d c same in
        rw (same, e, keeps.marks c m, change.raises m, change.lowers m) (own_marks (b.marks c m) ((after_own_part b c step).marks c m))
    | inr other ↦ rw (other, part_marks b c step d m other) (keeps.marks d m)
  ];
  holds = λ d. rw (holds d, part_waits b c step d) (elim (cases_Bool (d == c)) [
    | inl same ↦
        let e : d ≡ c = eqb-true d c same in
        let none : wait_shown (slice_index_or old.holds d None) ≡ None = keeps.holds d ∙ rw e (running_waits (b.state c) running) in
        rw same (begun_kept act.begins step.line (slice_index_or old.holds d None) none ∙ ap (with_line step.line) change.begins)
    | inr other ↦ rw other (keeps.holds d)
  ]);
}

-- after those that go on
shown_either : (t : Bool) (held : Option WaitAt) → wait_shown (if t then None else held) ≡ (if t then None else wait_shown held)
shown_either true held = refl
shown_either false held = refl

pub keeps_goings : (mid new : BoardReplay) (b : Board) (c : ℕ) (step : Step) (goes : List Go) → is_running (b.state c) ≡ true → Keeps mid (after_own_part b c step) → goes ≡ map go_of (goings_in_step b c step)
    → ((d : ℕ) → slice_index_or new.holds d None ≡ (if is_some (go_in goes d) then None else slice_index_or mid.holds d None))
    → ((d m : ℕ) → has (slice_index_or new.marks d []) m ≡ (has (slice_index_or mid.marks d []) m && not (is_some (go_in goes d) && lowers_at (slice_index_or mid.holds d None) m)))
    → Keeps new (after_step b c step)
keeps_goings mid new b c step goes running keeps are holds marks = record {
  marks = λ d m. marks d m ∙ rw (are, go_some (goings_in_step b c step) d, keeps.marks d m, kept_lowers (slice_index_or mid.holds d None) m, keeps.holds d)
      (rw (sym (lowers_by_wait ((after_own_part b c step).state d) m)) (sym (goings_lower (after_own_part b c step) (channels_started (alarm_of b c step.action) step.action) d m (λ s on. started_waits b c step s running on))));
  holds = λ d. rw (holds d, shown_either (is_some (go_in goes d)) (slice_index_or mid.holds d None), keeps.holds d, are, go_some (goings_in_step b c step) d)
      (sym (goings_leave (after_own_part b c step) (channels_started (alarm_of b c step.action) step.action) d (λ s on. started_waits b c step s running on)));
}

-- each that goes on
pub goes_from : (b : Board) (c : ℕ) (step : Step) (g : Going) → is_running (b.state c) ≡ true → IsIn g (goings_in_step b c step) → GoesFrom (after_own_part b c step) g
goes_from b c step g running within = all_go_from (after_own_part b c step) (channels_started (alarm_of b c step.action) step.action) g (λ s on. started_waits b c step s running on) within

or_true : (p q : Bool) → q ≡ true → (p || q) ≡ true
or_true true q on = refl
or_true false q on = on

-- that which is found by its channel has the same wait, and took the same axes
pub only_one : (b : Board) (c : ℕ) (step : Step) (g : Going) → is_running (b.state c) ≡ true → IsIn g (goings_in_step b c step) → IsOnlyOne (goings_in_step b c step) g
only_one b c step g running within = found (going_of (goings_in_step b c step) g.channel) refl
  where
    there : among (channels_in (goings_in_step b c step)) g.channel ≡ true
    there = listed (goings_in_step b c step) within
      where
        listed : (gs : List Going) → IsIn g gs → among (channels_in gs) g.channel ≡ true
        listed [] here = absurd here
        listed (h ∷ hs) (inl e) = rw (eq-eqb h.channel g.channel (ap (λ (k : Going). k.channel) (sym e))) refl
        listed (h ∷ hs) (inr later) = or_true (h.channel == g.channel) _ (listed hs later)

    found : (o : Option Going) → going_of (goings_in_step b c step) g.channel ≡ o → IsOnlyOne (goings_in_step b c step) g
    found (Some h) e =
        let w = going_within (goings_in_step b c step) g.channel h e in
        let one = goes_from b c step g running within in
        let two = goes_from b c step h running w.0 in
        record {
          other = h;
          found = e;
          from = two.from ∙ (ap (λ (d : ℕ). wait_in ((after_own_part b c step).state d)) w.1 ∙ sym one.from);
          took = takers_alike (after_own_part b c step) (channels_started (alarm_of b c step.action) step.action) g h (λ s on. started_waits b c step s running on) within w.0 (sym w.1);
        }
    found None e = no_truth false (ap is_some (sym e) ∙ (going_some (goings_in_step b c step) g.channel ∙ there)) refl

abbrev wait_axes : Option (Hold × ℕ) → Bool
wait_axes (Some (AtAxes from_standing axes, line)) = true
wait_axes other = false

axes_by_wait : (s : State) → waits_for_axes s ≡ wait_axes (wait_in s)
axes_by_wait (IsHolding (AtMarks n named) line) = refl
axes_by_wait (IsHolding (AtEnds named) line) = refl
axes_by_wait (IsHolding (AtAxes from_standing axes) line) = refl
axes_by_wait other = refl

kept_axes : (held : Option WaitAt) → is_at_axes held ≡ wait_axes (wait_shown held)
kept_axes (Some held) = by_hold held.hold held.line
  where
    by_hold : (h : code.Hold) (line : ℕ) → is_at_axes (Some (record { hold = h; line = line })) ≡ wait_axes (wait_shown (Some (record { hold = h; line = line })))
    by_hold (Marks n named) line = refl
    by_hold (Ends named) line = refl
    by_hold (Axes axes) line = refl
kept_axes None = refl

abbrev asked_in : Option (Hold × ℕ) → List ℕ
asked_in (Some (AtAxes from_standing axes, line)) = axes
asked_in other = []

asked_by_wait : (s : State) → axes_asked s ≡ asked_in (wait_in s)
asked_by_wait (IsHolding (AtMarks n named) line) = refl
asked_by_wait (IsHolding (AtEnds named) line) = refl
asked_by_wait (IsHolding (AtAxes from_standing axes) line) = refl
asked_by_wait other = refl

asked_below : (held : Option WaitAt) (x : ℕ) → WaitIsSound held → among (asked_in (wait_shown held)) x ≡ true → x < AXIS_LIMIT
asked_below (Some held) x sound on = by_hold held.hold held.line sound on
  where
    by_hold : (h : code.Hold) (line : ℕ) → WaitIsSound (Some (record { hold = h; line = line })) → among (asked_in (wait_shown (Some (record { hold = h; line = line })))) x ≡ true → x < AXIS_LIMIT
    by_hold (Marks n named) line fits there = no_truth false there refl
    by_hold (Ends named) line fits there = no_truth false there refl
    by_hold (Axes axes) line fits there = elim (cases_lt x AXIS_LIMIT) [
      | inl below ↦ below
      | inr past ↦ no_truth (has axes x) (sym (list_any-members_of axes x) ∙ there) (get_or-eq_default axes false (rw fits past))
    ]
asked_below None x sound on = no_truth false on refl

took_read : (b : Board) (g : Going) (held : Option WaitAt) (x : ℕ) → GoesFrom b g → WaitIsSound held → wait_shown held ≡ wait_in g.from
    → (is_at_axes held && is_some (position_of g.grant.at x)) ≡ among g.took x
took_read b g held x from sound e =
    let same : is_at_axes held ≡ waits_for_axes g.from = kept_axes held ∙ (ap wait_axes e ∙ sym (axes_by_wait g.from)) in
    elim (cases_Bool (waits_for_axes g.from)) [
      | inl on ↦ rw (same, on) (elim (cases_lt x AXIS_LIMIT) [
        | inl below ↦ from.positions on x below
        | inr past ↦ from.past on x past ∙ sym (false_by (among g.took x) (λ there.
            let low = asked_below held x sound (rw (asked_by_wait g.from, sym e) at (from.took x there)) in
            absurd (omega arith)))
      ])
      | inr off ↦ rw (same, off) (sym (false_by (among g.took x) (λ there. no_truth false (rw (none_asked g.from off) at (from.took x there)) refl)))
    ]
  where
    false_by : (t : Bool) → (t ≡ true → ⊥) → t ≡ false
    false_by true bad = absurd (bad refl)
    false_by false bad = refl

    none_asked : (s : State) → waits_for_axes s ≡ false → axes_asked s ≡ []
    none_asked (IsHolding (AtAxes from_standing axes) line) off = no_truth true refl off
    none_asked other off = refl

pub going_read : (mid : BoardReplay) (b : Board) (c : ℕ) (step : Step) (goes : List Go) (d : ℕ) (gone : Option Wakeup) → is_running (b.state c) ≡ true → Keeps mid (after_own_part b c step)
    → WaitIsSound (slice_index_or mid.holds d None) → goes ≡ map go_of (goings_in_step b c step) → IsGone gone (slice_index_or mid.holds d None) (go_in goes d) → IsGoingOf gone (going_of (goings_in_step b c step) d)
going_read mid b c step goes d gone running keeps sound are is = by_cases gone (going_of (goings_in_step b c step) d) refl (rw (are, go_found (goings_in_step b c step) d) at is)
  where
    by_cases : (x : Option Wakeup) (y : Option Going) → going_of (goings_in_step b c step) d ≡ y → IsGone x (slice_index_or mid.holds d None) (option_map go_of y) → IsGoingOf x y
    by_cases (Some x) (Some g) e both =
        let w = going_within (goings_in_step b c step) d g e in
        let from = goes_from b c step g running w.0 in
        let wait : wait_shown (slice_index_or mid.holds d None) ≡ wait_in g.from = keeps.holds d ∙ rw (sym w.1) (sym from.from) in
        record {
          from = ap wait_shown both.0 ∙ wait;
          took = λ x. both.1 x ∙ took_read (after_own_part b c step) g (slice_index_or mid.holds d None) x from sound wait;
        }
    by_cases (Some x) None e both = both
    by_cases None (Some g) e both = both
    by_cases None None e both = both
