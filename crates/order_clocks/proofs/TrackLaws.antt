-- What a step leaves and minds, as the code has read it.
use Rattle.axis_sets.specs.declared.limits.TheConstants.{CHANNEL_PLACES}
use Rattle.std.proofs.Common.{◌≡◌, ℕ, ◌==◌, ◌&&◌, Bool, true, false, inl, inr, List, [], Option, Some, None, length, refl, sym, ap, ◌∙◌}
use Rattle.std.proofs.lemmas.Bool.{eqb-true, eq-eqb, and_parts, and_from, false≢true}
use Rattle.axis_sets.specs.Sets.{has}
use Rattle.axis_sets.proofs.SetLaws.{list_any-members_of}
use Rattle.counter_rows.specs.declared.table.StepClocks.{StepClocks}
use Rattle.order_clocks.specs.Chains.{IsIn}
use Rattle.order_clocks.specs.CourseOf.{course_of}
use Rattle.order_clocks.specs.Happenings.{Happening, happening_at, going_of, of_going, waits_for, asks_for, line_in, line_of_going}
use Rattle.order_clocks.specs.TracedRaces.{Trace, Lowered, Needed, Took, Touched, act_leaves, act_minds, going_leaves, going_minds}
use Rattle.order_clocks.specs.LastPlaces.{deed_leaves, departure_leaves, leaves_of, minds_at_line, minds_in, IsTracked}
use Rattle.order_clocks.specs.Pairs.{minded_by, IsKnownStep}
use Rattle.order_clocks.specs.Steps.{AreRows}
use Rattle.order_clocks.specs.Tracks.{tracks_of}
use Rattle.order_clocks.specs.Watching.{IsGoing, IsGoingOf, IsRead, begun_shown, hold_shown, wait_in, wait_shown}
use Rattle.step_deeds.specs.declared.deed.StepEvents.{StepEvents}
use Rattle.step_deeds.specs.declared.deed.Wakeup.{Wakeup}
use Rattle.step_deeds.specs.declared.deed.Hold.TheVariants.{Marks, Ends, Axes}
use Rattle.step_deeds.specs.declared.deed.Hold as code
use Rattle.step_deeds.specs.declared.deed.WaitAt.{WaitAt}
use Rattle.order_clocks.specs.declared.events.Event.{Event}
use Rattle.order_clocks.proofs.EventLaws.{act_minded}
use Rattle.order_clocks.proofs.TellLaws.{going_within}
use Rattle.order_clocks.proofs.WholeLaws.{read_step}
use Rattle.sync_types.specs.Boards.{Hold, AtMarks, AtEnds, AtAxes, State, IsHolding, Board, among}
use Rattle.sync_types.specs.Events as events
use Rattle.sync_types.specs.GoingOn.{Going, lowers}
use Rattle.sync_types.specs.Turns.{Move}
use Rattle.step_deeds.specs.Holds.{asks_begun, departure_of, goes_in, is_given, line_of, line_of_held, lowers_at, lowers_in, marks_begun, names_at, waits_in}

and_back : (p q : Bool) → (p && q) ≡ (q && p)
and_back true true = refl
and_back true false = refl
and_back false true = refl
and_back false false = refl

-- what a wait says of marks and of its line
lowers_by : Option (Hold × ℕ) → ℕ → Bool
lowers_by (Some (AtMarks n named, line)) m = m == n
lowers_by (Some (AtEnds named, line)) m = false
lowers_by (Some (AtAxes from_standing axes, line)) m = false
lowers_by None m = false

names_by : Option (Hold × ℕ) → ℕ → ℕ → Bool
names_by (Some (AtMarks n named, line)) m c = (n == m) && among named c
names_by (Some (AtEnds named, line)) m c = false
names_by (Some (AtAxes from_standing axes, line)) m c = false
names_by None m c = false

pub line_by : Option (Hold × ℕ) → ℕ
line_by (Some (hold, line)) = line
line_by None = 0

state_lowers : (s : State) (m : ℕ) → lowers s m ≡ lowers_by (wait_in s) m
unfolding lowers_by
state_lowers (IsHolding (AtMarks n named) line) m = refl
state_lowers (IsHolding (AtEnds named) line) m = refl
state_lowers (IsHolding (AtAxes from_standing axes) line) m = refl
state_lowers other m = refl

state_names : (s : State) (m c : ℕ) → events.names_at s m c ≡ names_by (wait_in s) m c
unfolding names_by
state_names (IsHolding (AtMarks n named) line) m c = refl
state_names (IsHolding (AtEnds named) line) m c = refl
state_names (IsHolding (AtAxes from_standing axes) line) m c = refl
state_names other m c = refl

pub state_line : (s : State) → line_in s ≡ line_by (wait_in s)
unfolding line_by
state_line (IsHolding hold line) = refl
state_line other = refl

held_lowers : (held : Option WaitAt) (m : ℕ) → lowers_at held m ≡ lowers_by (wait_shown held) m
unfolding lowers_by
held_lowers (Some held) m = by_hold held.hold held.line
  where
    by_hold : (h : code.Hold) (line : ℕ) → lowers_in h m ≡ lowers_by (Some (hold_shown h, line)) m
    by_hold (Marks n named) line = refl
    by_hold (Ends named) line = refl
    by_hold (Axes axes) line = refl
held_lowers None m = refl

held_names : (held : Option WaitAt) (m c : ℕ) → names_at held m c ≡ names_by (wait_shown held) m c
unfolding names_by
held_names (Some held) m c = by_hold held.hold held.line
  where
    by_hold : (h : code.Hold) (line : ℕ) → names_at (Some (record { hold = h; line = line })) m c ≡ names_by (Some (hold_shown h, line)) m c
    by_hold (Marks n named) line = ap (λ (t : Bool). (n == m) && t) (sym (list_any-members_of named c))
    by_hold (Ends named) line = refl
    by_hold (Axes axes) line = refl
held_names None m c = refl

pub held_line : (held : Option WaitAt) → line_of_held held ≡ line_by (wait_shown held)
unfolding line_by
held_line (Some held) = refl
held_line None = refl

gone_lowers : (gone : Wakeup) (g : Going) (m : ℕ) → IsGoing gone g → lowers g.from m ≡ lowers_at gone.held m
gone_lowers gone g m is = state_lowers g.from m ∙ (ap (λ (w : Option (Hold × ℕ)). lowers_by w m) (sym is.from) ∙ sym (held_lowers gone.held m))

-- an act
act_left : (deed : StepEvents) (h : Happening) → IsRead deed h → (t : Trace) → act_leaves h t ≡ deed_leaves deed t
act_left deed h read (Lowered c m) = rw (read.lowers m, read.channel) (and_back (c == h.channel) (h.lowers m))
act_left deed h read (Needed c m) = refl
act_left deed h read (Took x) = refl
act_left deed h read (Touched c) = sym (read.touches c)

abbrev asks_list : Option code.Hold → List Bool
asks_list (Some (Marks m named)) = []
asks_list (Some (Ends named)) = []
asks_list (Some (Axes axes)) = axes
asks_list None = []

asks_same : (hold : Option code.Hold) (x : ℕ) → has (asks_list hold) x ≡ asks_begun hold x
asks_same (Some (Marks m named)) x = refl
asks_same (Some (Ends named)) x = refl
asks_same (Some (Axes axes)) x = refl
asks_same None x = refl

abbrev event_like : StepEvents → Event
event_like deed = record { channel = deed.channel; line = deed.line; row = []; lowers = deed.lowers; needs = None; took = []; touches = deed.touches; waits = marks_begun deed.begins; asks = asks_list deed.begins }

waits_same : (begins : Option code.Hold) (c m : ℕ) → waits_for (begun_shown begins) c m ≡ waits_in (marks_begun begins) m c
waits_same (Some (Marks n named)) c m = ap (λ (t : Bool). (n == m) && t) (list_any-members_of named c)
waits_same (Some (Ends named)) c m = refl
waits_same (Some (Axes axes)) c m = refl
waits_same None c m = refl

asked_same : (begins : Option code.Hold) (x : ℕ) → asks_for (begun_shown begins) x ≡ has (asks_list begins) x
asked_same (Some (Marks n named)) x = refl
asked_same (Some (Ends named)) x = refl
asked_same (Some (Axes axes)) x = list_any-members_of axes x
asked_same None x = refl

act_minded_by : (deed : StepEvents) (h : Happening) → IsRead deed h → (t : Trace) → act_minds h t ≡ minded_by (event_like deed) t
act_minded_by deed h read (Lowered c m) = ap (λ (b : Option Hold). waits_for b c m) (sym read.begins) ∙ waits_same deed.begins c m
act_minded_by deed h read (Needed c m) = rw (read.lowers m, read.channel) (and_back (c == h.channel) (h.lowers m))
act_minded_by deed h read (Took x) = ap (λ (b : Option Hold). asks_for b x) (sym read.begins) ∙ asked_same deed.begins x
act_minded_by deed h read (Touched c) = sym (read.touches c)

-- one that goes on
go_left : (c : ℕ) (gone : Wakeup) (g : Going) → IsGoing gone g → g.channel ≡ c → (t : Trace) → going_leaves g t ≡ departure_leaves c gone t
go_left c gone g is same (Lowered d m) = rw (same, gone_lowers gone g m is) (and_back (d == c) (lowers_at gone.held m))
go_left c gone g is same (Needed d m) = state_names g.from m d ∙ (ap (λ (w : Option (Hold × ℕ)). names_by w m d) (sym is.from) ∙ sym (held_names gone.held m d))
go_left c gone g is same (Took x) = sym (is.took x)
go_left c gone g is same (Touched d) = refl

abbrev held_test : ℕ → Option WaitAt → Trace → Bool
held_test c held (Needed d m) = lowers_at held m && (d == c)
held_test c held other = false

held_to : (c : ℕ) (held : Option WaitAt) (t : Trace) → held_test c held t ≡ true → IsIn t (minds_at_line c held)
held_to c held (Lowered d m) on = absurd (false≢true on)
held_to c held (Took x) on = absurd (false≢true on)
held_to c held (Touched d) on = absurd (false≢true on)
held_to c held (Needed d m) on =
    let parts = and_parts (lowers_at held m) (d == c) on in
    rw (eqb-true d c parts.1) (minded held parts.0)
  where
    by_hold : (hold : code.Hold) → lowers_in hold m ≡ true → IsIn (Needed c m) (minds_in c hold)
    by_hold (Marks n named) so = inl (ap (λ (k : ℕ). Needed c k) (eqb-true m n so))
    by_hold (Ends named) so = absurd (false≢true so)
    by_hold (Axes axes) so = absurd (false≢true so)

    minded : (held : Option WaitAt) → lowers_at held m ≡ true → IsIn (Needed c m) (minds_at_line c held)
    minded (Some held) so = by_hold held.hold so
    minded None so = absurd (false≢true so)

held_from : (c : ℕ) (held : Option WaitAt) (t : Trace) → IsIn t (minds_at_line c held) → held_test c held t ≡ true
held_from c None t within = absurd within
held_from c (Some held) t within = by_hold held.hold refl within
  where
    by_hold : (hold : code.Hold) → held.hold ≡ hold → IsIn t (minds_in c hold) → held_test c (Some held) t ≡ true
    by_hold (Marks n named) is there = elim there [
      | inl same ↦ rw same (and_from (lowers_in held.hold n) (c == c) (ap (λ (h : code.Hold). lowers_in h n) is ∙ eq-eqb n n refl) (eq-eqb c c refl))
      | inr none ↦ absurd none
    ]
    by_hold (Ends named) is there = absurd there
    by_hold (Axes axes) is there = absurd there

go_minded_by : (c : ℕ) (gone : Wakeup) (g : Going) → IsGoing gone g → g.channel ≡ c → (t : Trace) → going_minds g t ≡ held_test c gone.held t
go_minded_by c gone g is same (Lowered d m) = refl
go_minded_by c gone g is same (Needed d m) = rw (same, gone_lowers gone g m is) (and_back (d == c) (lowers_at gone.held m))
go_minded_by c gone g is same (Took x) = refl
go_minded_by c gone g is same (Touched d) = refl

-- the step
pub going_is : (gs : List Going) (c : ℕ) (x : Option Wakeup) (y : Option Going) → going_of gs c ≡ y → IsGoingOf x y → is_given x ≡ true → (gone : Wakeup) × ((g : Going) × ((x ≡ Some gone) × ((y ≡ Some g) × (IsGoing gone g × (g.channel ≡ c)))))
going_is gs c (Some gone) (Some g) e is on = (gone, (g, (refl, (refl, (is, (going_within gs c g e).1)))))
going_is gs c (Some gone) None e is on = absurd is
going_is gs c None y e is on = absurd (false≢true on)

pub read_tracked : (b : Board) (ms : List Move) (i : ℕ) (deed : StepEvents) → IsRead deed (happening_at b ms i) → IsTracked (tracks_of b ms) i deed
read_tracked b ms i deed read = record {
  act_leaves = act_left deed (happening_at b ms i) read;
  go_leaves = λ c t on.
      let w = going_is (happening_at b ms i).goings c (departure_of deed c) (going_of (happening_at b ms i).goings c) refl (read.goings c) on in
      ap (λ (y : Option Going). of_going y (λ g. going_leaves g t)) w.1.1.1.0 ∙ (go_left c w.0 w.1.0 w.1.1.1.1.0 w.1.1.1.1.1 t ∙ ap (λ (x : Option Wakeup). leaves_of c x t) (sym w.1.1.0));
  act_line = sym read.line;
  go_line = λ c on.
      let w = going_is (happening_at b ms i).goings c (departure_of deed c) (going_of (happening_at b ms i).goings c) refl (read.goings c) on in
      ap line_of_going w.1.1.1.0 ∙ (state_line w.1.0.from ∙ (ap line_by (sym w.1.1.1.1.0.from) ∙ (sym (held_line w.0.held) ∙ ap line_of (sym w.1.1.0))));
  act_minds = λ t.
      let e = act_minded_by deed (happening_at b ms i) read t in
      let m = act_minded deed (event_like deed) refl refl refl refl (asks_same deed.begins) t in
      ((λ on. m.0 (sym e ∙ on)), (λ within. e ∙ m.1 within));
  go_minds = λ c t on.
      let w = going_is (happening_at b ms i).goings c (departure_of deed c) (going_of (happening_at b ms i).goings c) refl (read.goings c) on in
      let e = ap (λ (y : Option Going). of_going y (λ g. going_minds g t)) w.1.1.1.0 ∙ go_minded_by c w.0 w.1.0 w.1.1.1.1.0 w.1.1.1.1.1 t in (
        (λ so. rw w.1.1.0 (held_to c w.0.held t (sym e ∙ so))),
        (λ within. e ∙ held_from c w.0.held t (rw w.1.1.0 at within)),
      );
}

pub read_known : (b : Board) (ms : List Move) (i : ℕ) (deed : StepEvents) (rows : StepClocks) → IsRead deed (happening_at b ms i) → AreRows (course_of b ms) i rows → goes_in deed 0 ≡ false → length deed.goes ≡ CHANNEL_PLACES
    → IsKnownStep (course_of b ms) (tracks_of b ms) i deed rows
read_known b ms i deed rows read are none size = record {
  is = read_step b ms i deed read;
  tracked = read_tracked b ms i deed read;
  are = are;
  from_one = none;
  size = size;
}
