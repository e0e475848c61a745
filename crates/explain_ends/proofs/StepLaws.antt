-- What is told of a board stays so from step to step.
use Rattle.std.proofs.Common.{◌≡◌, ◌∙◌, ◌⊎◌, ℕ, zero, suc, ◌<◌, ◌≤◌, ◌==◌, ◌&&◌, ◌||◌, not, Bool, true, false, inl, inr, List, [], Option, None, Some, if◌then◌else◌, refl, sym, ap, arith}
use Rattle.std.specs.Prelude.{is_some, slice_index_or}
use Rattle.std.proofs.lemmas.Bool.{cases_Bool, cases_lt, eqb-true}
use Rattle.axis_sets.specs.Sets.{has}
use Rattle.axis_sets.specs.declared.limits.TheConstants.{AXIS_LIMIT, CHANNEL_LIMIT, CHANNEL_PLACES}
use Rattle.order_clocks.proofs.DepartLaws.{goings_leave, goings_lower}
use Rattle.order_clocks.proofs.ReadLaws.{part_marks, part_waits, running_waits, started_waits, with_line}
use Rattle.order_clocks.proofs.TellLaws.{going_some, going_within, only_one}
use Rattle.order_clocks.specs.Chains.{IsIn}
use Rattle.order_clocks.specs.Happenings.{happening_of, going_of}
use Rattle.order_clocks.specs.Watching.{IsGoingOf, IsRead, begun_at, begun_shown, wait_in, wait_shown}
use Rattle.explain_ends.specs.LastBoards.{IsTold, taker_upto, took_by}
use Rattle.explain_ends.specs.declared.boards.LastBoard.{LastBoard}
use Rattle.explain_ends.proofs.TakeLaws.{channel_within, freed_in_step, kept_in_step, taken_in_step}
use Rattle.step_deeds.specs.Holds.{is_given, lowers_at}
use Rattle.step_deeds.specs.declared.deed.StepEvents.{StepEvents}
use Rattle.step_deeds.specs.declared.deed.Wakeup.{Wakeup}
use Rattle.step_deeds.specs.declared.deed.Hold as code
use Rattle.step_deeds.specs.declared.deed.Hold.TheVariants.{Marks, Ends, Axes}
use Rattle.step_deeds.specs.declared.deed.WaitAt.{WaitAt}
use Rattle.sync_types.proofs.BoardTests.{no_truth}
use Rattle.sync_types.specs.BoardActions.{after_own_part, channels_started}
use Rattle.sync_types.specs.BoardAlarms.{alarm_of}
use Rattle.sync_types.specs.Boards.{Hold, AtMarks, AtEnds, AtAxes, State, IsHolding, Board, among, is_running, owner_of}
use Rattle.sync_types.specs.Events.{channels_in}
use Rattle.sync_types.specs.GoingOn.{Going, lowers}
use Rattle.sync_types.specs.Turns.{after_step, goings_in_step}
use Rattle.sync_types.specs.declared.Step.{Step}

-- ---- marks that a wait lowers

abbrev wait_lowers : Option (Hold × ℕ) → ℕ → Bool
wait_lowers (Some (AtMarks n named, line)) m = m == n
wait_lowers other m = false

lowers_by_wait : (s : State) (m : ℕ) → lowers s m ≡ wait_lowers (wait_in s) m
lowers_by_wait (IsHolding (AtMarks n named) line) m = refl
lowers_by_wait (IsHolding (AtEnds named) line) m = refl
lowers_by_wait (IsHolding (AtAxes from_standing axes) line) m = refl
lowers_by_wait other m = refl

kept_lowers : (held : Option WaitAt) (m : ℕ) → lowers_at held m ≡ wait_lowers (wait_shown held) m
kept_lowers (Some held) m = by_hold held.hold held.line
  where
    by_hold : (h : code.Hold) (line : ℕ) → lowers_at (Some (record { hold = h; line = line })) m ≡ wait_lowers (wait_shown (Some (record { hold = h; line = line }))) m
    by_hold (Marks n named) line = refl
    by_hold (Ends named) line = refl
    by_hold (Axes axes) line = refl
kept_lowers None m = refl

-- ---- the own part of a step

own_marks : (b a : Bool) → ((b || (a && not b)) && not (b && not a)) ≡ a
own_marks true true = refl
own_marks true false = refl
own_marks false true = refl
own_marks false false = refl

begun_kept : (begins : Option code.Hold) (line : ℕ) (old : Option WaitAt) → wait_shown old ≡ None → wait_shown (begun_at begins line old) ≡ with_line line (begun_shown begins)
begun_kept (Some hold) line old none = refl
begun_kept None line old none = none

-- who goes on, as the code has it
given_is : (gone : Option Wakeup) (going : Option Going) → IsGoingOf gone going → is_given gone ≡ is_some going
given_is (Some gone) (Some g) is = refl
given_is (Some gone) None is = absurd is
given_is None (Some g) is = absurd is
given_is None None is = refl

shown_either : (t : Bool) (held : Option WaitAt) → wait_shown (if t then None else held) ≡ (if t then None else wait_shown held)
shown_either true held = refl
shown_either false held = refl

-- ---- owners

-- who takes an axis, as the code has it
taken_is : (gone : Option Wakeup) (going : Option Going) (x : ℕ) → IsGoingOf gone going → took_by gone x ≡ true → (g : Going) × (going ≡ Some g) × (among g.took x ≡ true)
taken_is (Some gone) (Some g) x is on = (g, refl, sym (is.took x) ∙ on)
taken_is (Some gone) None x is on = absurd is
taken_is None going x is on = no_truth false on refl

takes_is : (gone : Option Wakeup) (g : Going) (x : ℕ) → IsGoingOf gone (Some g) → among g.took x ≡ true → took_by gone x ≡ true
takes_is (Some gone) g x is on = is.took x ∙ on
takes_is None g x is on = absurd is

upto_is : (goes : List (Option Wakeup)) (x : ℕ) (before after : Option ℕ) → ((m : ℕ) → took_by (slice_index_or goes m None) x ≡ true → after ≡ Some m) → (n : ℕ)
    → (taker_upto goes n x before ≡ after) ⊎ ((taker_upto goes n x before ≡ before) × ((m : ℕ) → 1 ≤ m → m ≤ n → took_by (slice_index_or goes m None) x ≡ false))
upto_is goes x before after taken zero = inr (refl, λ m from below. absurd (omega arith))
upto_is goes x before after taken (suc n) = elim (cases_Bool (took_by (slice_index_or goes (suc n) None) x)) [
  | inl on ↦ inl (rw on (sym (taken (suc n) on)))
  | inr off ↦ elim (upto_is goes x before after taken n) [
    | inl same ↦ inl (rw off same)
    | inr kept ↦ inr (
      rw off kept.0,
      λ m from below. elim (cases_lt m (suc n)) [
        | inl earlier ↦ kept.1 m from (omega arith)
        | inr last ↦ let e : m ≡ suc n = omega arith in rw e off
      ],
    )
  ]
]

-- ---- a whole step

-- what is told before a step, and what the code makes of it
pub record IsStepOf (old new : LastBoard) (deed : StepEvents) : Type 0 where
  pub mid : LastBoard
  pub own_marks : (c m : ℕ) → has (slice_index_or mid.marks c []) m
      ≡ (if c == deed.channel then (has (slice_index_or old.marks c []) m || has deed.raises m) && not (has deed.lowers m) else has (slice_index_or old.marks c []) m)
  pub own_holds : (c : ℕ) → slice_index_or mid.holds c None ≡ (if c == deed.channel then begun_at deed.begins deed.line (slice_index_or old.holds c None) else slice_index_or old.holds c None)
  pub own_axes : (x : ℕ) → x < AXIS_LIMIT → slice_index_or mid.owners x None ≡ (if has deed.frees x then None else slice_index_or old.owners x None)
  pub marks : (c m : ℕ) → 1 ≤ c → c < CHANNEL_PLACES → has (slice_index_or new.marks c []) m
      ≡ (has (slice_index_or mid.marks c []) m && not (is_given (slice_index_or deed.goes c None) && lowers_at (slice_index_or mid.holds c None) m))
  pub holds : (c : ℕ) → 1 ≤ c → c < CHANNEL_PLACES → slice_index_or new.holds c None ≡ (if is_given (slice_index_or deed.goes c None) then None else slice_index_or mid.holds c None)
  pub axes : (x : ℕ) → x < AXIS_LIMIT → slice_index_or new.owners x None ≡ taker_upto deed.goes CHANNEL_LIMIT x (slice_index_or mid.owners x None)

module _ (old new : LastBoard) (deed : StepEvents) (s : IsStepOf old new deed) (b : Board) (c : ℕ) (step : Step) (told : IsTold old b) (running : is_running (b.state c) ≡ true) (read : IsRead deed (happening_of b c step)) where
  mid_marks : (d m : ℕ) → 1 ≤ d → d < CHANNEL_PLACES → has (slice_index_or s.mid.marks d []) m ≡ (after_own_part b c step).marks d m
  mid_marks d m from below = s.own_marks d m ∙ rw read.channel (elim (cases_Bool (d == c)) [
    | inl same ↦
        let e : d ≡ c = eqb-true d c same in
        rw (same, told.marks d m from below, read.raises m, read.lowers m, e) (own_marks (b.marks c m) ((after_own_part b c step).marks c m))
    | inr other ↦ rw (other, part_marks b c step d m other) (told.marks d m from below)
  ])

  mid_holds : (d : ℕ) → 1 ≤ d → d < CHANNEL_PLACES → wait_shown (slice_index_or s.mid.holds d None) ≡ wait_in ((after_own_part b c step).state d)
  mid_holds d from below = rw (s.own_holds d, read.channel, read.line, part_waits b c step d) (elim (cases_Bool (d == c)) [
    | inl same ↦
        let e : d ≡ c = eqb-true d c same in
        let none : wait_shown (slice_index_or old.holds d None) ≡ None = told.holds d from below ∙ rw e (running_waits (b.state c) running) in
        rw same (begun_kept deed.begins step.line (slice_index_or old.holds d None) none ∙ ap (with_line step.line) read.begins)
    | inr other ↦ rw other (told.holds d from below)
  ])

  goes_on : (d : ℕ) → is_given (slice_index_or deed.goes d None) ≡ among (channels_in (goings_in_step b c step)) d
  goes_on d = given_is (slice_index_or deed.goes d None) (going_of (goings_in_step b c step) d) (read.goings d) ∙ going_some (goings_in_step b c step) d

  new_marks : (d m : ℕ) → 1 ≤ d → d < CHANNEL_PLACES → has (slice_index_or new.marks d []) m ≡ (after_step b c step).marks d m
  new_marks d m from below = s.marks d m from below
      ∙ rw (mid_marks d m from below, goes_on d, kept_lowers (slice_index_or s.mid.holds d None) m, mid_holds d from below, ← lowers_by_wait ((after_own_part b c step).state d) m)
      (sym (goings_lower (after_own_part b c step) (channels_started (alarm_of b c step.action) step.action) d m (λ t on. started_waits b c step t running on)))

  new_holds : (d : ℕ) → 1 ≤ d → d < CHANNEL_PLACES → wait_shown (slice_index_or new.holds d None) ≡ wait_in ((after_step b c step).state d)
  new_holds d from below = ap wait_shown (s.holds d from below) ∙ (shown_either (is_given (slice_index_or deed.goes d None)) (slice_index_or s.mid.holds d None)
      ∙ rw (mid_holds d from below, goes_on d)
      (sym (goings_leave (after_own_part b c step) (channels_started (alarm_of b c step.action) step.action) d (λ t on. started_waits b c step t running on))))

  mid_owners : (x : ℕ) → x < AXIS_LIMIT → slice_index_or s.mid.owners x None ≡ owner_of ((after_own_part b c step).axis x)
  mid_owners x below = s.own_axes x below ∙ rw (read.frees x, told.owners x below) (sym (freed_in_step b c step x))

  taker_owns : (x m : ℕ) → took_by (slice_index_or deed.goes m None) x ≡ true → owner_of ((after_step b c step).axis x) ≡ Some m
  taker_owns x m on =
      let w = taken_is (slice_index_or deed.goes m None) (going_of (goings_in_step b c step) m) x (read.goings m) on in
      let there = going_within (goings_in_step b c step) m w.0 w.1 in
      (taken_in_step b c step w.0 x there.0 w.2).0 ∙ ap Some there.1

  nobody_takes : (x : ℕ) → ((m : ℕ) → 1 ≤ m → m ≤ CHANNEL_LIMIT → took_by (slice_index_or deed.goes m None) x ≡ false) → (g : Going) → IsIn g (goings_in_step b c step) → among g.took x ≡ true → ⊥
  nobody_takes x none g inside on =
      let within = channel_within g.channel (taken_in_step b c step g x inside on).1 in
      let one = only_one b c step g running inside in
      let there : IsGoingOf (slice_index_or deed.goes g.channel None) (Some one.other) = rw one.found at (read.goings g.channel) in
      no_truth (took_by (slice_index_or deed.goes g.channel None) x) (takes_is (slice_index_or deed.goes g.channel None) one.other x there (one.took x on)) (none g.channel within.0 (omega (arith, within.1)))

  new_owners : (x : ℕ) → x < AXIS_LIMIT → slice_index_or new.owners x None ≡ owner_of ((after_step b c step).axis x)
  new_owners x below = s.axes x below ∙ elim (upto_is deed.goes x (slice_index_or s.mid.owners x None) (owner_of ((after_step b c step).axis x)) (taker_owns x) CHANNEL_LIMIT) [
    | inl same ↦ same
    | inr kept ↦ kept.0 ∙ (mid_owners x below ∙ sym (kept_in_step b c step x (nobody_takes x kept.1)))
  ]

  pub told_after : IsTold new (after_step b c step)
  told_after = record { marks = new_marks; holds = new_holds; owners = new_owners }

-- ---- channels one after another

pub mark_apart : (h g l : Bool) → (h && not ((false && g) && l)) ≡ h
mark_apart true g l = refl
mark_apart false g l = refl
