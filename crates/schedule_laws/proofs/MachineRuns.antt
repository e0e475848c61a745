-- What the machine has of a run, and runs without a race.
use Rattle.std.proofs.Common.{◌≡◌, ◌↔◌, ℕ, zero, suc, ◌≤◌, ◌==◌, false, Bool, List, [], ◌∷◌, length, Some, inl, inr, refl, sym, ap, ap₂, subst, ◌∙◌, arith, if◌then◌else◌}
use Rattle.std.proofs.lemmas.Bool.{cases_Bool, eqb-true, eq-eqb}
use Rattle.sync_types.specs.Boards.{Board, first_board}
use Rattle.sync_types.specs.Events.{AreOne}
use Rattle.sync_types.specs.Turns.{Move, AreOfRunning}
use Rattle.sync_types.specs.Views.{StartView}
use Rattle.sync_types.specs.declared.runs.EventId.{EventId}
use Rattle.order_clocks.specs.Before.{Before}
use Rattle.order_clocks.specs.Counters.{row}
use Rattle.order_clocks.specs.CourseOf.{course_of}
use Rattle.order_clocks.proofs.CounterLaws.{opened_other, closed_other, before_from, before_to}
use Rattle.order_clocks.proofs.OrderLaws.{one_in, one_from, order_in, order_from}
use Rattle.board_laws.specs.Machine.{State, Clock, with_value_at}
use Rattle.schedule_laws.specs.EventPlaces.{event_in, events_upto}
use Rattle.schedule_laws.specs.Swaps.{HasNoRaceAt}
use Rattle.schedule_laws.specs.Tracked.{rows_at, rows_in, actor, goes_in, clocks_in, clocks_at, own_at, tracked}
use Rattle.schedule_laws.specs.Tracking.{FieldsAreOfTheRun, machine_after, AreCleanSteps, IsQuiet, QuietRunsAreClean}
use Rattle.schedule_laws.proofs.EventLaws.{events_told, if_true, if_false}
use Rattle.schedule_laws.proofs.RunLaws.{Quiet, from_place, at_from, none_from, begin}
use Rattle.schedule_laws.proofs.Steps.{Fresh, zones_at, board_told}
use Rattle.schedule_laws.proofs.Stepwise.{fresh_first, quiet_step, clean_step, count_own, log_own}

-- the machine makes the steps of a run without a race
quiet_moves : (b : Board) (moves ms : List Move) (i : ℕ) → Fresh b → AreOfRunning b moves → i ≤ length moves → from_place moves i ≡ ms → Quiet b moves i
    → AreCleanSteps (tracked b moves i) ms × (machine_after (tracked b moves i) ms ≡ tracked b moves (length moves))
quiet_moves b moves [] i fresh run inside e quiet = (tt, ap (λ (j : ℕ). tracked b moves j) (none_from moves i e inside))
quiet_moves b moves (m ∷ ms) i fresh run inside e quiet =
    let a = at_from moves i m ms e in
    let l = a.inside in
    let s = quiet_step b moves i m.channel m.step fresh run l a.at (quiet i (omega arith) l) in
    let r = quiet_moves b moves ms (suc i) fresh run (omega (arith, l)) a.later (λ j up there. quiet j (omega (arith, up)) there) in (
      (s.clean, subst (λ (x : State). AreCleanSteps x ms) s.next r.0),
      ap (λ (x : State). machine_after x ms) (sym s.next) ∙ r.1,
    )

-- and where each of these is clean, the run has none
clean_moves : (b : Board) (moves ms : List Move) (i : ℕ) → Fresh b → AreOfRunning b moves → from_place moves i ≡ ms → i ≤ length moves → AreCleanSteps (tracked b moves i) ms → Quiet b moves i
clean_moves b moves [] i fresh run e inside clean = λ j up there. let s = none_from moves i e inside in absurd (omega (arith, up, there, s))
clean_moves b moves (m ∷ ms) i fresh run e inside clean =
    let a = at_from moves i m ms e in
    let l = a.inside in
    let s = clean_step b moves i m.channel m.step fresh run l a.at clean.0 in
    let r = clean_moves b moves ms (suc i) fresh run a.later (omega (arith, l)) (subst (λ (x : State). AreCleanSteps x ms) (sym s.next) clean.1) in
    λ j up there. elim (cases_Bool (j == i)) [
      | inl y ↦ subst (λ (k : ℕ). HasNoRaceAt b moves k) (sym (eqb-true j i y)) s.quiet
      | inr n ↦ r j (above j i up n) there
    ]
  where
    above : (j i : ℕ) → i ≤ j → (j == i) ≡ false → suc i ≤ j
    above j i up n = grind (arith, up, n)

pub quiet_are_clean : (start : StartView) (moves : List Move) → QuietRunsAreClean start moves
quiet_are_clean start moves sound run =
    let b : Board = first_board start in
    let fresh = fresh_first start sound in
    let first : tracked b moves 0 ≡ tracked b [] 0 = begin b moves in
    let made : IsQuiet b moves → AreCleanSteps (tracked b moves 0) moves × (machine_after (tracked b moves 0) moves ≡ tracked b moves (length moves)) =
    λ quiet. quiet_moves b moves moves 0 fresh run (omega arith) refl (λ j up there. quiet j there) in
    record {
      quiet = (
        λ quiet. subst (λ (x : State). AreCleanSteps x moves) first (made quiet).0,
        λ clean i inside. clean_moves b moves moves 0 fresh run refl (omega arith) (subst (λ (x : State). AreCleanSteps x moves) (sym first) clean) i (omega arith) inside,
      );
      ends = λ quiet. ap (λ (x : State). machine_after x moves) (sym first) ∙ (made quiet).1;
    }

-- the clock of a channel's last event
abbrev chosen_at : ℕ → Clock → (ℕ → Clock) → ℕ → ℕ
chosen_at n f old x = with_value_at n f old n x

placed_there : (n : ℕ) (f : Clock) (old : ℕ → Clock) (x : ℕ) → chosen_at n f old x ≡ f x
placed_there n f old x = ap (λ (t : Bool). (if t then f else old n) x) (eq-eqb n n refl)

last_in : (b : Board) (moves : List Move) (i c x : ℕ) → ((y : ℕ) → clocks_at b moves i c ((rows_at b moves i).past c c) y ≡ (rows_at b moves i).past c y)
    → clocks_in b moves i (clocks_at b moves i c) c ((rows_in b moves i).past c c) x ≡ (rows_in b moves i).past c x
last_in b moves i c x old = elim (cases_Bool (c == actor b moves i)) [
  | inl y ↦
      ap (λ (f : ℕ → Clock). f ((rows_in b moves i).past c c) x) (if_true (c == actor b moves i) (with_value_at ((rows_in b moves i).past c c) ((rows_in b moves i).past c) (clocks_at b moves i c)) (clocks_at b moves i c) y)
      ∙ placed_there ((rows_in b moves i).past c c) ((rows_in b moves i).past c) (clocks_at b moves i c) x
  | inr n ↦
      let same : (z : ℕ) → (rows_in b moves i).past c z ≡ (rows_at b moves i).past c z = λ z. opened_other (course_of b moves) i (rows_at b moves i) c z n in
      ap (λ (f : ℕ → Clock). f ((rows_in b moves i).past c c) x) (if_false (c == actor b moves i) (with_value_at ((rows_in b moves i).past c c) ((rows_in b moves i).past c) (clocks_at b moves i c)) (clocks_at b moves i c) n)
      ∙ ap (λ (j : ℕ). clocks_at b moves i c j x) (same c) ∙ old x ∙ sym (same x)
]

pub last_clock : (b : Board) (moves : List Move) (i c x : ℕ) → clocks_at b moves i c ((rows_at b moves i).past c c) x ≡ (rows_at b moves i).past c x
last_clock b moves zero c x = refl
last_clock b moves (suc i) c x =
    let inner : ℕ → Clock = clocks_in b moves i (clocks_at b moves i c) c in
    let there : ℕ = (rows_at b moves (suc i)).past c c in
    elim (cases_Bool (goes_in b moves i c)) [
      | inl y ↦
          ap (λ (f : ℕ → Clock). f there x) (if_true (goes_in b moves i c) (with_value_at there ((rows_at b moves (suc i)).past c) inner) inner y)
          ∙ placed_there there ((rows_at b moves (suc i)).past c) inner x
      | inr n ↦
          let same : (z : ℕ) → (rows_at b moves (suc i)).past c z ≡ (rows_in b moves i).past c z = λ z. closed_other (course_of b moves) i (rows_in b moves i) c z n in
          ap (λ (f : ℕ → Clock). f there x) (if_false (goes_in b moves i c) (with_value_at there ((rows_at b moves (suc i)).past c) inner) inner n)
          ∙ ap (λ (j : ℕ). inner j x) (same c) ∙ last_in b moves i c x (λ y. last_clock b moves i c y) ∙ sym (same x)
    ]

past_own : (b : Board) (ms : List Move) (i c : ℕ) → (own_at b ms i c).past ≡ (rows_at b ms i).past c
unfolding own_at
past_own b ms i c = refl

-- the order of two events by the clock of the later
order_told : (b : Board) (moves : List Move) (i c n d k : ℕ) (e f : EventId) → i ≤ length moves → event_in (events_upto b moves c i) n ≡ Some e → event_in (events_upto b moves d i) k ≡ Some f
    → Before b moves e f ↔ ((suc n ≤ clocks_at b moves i d (suc k) c) × (AreOne b moves e f → ⊥))
order_told b moves i c n d k e f inside at_e at_f =
    let run = course_of b moves in
    let first = (events_told b moves c i inside).phase in
    let second = (events_told b moves d i inside).phase in
    let place : row run e c ≡ suc n = first.place n e at_e in
    let clock : clocks_at b moves i d (suc k) c ≡ row run f c = second.clock k f c at_f in
    let early_e = first.early n e at_e in
    let early_f = second.early k f at_f in
    let channel : e.channel ≡ c = first.channel n e at_e in (
      λ path.
          let w = before_to run e f c (order_in b moves e f path) in
          let up = w.0 in
          (omega (arith, place, clock, up), λ one. w.1 (one_in b moves e f one)),
      λ both.
          let low = both.0 in
          let up : row run e c ≤ row run f c = omega (arith, place, clock, low) in
          order_from b moves e f (omega (arith, early_f, inside)) (before_from run e f (first.there n e at_e) (second.there k f at_f)
          (subst (λ (z : ℕ). row run e z ≤ row run f z) (sym channel) up) (λ one. both.1 (one_from b moves e f (omega (arith, early_e, inside)) one))),
    )

pub fields_told : (start : StartView) (moves : List Move) (i : ℕ) → FieldsAreOfTheRun start moves i
fields_told start moves i sound run inside =
    let b : Board = first_board start in
    let fresh = fresh_first start sound in
    record {
      board = board_told b moves i (zones_at b moves i fresh.zones run inside);
      count = λ c. count_own b moves i c ∙ sym (events_told b moves c i inside).count;
      past = λ c x.
          ap (λ (f : Clock). f x) (past_own b moves i c) ∙ sym (last_clock b moves i c x)
          ∙ ap₂ (λ (f : ℕ → Clock) (n : ℕ). f n x) (sym (log_own b moves i c)) (sym (count_own b moves i c));
      order = λ c n d k e f at_e at_f.
          subst (λ (g : ℕ → Clock). Before b moves e f ↔ ((suc n ≤ g (suc k) c) × (AreOne b moves e f → ⊥))) (sym (log_own b moves i d))
          (order_told b moves i c n d k e f inside at_e at_f);
    }
