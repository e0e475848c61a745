-- A step of a run, and what is so of runs between steps.
use Rattle.std.proofs.Common.{◌≡◌, ℕ, zero, suc, ◌≤◌, ◌<◌, ◌==◌, ◌||◌, Bool, true, false, List, [], ◌∷◌, length, Some, None, inl, inr, refl, sym, ap, subst, ◌∙◌, arith}
use Rattle.std.proofs.lemmas.Bool.{cases_Bool, eqb-true, true≢false}
use Rattle.sync_types.proofs.FreeTakings.{NobodyRobs, step_robs_nobody}
use Rattle.sync_types.specs.BoardActions.{after_own_part, channels_started}
use Rattle.sync_types.specs.BoardAlarms.{alarm_of}
use Rattle.sync_types.specs.Boards.{IsIdle, IsRunning, State as Doing, Ownership, OwnedBy, FreeAt, Board, among, owner_of, ownership_of, is_running, is_idle}
use Rattle.sync_types.specs.Events.{channels_in}
use Rattle.sync_types.specs.GoingOn.{Going, goings_on, after_goings, takes_from_standing}
use Rattle.sync_types.specs.Turns.{Move, after_step, AreOfRunning}
use Rattle.sync_types.specs.declared.Step.{Step}
use Rattle.order_clocks.specs.Happenings.{Happening, board_at, happening_of, happening_at, going_of}
use Rattle.order_clocks.proofs.WholeLaws.{board_zero}
use Rattle.board_laws.specs.Machine.{Need, Mark, Axis, Call, Seat, In, Called, Own, Cell, State, Effect, asks, ready, doing_of, board_of, with_effect, put_own, effect}
use Rattle.board_laws.specs.Machine as machine
use Rattle.board_laws.specs.Zones.{Zones}
use Rattle.board_laws.proofs.Basics.{in_no_call}
use Rattle.board_laws.proofs.Takings.{IsOf}
use Rattle.board_laws.proofs.SettledBoards.{board_eq, holder_by_axes}
use Rattle.board_laws.proofs.Zones.{zones_step}
use Rattle.board_laws.proofs.AtOnce.{Orderly}
use Rattle.board_laws.proofs.Goings.{Went, went_of, Part, part_of}
use Rattle.schedule_laws.specs.Tracked.{move_at, part_at, actor, own_at, free_position, cell_at, tracked}

-- the step of a place in a run
pub record StepAt (b : Board) (moves : List Move) (i : ℕ) : Type 0 where
  pub move : Move
  pub at : move_at moves i ≡ Some move
  pub happens : happening_at b moves i ≡ happening_of (board_at b moves i) move.channel move.step
  pub part : part_at b moves i ≡ after_own_part (board_at b moves i) move.channel move.step
  pub after : board_at b moves (suc i) ≡ after_step (board_at b moves i) move.channel move.step
  pub runs : is_running ((board_at b moves i).state move.channel) ≡ true

pub step_at : (b : Board) (moves : List Move) (i : ℕ) → i < length moves → AreOfRunning b moves → StepAt b moves i
step_at b [] i inside run = absurd (omega arith)
step_at b (m ∷ ms) zero inside run = record { move = m; at = refl; happens = refl; part = refl; after = board_zero ms (after_step b m.channel m.step); runs = run.0 }
step_at b (m ∷ ms) (suc i) inside run =
    let w = step_at (after_step b m.channel m.step) ms i (omega arith) run.1 in
    record { move = w.move; at = w.at; happens = w.happens; part = w.part; after = w.after; runs = w.runs }

-- at the start nobody waits or has stopped
pub record Fresh (b : Board) : Type 0 where
  pub zones : Zones b
  pub awake : (c : ℕ) → (is_idle (b.state c) || is_running (b.state c)) ≡ true
  pub marks : (c m : ℕ) → b.marks c m ≡ false

pub zones_at : (b : Board) (moves : List Move) (i : ℕ) → Zones b → AreOfRunning b moves → i ≤ length moves → Zones (board_at b moves i)
zones_at b moves zero zs run inside = subst (λ (a : Board). Zones a) (sym (board_zero moves b)) zs
zones_at b moves (suc i) zs run inside =
    let w = step_at b moves i (omega arith) run in
    subst (λ (a : Board). Zones a) (sym w.after) (zones_step (board_at b moves i) w.move.channel w.move.step (zones_at b moves i zs run (omega arith)))

-- nor does one take axes from channels that stand
pub none_fresh : (b : Board) → Fresh b → NobodyRobs b
none_fresh b fresh c = awake_takes_free (b.state c) (fresh.awake c)
  where
    awake_takes_free : (s : Doing) → (is_idle s || is_running s) ≡ true → takes_from_standing s ≡ false
    awake_takes_free IsIdle on = refl
    awake_takes_free (IsRunning g) on = refl
    awake_takes_free s on = absurd (true≢false (sym on))

pub none_at : (b : Board) (moves : List Move) (i : ℕ) → NobodyRobs b → AreOfRunning b moves → i ≤ length moves → NobodyRobs (board_at b moves i)
none_at b moves zero none run inside = subst (λ (a : Board). NobodyRobs a) (sym (board_zero moves b)) none
none_at b moves (suc i) none run inside =
    let w = step_at b moves i (omega arith) run in
    subst (λ (a : Board). NobodyRobs a) (sym w.after) (step_robs_nobody (board_at b moves i) w.move.channel w.move.step (none_at b moves i none run (omega arith)))

ownership_is : (a : Ownership) → ownership_of (owner_of a) (free_position a) ≡ a
ownership_is (OwnedBy c) = refl
ownership_is (FreeAt p) = refl

-- the board of the machine of a run is that of the run
pub board_told : (b : Board) (moves : List Move) (i : ℕ) → Zones (board_at b moves i) → board_of (tracked b moves i) ≡ board_at b moves i
unfolding own_at cell_at
board_told b moves i zs = board_eq (board_of (tracked b moves i)) (board_at b moves i) refl (λ c m. refl) (λ c. refl) (λ c. refl) (λ c x. refl) (λ x. ownership_is ((board_at b moves i).axis x))
    (λ z. sym (holder_by_axes (board_at b moves i) (tracked b moves i) zs refl (λ x. sym (ownership_is ((board_at b moves i).axis x))) z)) (λ z. refl)

pub seat_at : (b : Board) (moves : List Move) (i c : ℕ) → (own_at b moves i c).seat ≡ In ((board_at b moves i).state c)
unfolding own_at
seat_at b moves i c = refl

-- a step of a run, on its machine
pub record Here (b : Board) (moves : List Move) (i : ℕ) : Type 0 where
  pub p : ℕ
  pub step : Step
  pub at : move_at moves i ≡ Some (record { channel = p; step = step })
  pub run : machine.is_running (own_at b moves i p).seat ≡ true
  pub uncalled : (c r : ℕ) → asks (own_at b moves i c).seat (Call r) ≡ false
  pub orderly : Orderly (tracked b moves i)
  pub happens : happening_at b moves i ≡ happening_of (board_of (tracked b moves i)) p step
  pub part : part_at b moves i ≡ after_own_part (board_of (tracked b moves i)) p step
  pub after : board_at b moves (suc i) ≡ after_step (board_of (tracked b moves i)) p step
  pub parts : Part (tracked b moves i) p step

pub here : (b : Board) (moves : List Move) (i : ℕ) → Fresh b → AreOfRunning b moves → i < length moves → Here b moves i
here b moves i fresh run inside =
    let w = step_at b moves i inside run in
    let zi = zones_at b moves i fresh.zones run (omega (arith, inside)) in
    let e = board_told b moves i zi in
    let runs : machine.is_running (own_at b moves i w.move.channel).seat ≡ true = ap (λ (s : Seat). machine.is_running s) (seat_at b moves i w.move.channel) ∙ running ((board_at b moves i).state w.move.channel) w.runs in
    let uncalled : (c r : ℕ) → asks (own_at b moves i c).seat (Call r) ≡ false = λ c r. ap (λ (s : Seat). asks s (Call r)) (seat_at b moves i c) ∙ in_no_call ((board_at b moves i).state c) r in
    let none : NobodyRobs (board_at b moves i) = none_at b moves i (none_fresh b fresh) run (omega (arith, inside)) in
    let orderly : Orderly (tracked b moves i) = record { zones = subst (λ (a : Board). Zones a) (sym e) zi; none = subst (λ (a : Board). NobodyRobs a) (sym e) none } in
    record {
      p = w.move.channel;
      step = w.move.step;
      at = w.at;
      run = runs;
      uncalled = uncalled;
      orderly = orderly;
      happens = w.happens ∙ ap (λ (a : Board). happening_of a w.move.channel w.move.step) (sym e);
      part = w.part ∙ ap (λ (a : Board). after_own_part a w.move.channel w.move.step) (sym e);
      after = w.after ∙ ap (λ (a : Board). after_step a w.move.channel w.move.step) (sym e);
      parts = part_of (tracked b moves i) w.move.channel w.move.step runs uncalled orderly;
    }
  where
    running : (s : Doing) → is_running s ≡ true → machine.is_running (In s) ≡ true
    running (IsRunning g) on = refl
    running s on = absurd (true≢false (sym on))

-- the machine within the step, after the own part
abbrev pub mid : {b : Board} {moves : List Move} {i : ℕ} → Here b moves i → State
mid {b} {moves} {i} w = with_effect (tracked b moves i) w.p (effect (tracked b moves i) w.p w.step)

abbrev pub starts : {b : Board} {moves : List Move} {i : ℕ} → Here b moves i → List ℕ
starts {b} {moves} {i} w = channels_started (alarm_of (board_of (tracked b moves i)) w.p w.step.action) w.step.action

pub goings_told : (b : Board) (moves : List Move) (i : ℕ) (w : Here b moves i) → (happening_at b moves i).goings ≡ goings_on (board_of (mid w)) (starts w)
goings_told b moves i w = ap (λ (h : Happening). h.goings) w.happens ∙ ap (λ (a : Board). goings_on a (starts w)) w.parts.board

pub actor_told : (b : Board) (moves : List Move) (i : ℕ) (w : Here b moves i) → actor b moves i ≡ w.p
actor_told b moves i w = ap (λ (h : Happening). h.channel) w.happens

pub after_told : (b : Board) (moves : List Move) (i : ℕ) (w : Here b moves i) → board_at b moves (suc i) ≡ after_goings (board_of (mid w))
after_told b moves i w = w.after ∙ ap after_goings w.parts.board

pub went_told : (b : Board) (moves : List Move) (i : ℕ) (w : Here b moves i) (g : Going) → IsOf g (happening_at b moves i).goings → Went (mid w) g
went_told b moves i w g on = went_of (mid w) (starts w) g w.parts.orderly w.parts.called (subst (λ (gs : List Going). IsOf g gs) (goings_told b moves i w) on)

-- the going on of a channel
pub found_in : (gs : List Going) (c : ℕ) (g : Going) → going_of gs c ≡ Some g → IsOf g gs × (g.channel ≡ c)
found_in [] c g e = let bad : ⊥ = cc in absurd bad
found_in (h ∷ gs) c g e = elim (cases_Bool (h.channel == c)) [
  | inl y ↦
      let s : Some h ≡ Some g = sym (was_here y) ∙ e in
      let t : h ≡ g = cc in
      (inl (sym t), ap (λ (x : Going). x.channel) (sym t) ∙ eqb-true h.channel c y)
  | inr n ↦ let r = found_in gs c g (sym (was_there n) ∙ e) in (inr r.0, r.1)
]
  where
    was_here : (h.channel == c) ≡ true → going_of (h ∷ gs) c ≡ Some h
    was_here y = rw y refl

    was_there : (h.channel == c) ≡ false → going_of (h ∷ gs) c ≡ going_of gs c
    was_there n = rw n refl

pub going_there : (gs : List Going) (c : ℕ) → among (channels_in gs) c ≡ true → (g : Going) × (going_of gs c ≡ Some g)
going_there [] c on = absurd (true≢false (sym on))
going_there (h ∷ gs) c on = elim (cases_Bool (h.channel == c)) [
  | inl y ↦ (h, rw y refl)
  | inr n ↦ let r = going_there gs c (later (h.channel == c) (among (channels_in gs) c) n on) in (r.0, was_there n ∙ r.1)
]
  where
    was_there : (h.channel == c) ≡ false → going_of (h ∷ gs) c ≡ going_of gs c
    was_there n = rw n refl

    later : (a b : Bool) → a ≡ false → (a || b) ≡ true → b ≡ true
    later true b n on = absurd (true≢false n)
    later false b n on = on

pub going_none : (gs : List Going) (c : ℕ) → among (channels_in gs) c ≡ false → going_of gs c ≡ None
going_none [] c out = refl
going_none (h ∷ gs) c out = elim (cases_Bool (h.channel == c)) [
  | inl y ↦ absurd (true≢false (sym (first (h.channel == c) (among (channels_in gs) c) y) ∙ out))
  | inr n ↦ rw n (going_none gs c (rest (h.channel == c) (among (channels_in gs) c) n out))
]
  where
    first : (a b : Bool) → a ≡ true → (a || b) ≡ true
    first true b on = refl
    first false b on = absurd (true≢false (sym on))

    rest : (a b : Bool) → a ≡ false → (a || b) ≡ false → b ≡ false
    rest true b n on = absurd (true≢false n)
    rest false b n on = on
