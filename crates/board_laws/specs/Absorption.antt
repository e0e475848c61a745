-- Law. What goes on after a step may wait for the next step of another channel.
use Rattle.std.specs.Prelude.{◌≡◌, ◌↔◌, ℕ, ◌==◌, true, false}
use Rattle.sync_types.specs.declared.Step.{Step}
use Rattle.board_laws.specs.Clean.{GoesClean, IsClean, IsAct, Rests}
use Rattle.board_laws.specs.Machine.{Mark, Axis, Call, State, asks, is_at, mine, ready, settle, with_effect, touches, effect, turn_by, runs_at}

-- the own part of a step, after which nobody has gone on yet
abbrev pub own_part_by : State → ℕ → Step → State
own_part_by b p step = with_effect b p (effect b p step)

-- All that is ready and the own part of q's step leave each other alone: the marks of q that are needed still stand, who stays does
-- not wait then for a mark that is lowered, nobody else asks then for an axis that is taken, and nobody goes on by q's START.
pub record LeaveAlone (t : State) (q : ℕ) (step : Step) : Type 0 where
  pub runs : runs_at t q ≡ true
  pub called : (c : ℕ) → asks (t.own c).seat (Call q) ≡ false
  pub needed : (c k : ℕ) → ready t c ≡ true → asks (t.own c).seat (Mark q k) ≡ true → (effect t q step).own.marks k ≡ true
  pub lowered : (c d k : ℕ) → ready t d ≡ true → is_at (t.own d).seat k ≡ true → ready t c ≡ false → asks ((own_part_by t q step).own c).seat (Mark d k) ≡ false
  pub taken : (c d a : ℕ) → ready t c ≡ true → asks (t.own c).seat (Axis a) ≡ true → mine t c a ≡ false → (d == c) ≡ false → asks ((own_part_by t q step).own d).seat (Axis a) ≡ false

-- where they do, it is the same whether all that is ready goes on before q's step or with what goes on after it
abbrev pub GoingsAreAbsorbed : State → ℕ → Step → Type 0
GoingsAreAbsorbed t q step = LeaveAlone t q step → turn_by (settle t) q step ≡ turn_by t q step

-- What goes on after p's own part goes on before q's step, or with what goes on after it: the one is clean exactly where the other
-- is, and then both lead to the same state.
pub record CleanEitherWay (b : State) (p q : ℕ) (p_step q_step : Step) : Type 0 where
  pub clean : (GoesClean (own_part_by b p p_step) × IsClean (turn_by b p p_step) q q_step) ↔ IsClean (own_part_by b p p_step) q q_step
  pub state : IsClean (own_part_by b p p_step) q q_step → turn_by (turn_by b p p_step) q q_step ≡ turn_by (own_part_by b p p_step) q q_step

-- for another channel q that runs
abbrev pub GoingsMayWait : State → ℕ → ℕ → Step → Step → Type 0
GoingsMayWait b p q p_step q_step = Rests b → (p == q) ≡ false → runs_at b q ≡ true → CleanEitherWay b p q p_step q_step

-- whatever its action, a step makes of its own part what an action may
abbrev pub StepsAreActs : State → ℕ → Step → Type 0
StepsAreActs b p step = IsAct p (b.own p) (touches step.action) (effect b p step)

-- and leads from rest to rest: no clock or place exceeds its count, and nobody is left started
abbrev pub StaysAtRest : State → ℕ → Step → Type 0
StaysAtRest b p step = Rests b → Rests (turn_by b p step)
