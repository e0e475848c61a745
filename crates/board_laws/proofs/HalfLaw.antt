-- What goes on after a step may wait for the next step of another channel.
use Rattle.std.proofs.Common.{◌≡◌, ℕ, ◌==◌, Bool, true, false, inl, inr, sym, ap, subst, ◌∙◌}
use Rattle.std.proofs.lemmas.Bool.{cases_Bool, eqb-true}
use Rattle.sync_types.specs.declared.Step.{Step}
use Rattle.board_laws.specs.Absorption.{own_part_by, GoingsAreAbsorbed, GoingsMayWait}
use Rattle.board_laws.specs.Machine.{Call, Own, State, Effect, asks, is_running, settle, with_effect, put_own, touches, effect, turn_by, runs_at}
use Rattle.board_laws.specs.Clean.{GoesClean, ActClean, IsClean, IsAct, Rests}
use Rattle.board_laws.proofs.Basics.{no}
use Rattle.board_laws.proofs.Absorb.{Joint, absorbed}
use Rattle.board_laws.proofs.Actions.{act_is}
use Rattle.board_laws.proofs.Forward.{Between, joint_forward, act_forward, goes_forward}
use Rattle.board_laws.proofs.Back.{turned, joint_back, first_back, act_back, goes_back}
use Rattle.board_laws.proofs.Swap.{runner_put, effect_settle, between}

-- the two states by q's step, where the two leave each other alone
joined : (t : State) (q : ℕ) (step : Step) → is_running (t.own q).seat ≡ true → Joint t q (touches step.action) (effect t q step) → turn_by (settle t) q step ≡ turn_by t q step
joined t q step run joint =
    ap (λ (z : Effect). settle (with_effect (settle t) q z)) (effect_settle t q step run) ∙ absorbed t q (touches step.action) (effect t q step) joint

pub goings_absorbed : (t : State) (q : ℕ) (step : Step) → GoingsAreAbsorbed t q step
goings_absorbed t q step w = joined t q step w.runs (record {
  runs = w.runs;
  act = act_is t q step;
  called = λ c r y. elim (cases_Bool (r == q)) [
    | inl e ↦ no (subst (λ (z : ℕ). asks (t.own c).seat (Call z) ≡ true) (eqb-true r q e) y) (w.called c)
    | inr n ↦ n
  ];
  kept = w.needed;
  apart_marks = w.lowered;
  apart_axes = w.taken;
})

-- q's step after p's own part
abbrev Next : State → ℕ → Step → Type 0
Next t q step = Between t q (touches step.action) (effect t q step)

next_of : (b : State) (p q : ℕ) (p_step q_step : Step) → Rests b → (p == q) ≡ false → runs_at b q ≡ true → Next (own_part_by b p p_step) q q_step
next_of b p q p_step q_step rests pq run =
    let e : Effect = effect b p p_step in
    let h : Effect = effect (with_effect b p e) q q_step in
    let qp : (q == p) ≡ false = turned p q pq in
    let here : put_own b p e q ≡ b.own q = runner_put b p q e qp run in
    let act_q : IsAct q (b.own q) (touches q_step.action) h = subst (λ (o : Own). IsAct q o (touches q_step.action) h) here (act_is (with_effect b p e) q q_step) in
    between b p q (touches p_step.action) (touches q_step.action) e h rests (act_is b p p_step) act_q pq qp run

clean_at_once : (t : State) (q : ℕ) (step : Step) → Next t q step → GoesClean t → IsClean (settle t) q step → IsClean t q step
clean_at_once t q step w goes clean =
    let names : ℕ → Bool = touches step.action in
    let h : Effect = effect t q step in
    let same : effect (settle t) q step ≡ h = effect_settle t q step w.runs in
    let act : ActClean (settle t) q names h = subst (λ (z : Effect). ActClean (settle t) q names z) same clean.act in
    let going : GoesClean (with_effect (settle t) q h) = subst (λ (z : Effect). GoesClean (with_effect (settle t) q z)) same clean.going in
    let joint : Joint t q names h = joint_forward t q names h w goes act in
    record { act = act_forward t q names h w act; going = goes_forward t q names h joint w.inv goes going }

joint_of : (t : State) (q : ℕ) (step : Step) → Next t q step → IsClean t q step → Joint t q (touches step.action) (effect t q step)
joint_of t q step w clean = joint_back t q (touches step.action) (effect t q step) w clean.act clean.going

clean_in_turn : (t : State) (q : ℕ) (step : Step) → Next t q step → IsClean t q step → GoesClean t × IsClean (settle t) q step
clean_in_turn t q step w clean =
    let names : ℕ → Bool = touches step.action in
    let h : Effect = effect t q step in
    let same : h ≡ effect (settle t) q step = sym (effect_settle t q step w.runs) in
    let joint : Joint t q names h = joint_of t q step w clean in (
      first_back t q names h joint clean.going,
      record {
        act = subst (λ (z : Effect). ActClean (settle t) q names z) same (act_back t q names h joint clean.act);
        going = subst (λ (z : Effect). GoesClean (with_effect (settle t) q z)) same (goes_back t q names h w joint clean.going);
      },
    )

pub goings_wait : (b : State) (p q : ℕ) (p_step q_step : Step) → GoingsMayWait b p q p_step q_step
goings_wait b p q p_step q_step rests pq run =
    let t : State = own_part_by b p p_step in
    let w : Next t q q_step = next_of b p q p_step q_step rests pq run in
    record {
      clean = (λ both. clean_at_once t q q_step w both.0 both.1, λ clean. clean_in_turn t q q_step w clean);
      state = λ clean. joined t q q_step w.runs (joint_of t q q_step w clean);
    }
