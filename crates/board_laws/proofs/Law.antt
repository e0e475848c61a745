-- The law of two steps.
use Rattle.std.proofs.Common.{◌≡◌, ℕ, ◌==◌, Bool, true, false, inl, inr, sym, ap, subst, ◌∙◌}
use Rattle.std.proofs.lemmas.Bool.{cases_Bool}
use Rattle.sync_types.specs.Runs.{Script}
use Rattle.sync_types.specs.declared.Step.{Step}
use Rattle.board_laws.specs.Machine.{Own, State, Effect, is_running, settle, put_own, with_effect, touches, effect, next_step, turn_by, turn, runs_at}
use Rattle.board_laws.specs.Clean.{GoesClean, ActClean, IsClean, Clean, IsAct, Rests}
use Rattle.board_laws.proofs.Basics.{no}
use Rattle.board_laws.proofs.Absorb.{Joint, absorbed}
use Rattle.board_laws.proofs.Bounds.{q_stays}
use Rattle.board_laws.proofs.Forward.{Between, joint_forward, act_forward, goes_forward}
use Rattle.board_laws.proofs.Back.{joint_back, first_back, act_back, goes_back}
use Rattle.board_laws.proofs.Invariants.{put_inv, put_robs_nobody, settle_rests}
use Rattle.board_laws.proofs.Actions.{act_is}
use Rattle.board_laws.specs.Laws.{Swapped}
use Rattle.board_laws.proofs.Swap.{runner_put, effect_settle, effect_put, put_swap, between, disjoint_names, act_first, act_later}

goes_at : (t : State) (q : ℕ) (e h : Effect) → e ≡ h → GoesClean (with_effect t q e) → GoesClean (with_effect t q h)
goes_at t q e h s g = subst (λ (z : Effect). GoesClean (with_effect t q z)) s g

pub swap_turns : (b : State) (p q : ℕ) (sp sq : Step) → Rests b → (p == q) ≡ false → (q == p) ≡ false → runs_at b p ≡ true → runs_at b q ≡ true
    → IsClean b p sp → IsClean (turn_by b p sp) q sq → Swapped b p q sp sq
swap_turns b p q sp sq rests pq qp run_p run_q clean_p clean_q =
    let e : Effect = effect b p sp in
    let h : Effect = effect b q sq in
    let np : ℕ → Bool = touches sp.action in
    let nq : ℕ → Bool = touches sq.action in
    let act_p : IsAct p (b.own p) np e = act_is b p sp in
    let act_q : IsAct q (b.own q) nq h = act_is b q sq in
    let t1 : State = with_effect b p e in
    let t2 : State = with_effect b q h in
    let own_q : put_own b p e q ≡ b.own q = runner_put b p q e qp run_q in
    let own_p : put_own b q h p ≡ b.own p = runner_put b q p h pq run_p in
    let run_q1 : is_running (put_own b p e q).seat ≡ true = ap (λ (o : Own). is_running o.seat) own_q ∙ run_q in
    let run_p2 : is_running (put_own b q h p).seat ≡ true = ap (λ (o : Own). is_running o.seat) own_p ∙ run_p in
    let act0 : ActClean (settle t1) q nq (effect (settle t1) q sq) = clean_q.act in
    let disjoint : (y : ℕ) → np y ≡ true → nq y ≡ false = disjoint_names b p q np nq e (effect (settle t1) q sq) rests act_p pq qp run_q act0 in
    let disjoint' : (y : ℕ) → nq y ≡ true → np y ≡ false = λ y n. elim (cases_Bool (np y)) [ inl on ↦ no n (disjoint y on) | inr off ↦ off ] in
    let eff_q : effect (settle t1) q sq ≡ h = effect_settle t1 q sq run_q1 ∙ effect_put b p q np e sq act_p run_p qp run_q disjoint' in
    let eff_p : effect (settle t2) p sp ≡ e = effect_settle t2 p sp run_p2 ∙ effect_put b q p nq h sp act_q run_q pq run_p disjoint in
    let between_q : Between t1 q nq h = between b p q np nq e h rests act_p act_q pq qp run_q in
    let between_p : Between t2 p np e = between b q p nq np h e rests act_q act_p qp pq run_p in
    let act1 : ActClean (settle t1) q nq h = subst (λ (z : Effect). ActClean (settle t1) q nq z) eff_q act0 in
    let going1 : GoesClean (with_effect (settle t1) q h) = goes_at (settle t1) q (effect (settle t1) q sq) h eff_q clean_q.going in
    let joint1 : Joint t1 q nq h = joint_forward t1 q nq h between_q clean_p.going act1 in
    let act_q1 : ActClean t1 q nq h = act_forward t1 q nq h between_q act1 in
    let goes1 : GoesClean (with_effect t1 q h) = goes_forward t1 q nq h joint1 between_q.inv clean_p.going going1 in
    let swap : with_effect t1 q h ≡ with_effect t2 p e = put_swap b p q np nq e h act_p act_q pq qp disjoint in
    let goes2 : GoesClean (with_effect t2 p e) = subst (λ (z : State). GoesClean z) swap goes1 in
    let act_p2 : ActClean t2 p np e = act_later b p q np nq e h rests act_p act_q pq qp run_p run_q disjoint clean_p.act act_q1 in
    let joint2 : Joint t2 p np e = joint_back t2 p np e between_p act_p2 goes2 in
    let act2 : ActClean (settle t2) p np e = act_back t2 p np e joint2 act_p2 in
    let going2 : GoesClean (with_effect (settle t2) p e) = goes_back t2 p np e between_p joint2 goes2 in
    record {
      first = record { act = act_first b p q np nq e h rests act_p qp run_p run_q act_q1; going = first_back t2 p np e joint2 goes2 };
      second = record {
        act = subst (λ (z : Effect). ActClean (settle t2) p np z) (sym eff_p) act2;
        going = goes_at (settle t2) p e (effect (settle t2) p sp) (sym eff_p) going2;
      };
      state =
          ap (λ (z : Effect). settle (with_effect (settle t1) q z)) eff_q
          ∙ absorbed t1 q nq h joint1
          ∙ ap (λ (z : State). settle z) swap
          ∙ sym (absorbed t2 p np e joint2)
          ∙ sym (ap (λ (z : Effect). settle (with_effect (settle t2) p z)) eff_p);
    }

-- a running channel stays as it is at another's step
pub stays_running : (b : State) (p q : ℕ) (step : Step) → (q == p) ≡ false → runs_at b q ≡ true → (turn_by b p step).own q ≡ b.own q
stays_running b p q step qp run_q =
    let here : put_own b p (effect b p step) q ≡ b.own q = runner_put b p q (effect b p step) qp run_q in
    let run : is_running (put_own b p (effect b p step) q).seat ≡ true = ap (λ (o : Own). is_running o.seat) here ∙ run_q in
    q_stays (with_effect b p (effect b p step)) q run ∙ here

pub persists : (b : State) (p q : ℕ) (step : Step) → (q == p) ≡ false → runs_at b q ≡ true → runs_at (turn_by b p step) q ≡ true
persists b p q step qp run_q = ap (λ (o : Own). is_running o.seat) (stays_running b p q step qp run_q) ∙ run_q

pub turn_rests : (b : State) (p : ℕ) (step : Step) → Rests b → Rests (turn_by b p step)
turn_rests b p step rests = settle_rests (with_effect b p (effect b p step)) (put_inv b p (touches step.action) (effect b p step) rests.inv (act_is b p step)) (put_robs_nobody b p step rests.takes_free)

-- the same where the steps are those of a script
pub record ScriptSwapped (script : Script) (b : State) (p q : ℕ) : Type 0 where
  pub first : Clean script b q
  pub second : Clean script (turn script b q) p
  pub state : turn script (turn script b p) q ≡ turn script (turn script b q) p

pub swap_script : (script : Script) (b : State) (p q : ℕ) → Rests b → (p == q) ≡ false → (q == p) ≡ false → runs_at b p ≡ true → runs_at b q ≡ true
    → Clean script b p → Clean script (turn script b p) q → ScriptSwapped script b p q
swap_script script b p q rests pq qp run_p run_q clean_p clean_q =
    let sp : Step = next_step script b p in
    let sq : Step = next_step script b q in
    let eq : next_step script (turn script b p) q ≡ sq = ap (λ (o : Own). script q o.grants) (stays_running b p q sp qp run_q) in
    let ep : next_step script (turn script b q) p ≡ sp = ap (λ (o : Own). script p o.grants) (stays_running b q p sq pq run_p) in
    let s = swap_turns b p q sp sq rests pq qp run_p run_q clean_p (subst (λ (z : Step). IsClean (turn_by b p sp) q z) eq clean_q) in
    record {
      first = s.first;
      second = subst (λ (z : Step). IsClean (turn_by b q sq) p z) (sym ep) s.second;
      state = ap (λ (z : Step). turn_by (turn_by b p sp) q z) eq ∙ s.state ∙ sym (ap (λ (z : Step). turn_by (turn_by b q sq) p z) ep);
    }
