-- One result for all runs.
use Rattle.std.proofs.Common.{◌≡◌, ℕ, suc, ◌+◌, ◌==◌, true, false, List, [], ◌∷◌, inl, inr, refl, sym, ap, subst, ◌∙◌, arith, length}
use Rattle.std.proofs.lemmas.Bool.{cases_Bool, eqb-true, true≢false}
use Rattle.sync_types.specs.Runs.{Script}
use Rattle.board_laws.specs.Machine.{State, turn, runs_at, next_step}
use Rattle.board_laws.specs.Clean.{Clean, Rests}
use Rattle.board_laws.specs.Sequences.{IsRun, AreClean, IsWhole, end_of}
use Rattle.board_laws.proofs.Back.{turned}
use Rattle.board_laws.proofs.Law.{swap_script, persists, turn_rests}

abbrev Whole : Script → State → List ℕ → State → Type 0
Whole σ x ps z = IsWhole (turn σ) runs_at (Clean σ) x ps z

-- a running channel can go first
pub first : (σ : Script) (x z : State) (p : ℕ) (ps : List ℕ) → Rests x → runs_at x p ≡ true → Whole σ x ps z
    → Clean σ x p × ((rest : List ℕ) × ((length ps ≡ suc (length rest)) × Whole σ (turn σ x p) rest z))
first σ x z p [] rests on w = absurd (true≢false (sym on ∙ ap (λ (y : State). runs_at y p) w.ends ∙ w.over p))
first σ x z p (q ∷ qs) rests on w =
    elim (cases_Bool (q == p)) [
      | inl i ↦
          let e : q ≡ p = eqb-true q p i in (
            subst (λ (y : ℕ). Clean σ x y) e w.clean.0,
            (
              qs,
              (
                refl,
                record {
                  run = subst (λ (y : ℕ). IsRun (turn σ) runs_at (turn σ x y) qs) e w.run.1;
                  clean = subst (λ (y : ℕ). AreClean (turn σ) (Clean σ) (turn σ x y) qs) e w.clean.1;
                  over = w.over;
                  ends = subst (λ (y : ℕ). end_of (turn σ) (turn σ x y) qs ≡ z) e w.ends;
                },
              ),
            ),
          )
      | inr qp ↦
          let pq : (p == q) ≡ false = turned q p qp in
          let r = first σ (turn σ x q) z p qs (turn_rests x q (next_step σ x q) rests) (persists x q p (next_step σ x q) pq on)
          (record { run = w.run.1; clean = w.clean.1; over = w.over; ends = w.ends }) in
          let s = swap_script σ x q p rests qp pq w.run.0 on w.clean.0 r.0 in
          let rest : List ℕ = r.1.0 in
          let more : length qs ≡ suc (length rest) = r.1.1.0 in
          let tail : Whole σ (turn σ (turn σ x p) q) rest z = subst (λ (y : State). Whole σ y rest z) s.state r.1.1.1 in (
            s.first,
            (
              q ∷ rest,
              (
                ap suc more,
                record { run = (persists x p q (next_step σ x p) qp w.run.0, tail.run); clean = (s.second, tail.clean); over = tail.over; ends = tail.ends },
              ),
            ),
          )
    ]

-- what one clean maximal run says of every run
pub one_result : (σ : Script) (x z : State) (ps vs : List ℕ) → Rests x → Whole σ x ps z → IsRun (turn σ) runs_at x vs
    → AreClean (turn σ) (Clean σ) x vs × ((rest : List ℕ) × ((length ps ≡ length vs + length rest) × Whole σ (end_of (turn σ) x vs) rest z))
one_result σ x z ps [] rests w r = (tt, (ps, (omega arith, w)))
one_result σ x z ps (v ∷ vs) rests w r =
    let f = first σ x z v ps rests r.0 w in
    let rest : List ℕ = f.1.0 in
    let less : length ps ≡ suc (length rest) = f.1.1.0 in
    let n = one_result σ (turn σ x v) z rest vs (turn_rests x v (next_step σ x v) rests) f.1.1.1 r.1 in
    let more : length rest ≡ length vs + length n.1.0 = n.1.1.0 in
    ((f.0, n.0), (n.1.0, (omega (arith, less, more), n.1.1.1)))
