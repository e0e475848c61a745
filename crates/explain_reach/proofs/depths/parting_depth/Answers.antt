use Rattle.std.proofs.Common.{◌≡◌, ℕ, inl, inr, map, refl, subst, arith}
use Rattle.std.proofs.lemmas.Bool.{cases_lt}
use Rattle.arrayvec.specs.ArrayVec.{ArrayVec}
use Rattle.explain_reach.specs.Depths.{DoMeetAt}
use Rattle.swept_boxes.specs.declared.Box3.{Box3}
use Rattle.explain_reach.proofs.depths.parting_depth.Goals as goal

pub loop-deeper-preserved : goal.loop-deeper-preserved
loop-deeper-preserved c between above below = elim (cases_lt between c.loop-deeper.deeper) [
  | inl less ↦ c.loop-deeper.invariant between above less
  | inr past ↦
      let same : c.loop-deeper.deeper ≡ between = omega arith in
      subst (λ (k : ℕ). DoMeetAt (map (λ (l : ArrayVec Box3). l.items) c.args.lefts.now) (map (λ (l : ArrayVec Box3). l.items) c.args.rights.now) k) same (c.if-not-meet_at.ensures.0 refl)
]
