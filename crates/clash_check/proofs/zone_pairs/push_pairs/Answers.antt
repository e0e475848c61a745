-- A pair more.
use Rattle.std.proofs.Common.{◌≡◌, ◌∙◌, ℕ, suc, ◌+◌, ◌-◌, List, [], ◌∷◌, ◌++◌, append_assoc, sym, ap, arith}
use Rattle.clash_check.specs.ZonePairs.{pairs_with}
use Rattle.clash_check.proofs.zone_pairs.push_pairs.Goals as goal

pub loop-other-preserved : goal.loop-other-preserved
loop-other-preserved c =
    let place : ℕ = c.args.place in
    let other : ℕ = c.loop-other.other in
    let left : c.args.count - other ≡ suc (c.args.count - (other + 1)) = omega arith in
    ap (λ (pairs : List (ℕ × ℕ)). pairs ++ pairs_with place (other + 1) (c.args.count - (other + 1))) c.in_ok-push.ensures.items
    ∙ append_assoc c.loop-other.pairs.items ((place, other) ∷ []) (pairs_with place (other + 1) (c.args.count - (other + 1)))
    ∙ ap (λ (n : ℕ). c.loop-other.pairs.items ++ pairs_with place other n) (sym left) ∙ c.loop-other.invariant
