-- The pairs of a zone more.
use Rattle.std.proofs.Common.{◌≡◌, ◌∙◌, ℕ, suc, ◌+◌, ◌-◌, List, ◌++◌, append_assoc, sym, ap, arith}
use Rattle.clash_check.specs.ZonePairs.{pairs_from, pairs_with}
use Rattle.clash_check.proofs.zone_pairs.zone_pairs.Goals as goal

pub loop-place-preserved : goal.loop-place-preserved
loop-place-preserved c =
    let place : ℕ = c.loop-place.place in
    let rest : ℕ = c.args.count - (place + 1) in
    let left : c.args.count - place ≡ suc rest = omega arith in
    ap (λ (pairs : List (ℕ × ℕ)). pairs ++ pairs_from (place + 1) rest) c.in_ok-push_pairs.ensures ∙ append_assoc c.loop-place.pairs.items (pairs_with place (place + 1) rest) (pairs_from (place + 1) rest)
    ∙ ap (λ (n : ℕ). c.loop-place.pairs.items ++ pairs_from place n) (sym left) ∙ c.loop-place.invariant
