use Rattle.std.proofs.Common.{◌≡◌, ◌∙◌, ◌+◌, ◌==◌, false, length, drop, sym, ap, ℕ, rules, arith}
use Rattle.std.specs.List.{sum_by}
use Rattle.std.proofs.lemmas.List.Sums.{sum_by-drop_more}
use Rattle.order_clocks.specs.Tells.{is_before_in}
use Rattle.clash_check.proofs.TimeLaws.{counted_more, counted_all, sum_past}
use Rattle.clash_check.specs.PairCounts.{count_in_stretches, count_against}
use Rattle.zone_stretches.specs.Stretches.{StretchView}
use Rattle.clash_check.proofs.pair_counts.count_against.Goals as goal

pub loop-right-preserved : goal.loop-right-preserved
loop-right-preserved c =
    let found : StretchView → ℕ = count_in_stretches (is_before_in c.args.clocks.now.rows) c.args.left.now in
    counted_more c.loop-right.count c.saturating_add-count.result _ c.count_in_stretches.result _ _ (sum_by found c.args.others.now) c.count_in_stretches.ensures c.saturating_add-count.ensures
    (sum_by-drop_more found c.args.others.now c.loop-right.right-index c.right-item.result (omega arith)
    ∙ ap (λ (x : StretchView). found x + sum_by found (drop (c.loop-right.right-index + 1) c.args.others.now)) (sym c.right-item.is)) c.loop-right.invariant

pub returns : goal.returns
unfolding count_against
returns c =
    let some : (length c.args.left.now.boxes == 0) ≡ false = search rules in
    rw some (counted_all c.loop-right.count _ _ (sum_past (count_in_stretches (is_before_in c.args.clocks.now.rows) c.args.left.now) c.args.others.now c.loop-right.right-index (omega arith)) c.loop-right.invariant)
