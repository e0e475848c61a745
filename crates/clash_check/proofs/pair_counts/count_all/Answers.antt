use Rattle.std.proofs.Common.{◌∙◌, ◌+◌, drop, sym, ap, ℕ, arith}
use Rattle.std.specs.List.{sum_by}
use Rattle.std.proofs.lemmas.List.Sums.{sum_by-drop_more}
use Rattle.order_clocks.specs.Tells.{is_before_in}
use Rattle.clash_check.proofs.TimeLaws.{counted_more, counted_all, sum_past}
use Rattle.clash_check.specs.PairCounts.{count_against}
use Rattle.zone_stretches.specs.Stretches.{StretchView}
use Rattle.clash_check.proofs.pair_counts.count_all.Goals as goal

pub loop-left-preserved : goal.loop-left-preserved
loop-left-preserved c =
    let found : StretchView → ℕ = count_against (is_before_in c.args.clocks.now.rows) c.args.others.now in
    counted_more c.loop-left.count c.saturating_add-count.result _ c.count_against.result _ _ (sum_by found c.args.own.now) c.count_against.ensures c.saturating_add-count.ensures
    (sum_by-drop_more found c.args.own.now c.loop-left.left-index c.left-item.result (omega arith)
    ∙ ap (λ (x : StretchView). found x + sum_by found (drop (c.loop-left.left-index + 1) c.args.own.now)) (sym c.left-item.is)) c.loop-left.invariant

pub returns : goal.returns
returns c = counted_all c.loop-left.count _ _ (sum_past (count_against (is_before_in c.args.clocks.now.rows) c.args.others.now) c.args.own.now c.loop-left.left-index (omega arith)) c.loop-left.invariant
