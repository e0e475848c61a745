-- The pairs that are left have the first answer.
use Rattle.std.proofs.Common.{◌≡◌, drop}
use Rattle.clash_check.specs.ZonePairs as model
use Rattle.order_clocks.specs.Tells.{is_before_in}
use Rattle.zone_stretches.specs.Times.{lists_in}
use Rattle.clash_check.proofs.zone_pairs.first_of_pairs.Given as goal

abbrev pub invariant-loop-pair : goal.invariant-loop-pair
invariant-loop-pair l =
    model.first_of_pairs (record { job = l.scene.job.now; run = l.scene.run.now; before = is_before_in l.scene.clocks.now.rows }) (lists_in l.lists) (drop l.pair-index l.pairs)
    ≡ model.first_of_pairs (record { job = l.scene.job.now; run = l.scene.run.now; before = is_before_in l.scene.clocks.now.rows }) (lists_in l.lists) l.pairs
