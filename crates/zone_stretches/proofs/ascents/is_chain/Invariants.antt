use Rattle.std.proofs.Common.{◌≡◌, drop}
use Rattle.order_clocks.specs.Tells.{is_before_in}
use Rattle.zone_stretches.specs.Ascents as model
use Rattle.zone_stretches.proofs.ascents.is_chain.Given as goal

abbrev pub invariant-loop-place : goal.invariant-loop-place
invariant-loop-place l = model.is_chain (is_before_in l.clocks.rows) (drop l.place l.stretches) ≡ model.is_chain (is_before_in l.clocks.rows) l.stretches
