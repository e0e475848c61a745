use Rattle.std.proofs.Common.{◌≡◌, ◌+◌, drop}
use Rattle.order_clocks.specs.Tells.{is_before_in}
use Rattle.zone_stretches.specs.Ascents as model
use Rattle.zone_stretches.proofs.ascents.Passing.count_between.Given as goal

abbrev pub invariant-loop-place : goal.invariant-loop-place
invariant-loop-place l =
    l.place + model.leading (model.passes (is_before_in l.self.clocks.now.rows) l.self.ended l.self.own.now) (drop l.place l.others) ≡ model.leading (model.passes (is_before_in l.self.clocks.now.rows) l.self.ended l.self.own.now) l.others
