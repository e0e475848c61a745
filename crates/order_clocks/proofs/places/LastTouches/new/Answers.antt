use Rattle.axis_sets.specs.declared.limits.TheConstants.{AXIS_LIMIT, CHANNEL_PLACES}
use Rattle.std.proofs.Common.{refl, replicate}
use Rattle.order_clocks.proofs.PlaceLaws.{zero_spots}
use Rattle.order_clocks.proofs.places.LastTouches.new.Goals as goal

pub returns : goal.returns
returns c =
    let zero = c.zero-zero.result in
    λ t x. zero_spots (record { lowered = c.in_ok-lowered.lowered; needed = c.in_ok-needed.needed; took = replicate AXIS_LIMIT zero; touched = replicate CHANNEL_PLACES zero }) zero c.zero-zero.ensures.counts c.in_ok-lowered.ensures c.in_ok-needed.ensures refl refl t x
