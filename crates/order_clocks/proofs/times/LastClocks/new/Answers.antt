use Rattle.axis_sets.specs.declared.limits.TheConstants.{AXIS_LIMIT, CHANNEL_PLACES}
use Rattle.std.proofs.Common.{refl, replicate}
use Rattle.order_clocks.proofs.CountingLaws.{zero_row, zero_at}
use Rattle.order_clocks.proofs.times.LastClocks.new.Goals as goal

pub returns-clause-past : goal.returns-clause-past
returns-clause-past c = λ d x. zero_row CHANNEL_PLACES d x c.zero-zero.result c.zero-zero.ensures.counts

pub returns-clause-last : goal.returns-clause-last
returns-clause-last c =
    let zero = c.zero-zero.result in
    λ k x. zero_at (record { past = replicate CHANNEL_PLACES zero; raised = c.in_ok-raised.raised; freed = replicate AXIS_LIMIT zero; started = replicate CHANNEL_PLACES zero; ended = replicate CHANNEL_PLACES zero }) zero c.zero-zero.ensures.counts c.in_ok-raised.ensures refl refl refl k x
