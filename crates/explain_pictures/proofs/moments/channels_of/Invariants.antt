use Rattle.std.proofs.Common.{◌≡◌}
use Rattle.std.specs.List.{filter, range_with_len}
use Rattle.job_types.specs.Channels.{has_channel}
use Rattle.explain_pictures.proofs.moments.channels_of.Given as goal

abbrev pub invariant-loop-index : goal.invariant-loop-index
invariant-loop-index l = l.channels.items ≡ filter (has_channel l.job) (range_with_len 1 l.index)
