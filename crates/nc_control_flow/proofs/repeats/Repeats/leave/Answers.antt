use Rattle.nc_control_flow.specs.Repetitions.{is_within}
use Rattle.nc_control_flow.proofs.Repeating.{own_filtered}
use Rattle.nc_control_flow.proofs.repeats.Repeats.leave.Goals as goal

pub invariant_of-self : goal.invariant_of-self
invariant_of-self c =
    own_filtered (is_within c.args.place) c.self.inside.running.items c.as_slice.result.now _ c.as_slice.ensures.value c.with_block-self-inside.ensures c.self.invariant
