use Rattle.nc_control_flow.specs.Parts.{views}
use Rattle.nc_control_flow.specs.Targets.{has_label, first_of_range}
use Rattle.nc_control_flow.proofs.Resolving.{nearest_in_before}
use Rattle.nc_control_flow.proofs.flow.Flow.first_of_range.Goals as goal

pub returns : goal.returns
unfolding first_of_range
returns c = nearest_in_before (has_label c.args.name.now) c.args.pc (views c.args.self.now) _ _ c.labelled.ensures.places c.last_before.ensures
