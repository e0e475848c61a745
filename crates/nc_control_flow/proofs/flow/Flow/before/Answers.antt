use Rattle.nc_control_flow.specs.Parts.{views}
use Rattle.nc_control_flow.specs.Targets.{is_target}
use Rattle.nc_control_flow.proofs.Resolving.{nearest_in_before}
use Rattle.nc_control_flow.proofs.flow.Flow.before.Goals as goal

pub returns : goal.returns
returns c = nearest_in_before (is_target c.args.target.now) c.args.pc (views c.args.self.now) _ _ c.targets.ensures.places c.last_before.ensures
