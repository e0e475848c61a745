use Rattle.std.proofs.Common.{◌∙◌}
use Rattle.nc_control_flow.specs.Parts.{views}
use Rattle.nc_control_flow.specs.Targets.{has_number}
use Rattle.nc_control_flow.proofs.Indexed.{places_ascend}
use Rattle.nc_control_flow.proofs.flow.Flow.targets.Goals as goal

pub returns-in-Number-clause-ascend : goal.returns-in-Number-clause-ascend
returns-in-Number-clause-ascend c =
    places_ascend (has_number c.in-Number.number) (views c.self.inside.blocks.items) _ (c.places_of_number.ensures ∙ c.self.invariant.index.by_number c.in-Number.number)
