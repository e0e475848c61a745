use Rattle.std.proofs.Common.{◌∙◌}
use Rattle.nc_control_flow.specs.Parts.{views}
use Rattle.nc_control_flow.specs.Targets.{has_label}
use Rattle.nc_control_flow.proofs.Indexed.{places_ascend}
use Rattle.nc_control_flow.proofs.flow.Flow.labelled.Goals as goal

pub returns-clause-ascend : goal.returns-clause-ascend
returns-clause-ascend c =
    places_ascend (has_label c.as_bytes.result.now) (views c.self.inside.blocks.items) _ (c.places_of_label.ensures ∙ c.self.invariant.index.by_label c.as_bytes.result.now)
