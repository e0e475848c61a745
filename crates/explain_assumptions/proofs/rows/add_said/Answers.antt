use Rattle.explain_assumptions.proofs.ListLaws.{three}
use Rattle.explain_assumptions.specs.Rows.{said_rows}
use Rattle.explain_assumptions.proofs.rows.add_said.Goals as goal

pub returns : goal.returns
unfolding said_rows
returns c = three _ _ _ _ _ _ _ c.in_ok-add_radius.ensures c.in_ok-add_offsets.ensures c.in_ok-add_parameters.ensures
