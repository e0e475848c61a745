use Rattle.explain_assumptions.proofs.ListLaws.{two}
use Rattle.explain_assumptions.specs.Rows.{done_rows}
use Rattle.explain_assumptions.proofs.rows.add_done.Goals as goal

pub returns : goal.returns
unfolding done_rows
returns c = two _ _ _ _ _ c.in_ok-add_positions.ensures c.in_ok-add_counts.ensures
