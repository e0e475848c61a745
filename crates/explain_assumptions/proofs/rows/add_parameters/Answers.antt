use Rattle.explain_assumptions.proofs.RowLaws.{parameters_told}
use Rattle.explain_assumptions.proofs.rows.add_parameters.Goals as goal

pub returns : goal.returns
returns c =
    parameters_told c.args.channel c.args.remarks.now c.in_ok-firsts.firsts.items c.as_slice-table.result.now c.as_slice-table.ensures.value c.args.rows.now.items c.add_zeros.new.rows.items
    c.in_ok-firsts.ensures c.in_ok-add_zeros.ensures
