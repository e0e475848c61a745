use Rattle.explain_assumptions.proofs.RowLaws.{offsets_told}
use Rattle.explain_assumptions.proofs.rows.add_offsets.Goals as goal

pub returns : goal.returns
returns c =
    offsets_told c.args.channel c.args.remarks.now c.in_ok-firsts.firsts.items c.as_slice-table.result.now c.as_slice-table.ensures.value c.args.rows.now.items c.add_all_unused.new.rows.items c.args.job.now
    c.in_ok-firsts.ensures c.first_at.result c.add_no_offset.new.rows.items c.first_at.ensures c.in_ok-add_no_offset.ensures c.in_ok-add_all_unused.ensures
