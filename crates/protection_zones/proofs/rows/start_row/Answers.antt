use Rattle.std.proofs.Common.{◌≤◌, ◌∙◌, sym, arith}
use Rattle.axis_sets.specs.declared.limits.TheConstants.{AXIS_LIMIT}
use Rattle.job_types.specs.Axes.{start_position}
use Rattle.zone_stretches.specs.Rows.{positions_in}
use Rattle.protection_zones.proofs.RowLaws.{all_axes, past_row, no_start}
use Rattle.protection_zones.proofs.rows.start_row.Goals as goal

pub returns : goal.returns
returns c =
    all_axes (positions_in c.loop-index.row) (start_position c.args.job.now)
    (λ k h. c.loop-index.invariant.put k (let here : AXIS_LIMIT ≤ c.loop-index.index = omega arith in omega arith))
    (λ k far. past_row c.loop-index.row k c.loop-index.invariant.long far ∙ sym (no_start c.args.job.now k c.requires far))
