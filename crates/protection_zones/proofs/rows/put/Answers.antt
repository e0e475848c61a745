use Rattle.std.proofs.Common.{◌≡◌, ◌<◌, ◌≤◌, ◌∙◌, sym, arith, length}
use Rattle.std.specs.Prelude.{unwrap_or}
use Rattle.axis_sets.specs.Positions.{position_of}
use Rattle.axis_sets.specs.declared.limits.TheConstants.{AXIS_LIMIT}
use Rattle.zone_stretches.specs.Rows.{positions_in}
use Rattle.protection_zones.proofs.RowLaws.{all_axes, past_row, put_beyond}
use Rattle.protection_zones.proofs.rows.put.Goals as goal

pub returns : goal.returns
returns c =
    let done : AXIS_LIMIT ≤ c.loop-index.index = omega arith in
    let some : 0 < c.loop-index.index = omega arith in
    let size : length c.args.at.now ≡ AXIS_LIMIT = c.loop-index.invariant.size some in
    all_axes (positions_in c.loop-index.row) (λ k. unwrap_or (position_of c.args.at.now k) (positions_in c.args.row.now k))
    (λ k h. c.loop-index.invariant.put k (omega arith))
    (λ k far. past_row c.loop-index.row k c.loop-index.invariant.long far ∙ sym (put_beyond c.args.at.now (positions_in c.args.row.now k) k size far ∙ past_row c.args.row.now k c.told-row far))
