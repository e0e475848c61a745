use Rattle.std.proofs.Common.{◌≤◌, ◌∙◌, sym, arith}
use Rattle.axis_sets.specs.declared.limits.TheConstants.{AXIS_LIMIT}
use Rattle.zone_stretches.specs.Rows.{positions_in}
use Rattle.zone_stretches.specs.ZoneBoxes.{stand_after}
use Rattle.protection_zones.proofs.RowLaws.{all_axes, after_beyond, past_row}
use Rattle.protection_zones.proofs.rows.settle.Goals as goal

pub returns : goal.returns
returns c =
    all_axes (positions_in c.loop-index.row) (stand_after c.args.item.now (positions_in c.args.row.now))
    (λ k h. c.loop-index.invariant.put k (let here : AXIS_LIMIT ≤ c.loop-index.index = omega arith in omega arith))
    (λ k far. past_row c.loop-index.row k c.loop-index.invariant.long far ∙ sym (after_beyond c.args.item.now (positions_in c.args.row.now) k c.requires far ∙ past_row c.args.row.now k c.told-row far))
