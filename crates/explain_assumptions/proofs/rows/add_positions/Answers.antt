use Rattle.axis_sets.specs.declared.limits.TheConstants.{AXIS_LIMIT}
use Rattle.std.proofs.Common.{◌≡◌, ◌∙◌, ◌++◌, Option, None, ap, arith, slice_index_or}
use Rattle.explain_assumptions.proofs.ListLaws.{count_more}
use Rattle.explain_assumptions.proofs.RowLaws.{all_positions}
use Rattle.explain_assumptions.specs.Rows.{standing_rows}
use Rattle.explain_assumptions.specs.declared.movers.Mover.{Mover}
use Rattle.explain_assumptions.proofs.rows.add_positions.Goals as goal

pub loop-index-preserved : goal.loop-index-preserved
loop-index-preserved c =
    count_more (λ axis. standing_rows c.args.channel axis (slice_index_or c.args.firsts.now axis None)) c.loop-index.index c.args.rows.now.items c.loop-index.rows.items c.add_standing.new.rows.items c.loop-index.invariant
    (c.in_ok-add_standing.ensures ∙ ap (λ (o : Option Mover). c.loop-index.rows.items ++ standing_rows c.args.channel c.loop-index.index o) c.mover_of.ensures)

pub returns : goal.returns
returns c =
    let all : c.loop-index.index ≡ AXIS_LIMIT = omega arith in
    all_positions c.args.channel c.args.firsts.now c.loop-index.index c.args.rows.now.items c.loop-index.rows.items all c.loop-index.invariant
