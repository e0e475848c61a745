use Rattle.std.proofs.Common.{◌∙◌, sym}
use Rattle.nc_blocks.specs.Statement.{statement_view}
use Rattle.number_laws.proofs.Lists.{filter_map-range_some, filter_map-range_none}
use Rattle.explain_readings.specs.Readings.{reading_of}
use Rattle.explain_readings.proofs.readings.readings_below.Goals as goal
use Rattle.explain_readings.proofs.readings.readings_below.Goals.{in-Some+in_ok-push, in_default}

pub loop-number-preserved : goal.loop-number-preserved
loop-number-preserved g c =
    elim c.match-reading_of.branch [
      | in-Some+in_ok-push w ↦ rw (w.list-is, w.in_ok-push.ensures.items)
          (filter_map-range_some (reading_of (g.N.Names.values c.args.names.now) (statement_view c.args.opener.now) (statement_view c.args.statement.now)) c.loop-number.number _ _ c.loop-number.invariant
          (sym c.reading_of.ensures ∙ w.in-Some.is))
      | in_default w ↦ rw w.list-is
          (filter_map-range_none (reading_of (g.N.Names.values c.args.names.now) (statement_view c.args.opener.now) (statement_view c.args.statement.now)) c.loop-number.number _ c.loop-number.invariant
          (sym c.reading_of.ensures ∙ w.in_default.is))
    ]
