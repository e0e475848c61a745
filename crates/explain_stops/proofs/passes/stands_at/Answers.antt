use Rattle.std.proofs.Common.{false}
use Rattle.explain_stops.specs.Passes.{raised_in}
use Rattle.explain_places.proofs.LatestLaws.{latest_more}
use Rattle.explain_stops.proofs.passes.stands_at.Goals as goal

pub loop-place-preserved : goal.loop-place-preserved
loop-place-preserved c =
    latest_more (raised_in c.args.channel c.args.mark) c.args.run.now.entries c.loop-place.place false c.loop-place.stands c.later_raising-stands.result c.loop-place.invariant c.later_raising-stands.ensures
