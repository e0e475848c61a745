use Rattle.std.proofs.Common.{[]}
use Rattle.explain_places.proofs.LatestLaws.{latest_more}
use Rattle.explain_places.specs.Lines.{name_before}
use Rattle.explain_places.proofs.told.program_name.Goals as goal

pub loop-place-preserved : goal.loop-place-preserved
loop-place-preserved c =
    latest_more (name_before c.args.line) c.args.job.now.programs c.loop-place.place [] c.loop-place.name.now c.later_name-name.result.now c.loop-place.invariant c.later_name-name.ensures
