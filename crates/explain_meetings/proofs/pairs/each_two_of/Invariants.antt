use Rattle.std.proofs.Common.{◌≡◌, ◌++◌, All, map}
use Rattle.explain_meetings.specs.PairSteps.{AreReady, two_with}
use Rattle.order_clocks.specs.Tells.{is_before_in}
use Rattle.zone_stretches.specs.TimedZones.{each_two}
use Rattle.explain_meetings.proofs.pairs.each_two_of.Given as goal

abbrev pub invariant-loop-two : goal.invariant-loop-two
invariant-loop-two l =
    All (AreReady (is_before_in l.scene.clocks.now.rows) l.scene.job.now l.scene.run.now) l.two-iterator
    × (l.pairs.items ++ map (two_with (is_before_in l.scene.clocks.now.rows) l.scene.job.now l.scene.run.now) l.two-iterator
    ≡ map (two_with (is_before_in l.scene.clocks.now.rows) l.scene.job.now l.scene.run.now) (each_two l.fn.zones))
