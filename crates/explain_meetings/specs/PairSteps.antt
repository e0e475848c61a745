-- Steps. Two zones of which is told, one pair after another.
use Rattle.job_types.specs.Job.{JobView}
use Rattle.explain_meetings.specs.ZonePairs.{two_of}
use Rattle.explain_pairs.specs.declared.pairs.ZonePair.{ZonePair}
use Rattle.sync_types.specs.Views.{RunView}
use Rattle.zone_stretches.specs.InCovers.{ArePairsInCover}
use Rattle.zone_stretches.specs.Overlaps.{Order}
use Rattle.zone_stretches.specs.StretchPairs.{boxes_with}
use Rattle.zone_stretches.specs.TimedZones.{TimedZoneView, AreTimed}

-- their boxes may be looked at: their stretches begin and end in the order of events, and boxes lie in their covers
pub record AreReady (before : Order) (job : JobView) (run : RunView) (zones : TimedZoneView × TimedZoneView) : Type 0 where
  pub timed : AreTimed before zones
  pub covers : ArePairsInCover job run (boxes_with before zones)

-- what is told of them
abbrev pub two_with : Order → JobView → RunView → TimedZoneView × TimedZoneView → ZonePair
two_with before job run zones = two_of before job run (zones.0.time, zones.1.time)
