-- Steps. A run of a job with the order of its events, and a box of a stretch in it.
use Rattle.job_types.specs.Job.{JobView}
use Rattle.job_types.specs.declared.job.ZoneLine.{ZoneLine}
use Rattle.sync_types.specs.Views.{RunView}
use Rattle.zone_stretches.specs.Overlaps.{BoxPlace, Order}
use Rattle.zone_stretches.specs.Stretches.{StretchView}
use Rattle.zone_stretches.specs.declared.stretches.ZoneBox.{ZoneBox}
use Rattle.zone_stretches.specs.declared.timed_zones.ZoneStretch.{ZoneStretch}

-- a job, a run of it, and the order of its events
pub record Case : Type 0 where
  pub job : JobView
  pub run : RunView
  pub before : Order

abbrev pub place_of : ZoneLine → StretchView → ZoneBox → BoxPlace
place_of zone stretch box = record { zone = zone; stretch = stretch; box = box }

-- a box of a stretch
abbrev pub box_of : ZoneStretch → ZoneBox → BoxPlace
box_of held box = place_of held.zone.now held.stretch.now box
