-- Meaning. What is looked at, and what is apart in time from it.
use Rattle.std.specs.Prelude.{◌||◌, not, Bool, false, [], Option, None, Some}
use Rattle.job_types.specs.Job.{JobView}
use Rattle.order_clocks.specs.Tells.{is_before_in}
use Rattle.zone_stretches.specs.Overlaps.{Order, may_overlap}
use Rattle.zone_stretches.specs.Stretches.{StretchView, StretchesView}
use Rattle.explain_pictures.specs.declared.scene.Scene.{Scene}
use Rattle.sync_types.specs.Views.{RunView}
use Rattle.explain_places.specs.declared.place.Meeting.{Meeting}
use Rattle.explain_places.specs.declared.place.Place.{Place}

-- what a picture is made of: a job, its run, the time of its zones, the order of the events, and the two boxes that are looked at, if any are
pub record SceneView : Type 0 where
  pub job : JobView
  pub run : RunView
  pub stretches : StretchesView
  pub before : Order
  pub focus : Option Meeting

-- what a scene of the code is made of
unfoldable pub view_of : Scene → SceneView
view_of scene = record {
  job = scene.job.now;
  run = scene.run.now;
  stretches = scene.stretches.now;
  before = is_before_in scene.clocks.now.rows;
  focus = scene.focus;
}

-- the stretch of a place; of it no boxes are asked for
abbrev pub stretch_of : Place → StretchView
stretch_of place = record { name = place.name; first = place.first; last = place.last; entry = place.entry; boxes = [] }

-- a stretch may overlap with that of a place
abbrev pub overlaps : Order → StretchView → Place → Bool
overlaps before stretch place = may_overlap before stretch (stretch_of place)

-- a stretch may overlap with neither of the two that are looked at; where nothing is looked at, none is apart
abbrev pub is_apart : Order → Option Meeting → StretchView → Bool
is_apart before None stretch = false
is_apart before (Some focus) stretch = not (overlaps before stretch focus.left || overlaps before stretch focus.right)
