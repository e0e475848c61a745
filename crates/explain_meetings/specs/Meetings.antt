-- Meaning. All boxes of a run that meet.
use Rattle.std.specs.Prelude.{List, map, filter}
use Rattle.job_types.specs.Job.{JobView}
use Rattle.sync_types.specs.Views.{RunView}
use Rattle.explain_places.specs.declared.place.Meeting.{Meeting}
use Rattle.explain_places.specs.declared.place.Place.{Place}
use Rattle.zone_stretches.specs.Overlaps.{Order, BoxPlace, Pair, compared_pairs}
use Rattle.zone_stretches.specs.Pieces.{pair_meets}
use Rattle.zone_stretches.specs.Stretches.{StretchView, StretchesView}
use Rattle.zone_stretches.specs.declared.stretches.ZoneBox.{ZoneBox}

-- what is told of a box of a stretch: its name is that of its stretch, with the line of the box
unfoldable pub told_box : StretchView → ZoneBox → Place
told_box stretch box = record {
  name = record stretch.name { line = box.line };
  first = stretch.first;
  last = stretch.last;
  entry = stretch.entry;
  motion = box.motion;
  from = box.from;
  to = box.to;
  cover = box.cover;
}

abbrev pub told_place : BoxPlace → Place
told_place place = told_box place.stretch place.box

abbrev pub told_pair : Pair → Meeting
told_pair pair = record { left = told_place pair.0; right = told_place pair.1 }

-- all compared pairs that meet, in their order
unfoldable pub meetings_of : Order → JobView → RunView → StretchesView → List Meeting
meetings_of before job run stretches = map told_pair (filter (pair_meets job run) (compared_pairs before job stretches))
