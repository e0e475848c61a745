use Rattle.std.proofs.Common.{◌≡◌, take}
use Rattle.std.specs.List.{fold}
use Rattle.explain_views.specs.Extents.{reach_track}
use Rattle.explain_views.proofs.extents.reach_tracks.Given as goal

abbrev pub invariant-loop-track : goal.invariant-loop-track
invariant-loop-track l = l.extent ≡ fold (reach_track l.direction) l.initial.extent (take l.track-index l.tracks)
