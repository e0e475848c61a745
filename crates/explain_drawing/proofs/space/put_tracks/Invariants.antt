use Rattle.std.proofs.Common.{◌≡◌, ◌++◌, take}
use Rattle.std.specs.List.{flat_map}
use Rattle.explain_drawing.specs.Space.{track_part}
use Rattle.explain_drawing.proofs.space.put_tracks.Given as goal

abbrev pub invariant-loop-track : goal.invariant-loop-track
invariant-loop-track l = l.text ≡ l.initial.text ++ flat_map (track_part l.told.lines.now l.told.job.now l.view) (take l.track-index l.tracks)
