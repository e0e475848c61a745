use Rattle.std.proofs.Common.{◌≡◌, ◌++◌, take}
use Rattle.std.specs.List.{flat_map}
use Rattle.explain_pictures.specs.Tracks.{tracks_of_box}
use Rattle.explain_pictures.proofs.tracks.add_stretch.Given as goal

abbrev pub invariant-loop-own : goal.invariant-loop-own
invariant-loop-own l = take l.limit l.tracks.items ≡ take l.limit (l.initial.tracks.items ++ flat_map (tracks_of_box l.drawn.job.now l.drawn.run.now l.drawn.pale l.drawn.zone.now l.drawn.stretch.now) (take l.own-index l.own-items))
