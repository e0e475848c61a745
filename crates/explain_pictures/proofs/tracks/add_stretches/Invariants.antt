use Rattle.std.proofs.Common.{◌≡◌, ◌++◌, take}
use Rattle.std.specs.List.{flat_map}
use Rattle.explain_pictures.specs.Tracks.{tracks_of_stretch}
use Rattle.explain_pictures.specs.Focus.{view_of}
use Rattle.explain_pictures.proofs.tracks.add_stretches.Given as goal

abbrev pub invariant-loop-stretch : goal.invariant-loop-stretch
invariant-loop-stretch l = take l.limit l.tracks.items ≡ take l.limit (l.initial.tracks.items ++ flat_map (tracks_of_stretch (view_of l.scene) l.zone) (take l.stretch-index l.stretches))
