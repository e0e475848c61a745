use Rattle.std.proofs.Common.{◌≡◌, ◌++◌, take}
use Rattle.std.specs.List.{flat_map, range_with_len}
use Rattle.explain_pictures.specs.Tracks.{tracks_of_zone}
use Rattle.explain_pictures.specs.Focus.{view_of}
use Rattle.explain_pictures.proofs.tracks.add_zones.Given as goal

abbrev pub invariant-loop-place : goal.invariant-loop-place
invariant-loop-place l = take l.limit l.tracks.items ≡ take l.limit (l.initial.tracks.items ++ flat_map (tracks_of_zone (view_of l.scene)) (range_with_len 0 l.place))
