use Rattle.std.proofs.Common.{◌≡◌, ◌++◌, take}
use Rattle.std.specs.List.{flat_map}
use Rattle.explain_views.specs.Views.{first_start}
use Rattle.explain_views.proofs.views.View.put_starts.Given as goal

abbrev pub invariant-loop-channel : goal.invariant-loop-channel
invariant-loop-channel l = l.text ≡ l.initial.text ++ flat_map (first_start l.self l.tracks) (take l.channel-index l.channels)
