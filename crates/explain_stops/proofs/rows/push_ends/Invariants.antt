-- Those so far are in the list.
use Rattle.std.proofs.Common.{◌≡◌, ◌++◌, take}
use Rattle.std.specs.List.{flat_map}
use Rattle.std.specs.Option.{option_to_list}
use Rattle.axis_sets.specs.Sets.{members_of}
use Rattle.explain_stops.specs.Lacks.{lacked_end}
use Rattle.explain_stops.proofs.rows.push_ends.Given as goal

abbrev pub invariant-loop-channel : goal.invariant-loop-channel
invariant-loop-channel l = l.list.items ≡ l.initial.list.items ++ flat_map (λ channel. option_to_list (lacked_end l.told.job.now l.told.run.now l.own (members_of l.named) channel)) (take l.channel-index l.channel-items)
