-- Those so far are in the list.
use Rattle.std.proofs.Common.{◌≡◌, ◌++◌, take}
use Rattle.std.specs.List.{flat_map}
use Rattle.std.specs.Option.{option_to_list}
use Rattle.explain_stops.specs.MarkTables.{row_in}
use Rattle.explain_stops.proofs.rows.push_channels.Given as goal

abbrev pub invariant-loop-channel : goal.invariant-loop-channel
invariant-loop-channel l = l.list.items ≡ l.initial.list.items ++ flat_map (λ channel. option_to_list (row_in l.told.job.now l.told.run.now l.mark channel)) (take l.channel-index l.channel-items)
