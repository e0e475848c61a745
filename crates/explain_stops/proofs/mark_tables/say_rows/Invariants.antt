-- The channels so far are said.
use Rattle.std.proofs.Common.{◌≡◌, ◌++◌, take}
use Rattle.std.specs.List.{flat_map}
use Rattle.explain_stops.specs.MarkTables.{row_in, some_row_text}
use Rattle.explain_stops.proofs.mark_tables.say_rows.Given as goal

abbrev pub invariant-loop-channel : goal.invariant-loop-channel
invariant-loop-channel l = l.text ≡ l.initial.text
    ++ flat_map (λ channel. some_row_text l.told.lines.now l.told.job.now (row_in l.told.job.now l.told.run.now l.mark channel)) (take l.channel-index l.channel-items)
