use Rattle.std.proofs.Common.{◌∙◌, Bool, [], ◌++◌, if◌then◌else◌, ap}
use Rattle.std.specs.List.{flat_map}
use Rattle.std.specs.Option.{option_to_list}
use Rattle.explain_stops.specs.MarkTables.{row_in}
use Rattle.explain_stops.specs.Rows.{rows_of_mark}
use Rattle.sync_types.specs.Boards.{channel_numbers}
use Rattle.explain_stops.proofs.rows.push_mark.Goals as goal

pub returns : goal.returns
unfolding rows_of_mark
returns c b shown =
    c.in_ok-push_channels_if.ensures
    ∙ ap (λ (awaited : Bool). c.args.list.now.items
    ++ (if awaited then flat_map (λ channel. option_to_list (row_in c.args.told.now.job.now c.args.told.now.run.now c.args.mark channel)) channel_numbers else []))
    (c.is_awaited-awaited.ensures b shown)
