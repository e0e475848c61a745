use Rattle.std.proofs.Common.{◌∙◌, ◌++◌, Option, ap}
use Rattle.std.specs.Option.{option_to_list}
use Rattle.explain_stops.specs.declared.passes.MarkRow.{MarkRow}
use Rattle.explain_stops.proofs.rows.push_channel.Goals as goal

pub returns : goal.returns
returns c = c.in_ok-push_row.ensures ∙ ap (λ (row : Option MarkRow). c.args.list.now.items ++ option_to_list row) c.row_in-row.ensures
