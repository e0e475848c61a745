use Rattle.std.proofs.Common.{◌∙◌, ◌++◌, Option, ap}
use Rattle.std.specs.Option.{option_to_list}
use Rattle.explain_stops.specs.declared.lacks.Lack.{Lack}
use Rattle.explain_stops.proofs.rows.push_mark_of.Goals as goal

pub returns : goal.returns
returns c b shown = c.in_ok-push_lack.ensures ∙ ap (λ (lack : Option Lack). c.args.list.now.items ++ option_to_list lack) (c.lacked_mark-lacked.ensures b shown)
