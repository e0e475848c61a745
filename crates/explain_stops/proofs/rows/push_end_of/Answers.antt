use Rattle.std.proofs.Common.{◌∙◌, ◌++◌, Option, ap}
use Rattle.std.specs.Option.{option_to_list}
use Rattle.explain_stops.specs.declared.lacks.Lack.{Lack}
use Rattle.explain_stops.proofs.rows.push_end_of.Goals as goal

pub returns : goal.returns
returns c = c.in_ok-push_lack.ensures ∙ ap (λ (lack : Option Lack). c.args.list.now.items ++ option_to_list lack) c.lacked_end-lacked.ensures
