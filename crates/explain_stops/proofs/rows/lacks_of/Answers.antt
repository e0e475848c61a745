use Rattle.std.proofs.Common.{◌∙◌, List, ◌++◌, ap}
use Rattle.order_clocks.specs.Watching.{hold_shown}
use Rattle.explain_stops.specs.Lacks.{lacks_of}
use Rattle.explain_stops.specs.declared.lacks.Lack.{Lack}
use Rattle.explain_stops.proofs.rows.lacks_of.Goals as goal

pub returns : goal.returns
returns c b shown =
    c.in_ok-push_lacks.ensures b shown
    ∙ ap (λ (xs : List Lack). xs ++ lacks_of c.args.told.now.job.now c.args.told.now.run.now b c.args.own (hold_shown c.args.hold.now)) c.new-list.ensures.items
