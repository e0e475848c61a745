use Rattle.std.proofs.Common.{◌∙◌, ◌||◌, Bool, ap}
use Rattle.explain_stops.specs.MarkTables.{is_for}
use Rattle.explain_stops.proofs.mark_tables.is_awaited_to.Goals as goal

pub returns : goal.returns
returns c b shown =
    c.either.ensures ∙ ap (λ (here : Bool). c.args.before || here) (c.is_for-here.ensures ∙ ap (is_for c.args.mark) (c.hold_of-held.ensures b shown))
