use Rattle.std.proofs.Common.{◌∙◌, ◌++◌, Option, ap}
use Rattle.explain_stops.specs.Waits.{some_lack_text}
use Rattle.explain_stops.specs.declared.lacks.Lack.{Lack}
use Rattle.explain_stops.proofs.holds.say_mark_of.Goals as goal

pub returns : goal.returns
returns c b shown =
    c.say_some_lack.ensures
    ∙ ap (λ (lack : Option Lack). c.args.text.now ++ some_lack_text c.args.told.now.lines.now c.args.told.now.job.now c.args.told.now.run.now lack) (c.lacked_mark-lacked.ensures b shown)
