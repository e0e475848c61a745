use Rattle.std.proofs.Common.{◌∙◌, ℕ, Option, ◌++◌, ap}
use Rattle.explain_stops.specs.Stuck.{channel_wait}
use Rattle.explain_stops.specs.Waits.{wait_text}
use Rattle.sync_types.specs.Boards.{Hold}
use Rattle.explain_stops.proofs.stuck_text.say_channel_wait.Goals as goal

pub returns : goal.returns
unfolding channel_wait
returns c b shown =
    c.say_wait.ensures b shown
    ∙ ap (λ (wait : Option (Hold × ℕ)). c.args.text.now ++ wait_text c.args.told.now.lines.now c.args.told.now.job.now c.args.told.now.run.now b c.args.channel wait) (c.hold_of-held.ensures b shown)
