use Rattle.std.proofs.Common.{◌≡◌, drop}
use Rattle.clash_check.specs.FirstAnswer.{first_some}
use Rattle.clash_check.specs.Meetings as model
use Rattle.order_clocks.specs.Tells.{is_before_in}
use Rattle.clash_check.proofs.meetings.first_against.Given as goal

abbrev pub invariant-loop-stretch : goal.invariant-loop-stretch
invariant-loop-stretch l =
    first_some (model.first_in_stretches (record { job = l.scene.job.now; run = l.scene.run.now; before = is_before_in l.scene.clocks.now.rows }) l.left.zone.now l.left.stretch.now l.other) (drop l.stretch-index l.others)
    ≡ first_some (model.first_in_stretches (record { job = l.scene.job.now; run = l.scene.run.now; before = is_before_in l.scene.clocks.now.rows }) l.left.zone.now l.left.stretch.now l.other) l.others
