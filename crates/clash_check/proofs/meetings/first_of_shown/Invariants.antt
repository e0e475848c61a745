use Rattle.std.proofs.Common.{◌≡◌, ◌≤◌, ◌-◌, drop, take, length}
use Rattle.clash_check.specs.FirstAnswer.{first_some}
use Rattle.clash_check.specs.Meetings as model
use Rattle.clash_check.specs.Passing.{IsMemoryOfAny}
use Rattle.order_clocks.specs.Tells.{is_before_in}
use Rattle.clash_check.proofs.meetings.first_of_shown.Given as goal

abbrev pub invariant-loop-place : goal.invariant-loop-place
invariant-loop-place l =
    (first_some (model.first_in_stretches (record { job = l.scene.job.now; run = l.scene.run.now; before = is_before_in l.scene.clocks.now.rows }) l.left.zone.now l.left.stretch.now l.other.zone.now) (drop l.place (take l.range.upto l.other.stretches.now))
    ≡ first_some (model.first_in_stretches (record { job = l.scene.job.now; run = l.scene.run.now; before = is_before_in l.scene.clocks.now.rows }) l.left.zone.now l.left.stretch.now l.other.zone.now) (drop l.range.from (take l.range.upto l.other.stretches.now)))
    × (l.place ≤ length l.other.stretches.now) × IsMemoryOfAny l.scene.job.now l.scene.run.now l.left.zone.now l.other.zone.now l.other.stretches.now l.memory

abbrev pub decreases-loop-place : goal.decreases-loop-place
decreases-loop-place l = l.range.upto - l.place
