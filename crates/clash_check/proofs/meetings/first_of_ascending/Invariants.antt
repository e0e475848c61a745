use Rattle.std.proofs.Common.{◌≡◌, drop}
use Rattle.clash_check.specs.FirstAnswer.{first_some}
use Rattle.clash_check.specs.Meetings as model
use Rattle.clash_check.specs.Passing.{IsMemoryOfAny}
use Rattle.order_clocks.specs.Tells.{is_before_in}
use Rattle.zone_stretches.specs.Ascents.{IsWalk}
use Rattle.clash_check.proofs.meetings.first_of_ascending.Given as goal

abbrev pub invariant-loop-stretch : goal.invariant-loop-stretch
invariant-loop-stretch l =
    (first_some (model.first_against (record { job = l.scene.job.now; run = l.scene.run.now; before = is_before_in l.scene.clocks.now.rows }) l.zone (record { zone = l.other.zone.now; stretches = l.other.stretches.now })) (drop l.stretch-index l.own)
    ≡ first_some (model.first_against (record { job = l.scene.job.now; run = l.scene.run.now; before = is_before_in l.scene.clocks.now.rows }) l.zone (record { zone = l.other.zone.now; stretches = l.other.stretches.now })) l.own)
    × IsMemoryOfAny l.scene.job.now l.scene.run.now l.zone l.other.zone.now l.other.stretches.now l.memory
    × IsWalk (is_before_in l.scene.clocks.now.rows) l.own l.other.stretches.now l.stretch-index l.walk
