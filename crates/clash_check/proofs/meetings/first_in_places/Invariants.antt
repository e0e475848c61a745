use Rattle.std.proofs.Common.{◌≡◌, drop, true}
use Rattle.clash_check.specs.FirstAnswer.{first_some}
use Rattle.clash_check.specs.Meetings as model
use Rattle.order_clocks.specs.Tells.{is_before_in}
use Rattle.zone_stretches.specs.Cases.{place_of}
use Rattle.clash_check.proofs.meetings.first_in_places.Given as goal

abbrev pub invariant-loop-own : goal.invariant-loop-own
invariant-loop-own l =
    first_some (λ own. model.first_touched_among (record { job = l.two.scene.now.job.now; run = l.two.scene.now.run.now; before = is_before_in l.two.scene.now.clocks.now.rows }) true
    (place_of l.two.left.now.zone.now l.two.left.now.stretch.now own) l.two.right.now.zone.now l.two.right.now.stretch.now l.others) (drop l.own-index l.boxes)
    ≡ first_some (λ own. model.first_touched_among (record { job = l.two.scene.now.job.now; run = l.two.scene.now.run.now; before = is_before_in l.two.scene.now.clocks.now.rows }) true
    (place_of l.two.left.now.zone.now l.two.left.now.stretch.now own) l.two.right.now.zone.now l.two.right.now.stretch.now l.others) l.boxes
