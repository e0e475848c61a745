use Rattle.std.proofs.Common.{◌≡◌, drop}
use Rattle.clash_check.specs.FirstAnswer.{first_some}
use Rattle.clash_check.specs.Keeping.{IsKeptOf}
use Rattle.clash_check.specs.Meetings as model
use Rattle.clash_check.specs.Passing.{ArePassed}
use Rattle.order_clocks.specs.Tells.{is_before_in}
use Rattle.zone_stretches.specs.Cases.{place_of}
use Rattle.clash_check.proofs.meetings.first_in_all_boxes.Given as goal

abbrev pub invariant-loop-own : goal.invariant-loop-own
invariant-loop-own l =
    record {
      kept : IsKeptOf l.two.scene.now.job.now l.two.scene.now.run.now l.two.right.now.zone.now l.two.right.now.stretch.now l.two.right.now.stretch.now.boxes l.memory.kept;
      passed : ArePassed l.two.scene.now.job.now l.two.scene.now.run.now l.two.left.now.zone.now l.two.right.now.zone.now l.two.right.now.stretch.now l.two.right.now.stretch.now.boxes l.memory.passed;
      at : l.memory.place ≡ l.place;
      names : first_some (λ own. model.first_touched (record { job = l.two.scene.now.job.now; run = l.two.scene.now.run.now; before = is_before_in l.two.scene.now.clocks.now.rows }) l.two.shared
          (place_of l.two.left.now.zone.now l.two.left.now.stretch.now own) l.two.right.now.zone.now l.two.right.now.stretch.now) (drop l.own-index l.two.left.now.stretch.now.boxes)
          ≡ first_some (λ own. model.first_touched (record { job = l.two.scene.now.job.now; run = l.two.scene.now.run.now; before = is_before_in l.two.scene.now.clocks.now.rows }) l.two.shared
          (place_of l.two.left.now.zone.now l.two.left.now.stretch.now own) l.two.right.now.zone.now l.two.right.now.stretch.now) l.two.left.now.stretch.now.boxes;
    }
