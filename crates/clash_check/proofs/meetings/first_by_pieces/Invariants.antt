use Rattle.std.proofs.Common.{◌≡◌, ◌≤◌, ◌<◌, ◌-◌, true, drop, get_or, length}
use Rattle.clash_check.specs.FirstAnswer.{first_some}
use Rattle.clash_check.specs.Keeping.{IsKeptOf, is_near}
use Rattle.clash_check.specs.Meetings as model
use Rattle.order_clocks.specs.Tells.{is_before_in}
use Rattle.zone_stretches.specs.Cases.{place_of}
use Rattle.zone_stretches.specs.declared.stretches.ZoneBox.{ZoneBox}
use Rattle.clash_check.proofs.meetings.first_by_pieces.Given as goal

abbrev pub invariant-loop-place : goal.invariant-loop-place
invariant-loop-place l =
    record {
      within : l.place ≤ length l.boxes;
      near : (d : ZoneBox) → l.place < length l.boxes → is_near l.two.shared l.own.whole.now (get_or l.boxes l.place d) ≡ true;
      kept : IsKeptOf l.two.scene.now.job.now l.two.scene.now.run.now l.two.right.now.zone.now l.two.right.now.stretch.now l.boxes l.kept;
      names : first_some (λ later. model.names_where_met (record { job = l.two.scene.now.job.now; run = l.two.scene.now.run.now; before = is_before_in l.two.scene.now.clocks.now.rows }) l.two.shared
          (place_of l.two.left.now.zone.now l.two.left.now.stretch.now l.own.whole.now) (place_of l.two.right.now.zone.now l.two.right.now.stretch.now later)) (drop l.place l.boxes)
          ≡ first_some (λ later. model.names_where_met (record { job = l.two.scene.now.job.now; run = l.two.scene.now.run.now; before = is_before_in l.two.scene.now.clocks.now.rows }) l.two.shared
          (place_of l.two.left.now.zone.now l.two.left.now.stretch.now l.own.whole.now) (place_of l.two.right.now.zone.now l.two.right.now.stretch.now later)) (drop l.from l.boxes);
    }

abbrev pub decreases-loop-place : goal.decreases-loop-place
decreases-loop-place l = length l.boxes - l.place
