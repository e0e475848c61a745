use Rattle.std.proofs.Common.{◌≡◌, ◌≤◌, ◌<◌, ◌-◌, ℕ, false, get_or, length}
use Rattle.clash_check.specs.Keeping as model
use Rattle.zone_stretches.specs.declared.stretches.ZoneBox.{ZoneBox}
use Rattle.clash_check.proofs.nearby.next_near.Given as goal

abbrev pub invariant-loop-place : goal.invariant-loop-place
invariant-loop-place l =
    record {
      within : l.place ≤ length l.boxes;
      on : l.from ≤ l.place;
      far : (k : ℕ) (d : ZoneBox) → l.from ≤ k → k < l.place → model.is_near l.shared l.own (get_or l.boxes k d) ≡ false;
    }

abbrev pub decreases-loop-place : goal.decreases-loop-place
decreases-loop-place l = length l.boxes - l.place
