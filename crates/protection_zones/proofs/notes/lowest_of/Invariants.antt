use Rattle.std.proofs.Common.{◌≡◌, ℕ, ◌<◌, ◌≤◌, false}
use Rattle.protection_zones.specs.Notes.{is_with}
use Rattle.protection_zones.proofs.notes.lowest_of.Given as goal

abbrev pub invariant-loop-number : goal.invariant-loop-number
invariant-loop-number l = record {
  from : 1 ≤ l.number;
  none : (d : ℕ) → 1 ≤ d → d < l.number → is_with l.deed l.channel d ≡ false;
}
