use Rattle.std.proofs.Common.{◌≡◌, ℕ, ◌<◌, ◌≤◌, ◌∷◌, [], length}
use Rattle.protection_zones.specs.Beginnings.{outsets_in}
use Rattle.zone_stretches.specs.Spans.{first_beginning}
use Rattle.protection_zones.proofs.spans.first_outsets.Given as goal

abbrev pub invariant-loop-number : goal.invariant-loop-number
invariant-loop-number l = record {
  from : 1 ≤ l.number;
  size : length l.outsets.items ≡ l.number;
  own : (c : ℕ) → 1 ≤ c → c < l.number → outsets_in l.outsets.items c ≡ first_beginning l.job c ∷ [];
}
