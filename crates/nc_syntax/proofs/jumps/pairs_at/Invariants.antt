use Rattle.std.proofs.Common.{◌≡◌, ◌≤◌, ◌-◌, length, drop}
use Rattle.nc_blocks.specs.Lists.{list_from, list_at}
use Rattle.nc_syntax.specs.Jumps.{pair_at}
use Rattle.nc_syntax.proofs.jumps.pairs_at.Given as goal

abbrev pub invariant-loop-list : goal.invariant-loop-list
invariant-loop-list l = record {
  within : l.at ≤ length l.words.tokens;
  so_far : list_from (λ before. pair_at l.words) l.list.items l.at (drop l.at l.words.tokens) 0 ≡ list_at (λ before. pair_at l.words) l.words l.start;
}

abbrev pub decreases-loop-list : goal.decreases-loop-list
decreases-loop-list l = length l.words.tokens - l.at
