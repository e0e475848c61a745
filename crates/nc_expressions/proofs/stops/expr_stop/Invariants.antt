use Rattle.std.proofs.Common.{◌≡◌, ◌≤◌, ◌-◌, length}
use Rattle.nc_expressions.specs.Stops.{stop_from, stop_at}
use Rattle.nc_expressions.specs.Stack.{stack_of, state_of}
use Rattle.nc_expressions.specs.Symbols.{symbols_of}
use Rattle.nc_expressions.proofs.stops.expr_stop.Given as goal

abbrev pub invariant-loop-at : goal.invariant-loop-at
invariant-loop-at l = record {
  within : l.at ≤ length (symbols_of l.words);
  same : stop_from (symbols_of l.words) l.at (state_of l.mode (stack_of l.pending.items) l.level) ≡ stop_at (symbols_of l.words) l.start;
}

abbrev pub decreases-loop-at : goal.decreases-loop-at
decreases-loop-at l = length l.words.tokens - l.at
