use Rattle.std.proofs.Common.{◌≡◌, ◌≤◌, ◌-◌, length, drop}
use Rattle.nc_expressions.specs.Limits.{all_limits}
use Rattle.nc_expressions.specs.Machine.{run, read}
use Rattle.nc_expressions.specs.Stack.{stack_of, state_of}
use Rattle.nc_expressions.specs.Symbols.{symbols_of}
use Rattle.nc_expressions.proofs.parsing.parse_exactly.Given as goal

abbrev pub invariant-loop-at : goal.invariant-loop-at
invariant-loop-at l = record {
  within : l.at ≤ length (symbols_of l.words);
  rest : run all_limits (drop l.at (symbols_of l.words)) (state_of l.mode (stack_of l.pending.items) l.level) ≡ read all_limits (drop l.start (symbols_of l.words));
}

abbrev pub decreases-loop-at : goal.decreases-loop-at
decreases-loop-at l = length l.words.tokens - l.at
