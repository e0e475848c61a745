use Rattle.std.proofs.Common.{◌≡◌, ◌≤◌, take}
use Rattle.nc_expressions.specs.Machine.{depth}
use Rattle.nc_expressions.specs.Stack.{stack_of}
use Rattle.nc_expressions.proofs.stack.depth.Given as goal

abbrev pub invariant-loop-one : goal.invariant-loop-one
invariant-loop-one l = record {
  few : l.depth ≤ l.one-index;
  counted : l.depth ≡ depth (stack_of (take l.one-index l.pending));
}
