use Rattle.std.proofs.Common.{◌≡◌, vec_len}
use Rattle.nc_expressions.specs.Tree.{tree_of}
use Rattle.nc_expressions.specs.Machine.{join}
use Rattle.nc_expressions.specs.Stack.{stack_of}
use Rattle.nc_expressions.proofs.stack.join.Given as goal

abbrev pub invariant-loop-left : goal.invariant-loop-left
invariant-loop-left l =
    join l.least (tree_of l.operand) (stack_of l.pending.items) ≡ join l.least (tree_of l.initial.operand) (stack_of l.fn.pending.items)

abbrev pub decreases-loop-left : goal.decreases-loop-left
decreases-loop-left l = vec_len l.pending
