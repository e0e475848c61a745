use Rattle.std.proofs.Common.{◌≡◌, vec_len}
use Rattle.nc_expressions.specs.Tree.{tree_of}
use Rattle.nc_expressions.specs.Machine.{attach}
use Rattle.nc_expressions.specs.Stack.{stack_of}
use Rattle.nc_expressions.proofs.stack.attach.Given as goal

abbrev pub invariant-loop-op : goal.invariant-loop-op
invariant-loop-op l =
    attach (tree_of l.operand) (stack_of l.pending.items) ≡ attach (tree_of l.initial.operand) (stack_of l.fn.pending.items)

abbrev pub decreases-loop-op : goal.decreases-loop-op
decreases-loop-op l = vec_len l.pending
