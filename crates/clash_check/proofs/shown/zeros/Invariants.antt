use Rattle.std.proofs.Common.{◌≡◌, ◌+◌, vec_len}
use Rattle.clash_check.proofs.shown.zeros.Given as goal

abbrev pub invariant-loop-stretch : goal.invariant-loop-stretch
invariant-loop-stretch l = vec_len l.zeros ≡ l._stretch-index + 1
