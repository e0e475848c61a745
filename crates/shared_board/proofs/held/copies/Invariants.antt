use Rattle.std.proofs.Common.{◌≡◌, ◌≤◌, take}
use Rattle.arrayvec.specs.ArrayVec.{array_vec_len}
use Rattle.shared_board.proofs.held.copies.Given as goal

abbrev pub invariant-loop-line : goal.invariant-loop-line
invariant-loop-line g l = (array_vec_len l.kept ≤ l.line-index) × (l.kept.items ≡ take l.line-index l.lines)
