-- The rows so far are data.
use Rattle.std.proofs.Common.{◌≡◌, map, take}
use Rattle.explain_pairs.specs.PairData.{numbers_in, numbers_of}
use Rattle.explain_pairs.proofs.data.pairs_data.Given as goal

abbrev pub invariant-loop-row : goal.invariant-loop-row
invariant-loop-row l = map numbers_in l.all.items ≡ map numbers_of (take l.row-index l.rows)
