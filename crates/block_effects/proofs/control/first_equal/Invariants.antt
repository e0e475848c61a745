use Rattle.std.proofs.Common.{◌≡◌, drop}
use Rattle.block_effects.specs.Effects as model
use Rattle.block_effects.proofs.control.first_equal.Given as goal

abbrev pub invariant-loop-pair : goal.invariant-loop-pair
invariant-loop-pair l = model.first_equal l.fn.value (drop l.pair-index l.pairs) ≡ model.first_equal l.fn.value l.pairs
