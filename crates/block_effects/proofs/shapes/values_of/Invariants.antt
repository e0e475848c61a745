use Rattle.std.proofs.Common.{◌≡◌, drop, map}
use Rattle.nc_blocks.specs.Statement.{frame_entry}
use Rattle.block_effects.specs.Shapes as model
use Rattle.block_effects.specs.Words.{values_in}
use Rattle.block_effects.proofs.shapes.values_of.Given as goal

abbrev pub invariant-loop-word : goal.invariant-loop-word
invariant-loop-word l = model.values_done (values_in l.parameters) l.row (map frame_entry (drop l.word-index l.words)) ≡ model.values_done (values_in l.parameters) model.no_values (map frame_entry l.words)
