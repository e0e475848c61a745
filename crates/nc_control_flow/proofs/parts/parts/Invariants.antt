use Rattle.std.proofs.Common.{◌≡◌, take}
use Rattle.nc_control_flow.specs.Parts.{parts, views}
use Rattle.nc_control_flow.proofs.parts.parts.Given as goal

abbrev pub invariant-loop-block : goal.invariant-loop-block
invariant-loop-block l = l.parts.items ≡ parts (views (take l.block-index l.blocks))
