use Rattle.std.proofs.Common.{◌≡◌, take}
use Rattle.nc_control_flow.proofs.index.name_of.Given as goal

abbrev pub invariant-loop-byte : goal.invariant-loop-byte
invariant-loop-byte l = l.name.items ≡ take l.byte-index l.bytes
