-- A resolved program may go to another thread (send) and be shared by threads (sync), since its blocks may.
use denote.Param.Send.{IsSend, IsSync, sendable}
use Rattle.std.proofs.Crossing.{crosses}
use Rattle.std.proofs.MapsCrossing as maps
use Rattle.nc_blocks.proofs.Crosses.{block_send, block_sync}
use Rattle.nc_control_flow.specs.contracts.flow.Flow as Flow

pub flow_send : IsSend Flow.the_field.row
flow_send = search (sendable, crosses, maps.crosses, block_send) depth 40

pub flow_sync : IsSync Flow.the_field.row
flow_sync = search (sendable, crosses, maps.crosses, block_sync) depth 40
