use denote.Param.Send.{sendable}
use Rattle.nc_control_flow.proofs.Crosses.{flow_send, flow_sync}
use Rattle.nc_control_flow.proofs.threads.types_cross_threads.Goals as goal

pub crosses_threads-requires-send-T : goal.crosses_threads-requires-send-T
crosses_threads-requires-send-T c κs = search (sendable, flow_send) depth 40

pub crosses_threads-requires-sync-T : goal.crosses_threads-requires-sync-T
crosses_threads-requires-sync-T c κs = search (sendable, flow_sync) depth 40
