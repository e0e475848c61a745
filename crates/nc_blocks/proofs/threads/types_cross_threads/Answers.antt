use denote.Param.Send.{sendable}
use Rattle.nc_blocks.proofs.Crosses.{block_send, block_sync, statement_send, statement_sync}
use Rattle.nc_blocks.proofs.threads.types_cross_threads.Goals as goal

-- src/threads.rt:12:5
pub crosses_threads-requires-send-T : goal.crosses_threads-requires-send-T
crosses_threads-requires-send-T c κs = search (sendable, block_send) depth 40

-- src/threads.rt:12:5
pub crosses_threads-requires-sync-T : goal.crosses_threads-requires-sync-T
crosses_threads-requires-sync-T c κs = search (sendable, block_sync) depth 40

-- src/threads.rt:19:5
pub crosses_threads-requires-8-send-T : goal.crosses_threads-requires-8-send-T
crosses_threads-requires-8-send-T c κs = search (sendable, statement_send) depth 40

-- src/threads.rt:19:5
pub crosses_threads-requires-8-sync-T : goal.crosses_threads-requires-8-sync-T
crosses_threads-requires-8-sync-T c κs = search (sendable, statement_sync) depth 40
