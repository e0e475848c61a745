use denote.Param.Send.{sendable}
use Rattle.ticket_board.proofs.Sharing.{pass_sync}
use Rattle.ticket_board.proofs.threads.types_cross_threads.Goals as goal

pub crosses_threads-requires-2-sync-T : goal.crosses_threads-requires-2-sync-T
crosses_threads-requires-2-sync-T c κs = search (sendable, pass_sync) depth 40
