use denote.Param.Send.{sendable}
use Rattle.job_types.proofs.Crosses.{job_send, job_sync, program_send, program_sync}
use Rattle.job_types.proofs.threads.types_cross_threads.Goals as goal

pub crosses_threads-requires-4-send-T : goal.crosses_threads-requires-4-send-T
crosses_threads-requires-4-send-T c κs = search (sendable, job_send) depth 40

pub crosses_threads-requires-4-sync-T : goal.crosses_threads-requires-4-sync-T
crosses_threads-requires-4-sync-T c κs = search (sendable, job_sync) depth 40

pub crosses_threads-requires-6-send-T : goal.crosses_threads-requires-6-send-T
crosses_threads-requires-6-send-T c κs = search (sendable, program_send) depth 40

pub crosses_threads-requires-6-sync-T : goal.crosses_threads-requires-6-sync-T
crosses_threads-requires-6-sync-T c κs = search (sendable, program_sync) depth 40
