use denote.Param.Send.{sendable}
use Rattle.job_types.proofs.Crosses.{job_sync}
use Rattle.run_tests.proofs.workers.work_at_plain_board.Goals as goal

pub work_all-requires-sync-J : goal.work_all-requires-sync-J
work_all-requires-sync-J g c κs within = search (sendable, job_sync) depth 40
