use Rattle.clash_check.proofs.PassedLaws.{empty_memory}
use Rattle.clash_check.proofs.meetings.first_against.Goals as goal

pub first_in_stretches-requires-clause-memory : goal.first_in_stretches-requires-clause-memory
first_in_stretches-requires-clause-memory c at = empty_memory c.args.scene.now.job.now c.args.scene.now.run.now c.args.left.now.zone.now c.args.other.now c.stretch-item.result c.new_memory-memory.result
    c.new_memory-memory.ensures.covers c.new_memory-memory.ensures.pieces c.new_memory-memory.ensures.passed
