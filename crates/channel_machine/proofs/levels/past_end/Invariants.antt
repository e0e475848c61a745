use Rattle.std.proofs.Common.{◌≡◌, All, length}
use Rattle.channel_machine.specs.Levels.{Stands, past_end}
use Rattle.channel_machine.proofs.levels.past_end.Given as goal

abbrev pub invariant-loop-number : goal.invariant-loop-number
invariant-loop-number l = record {
  fits : All (Stands l.skip l.job.programs) l.levels.returns;
  same : past_end l.skip l.job.programs l.number l.passes l.levels.returns ≡ past_end l.skip l.fn.job.programs l.fn.number l.fn.passes l.fn.levels.returns;
}

abbrev pub decreases-loop-number : goal.decreases-loop-number
decreases-loop-number l = length l.levels.returns
