-- The bytes that the source has lost were given to the reader, no read failed, and none gave no byte.
use Rattle.std.proofs.Common.{◌≡◌, ◌≤◌, ◌-◌}
use Rattle.turnmill.proofs.ReadLemmas.{GivesAll}
use Rattle.turnmill.proofs.check.read_job_from.Given as goal

abbrev pub invariant-loop-given : goal.invariant-loop-given
invariant-loop-given g l = record {
  few : l.given ≤ 8388609;
  number : l.reader.given ≡ l.given;
  gives : GivesAll l.reader l.given (g.S.Source.left l.fn.source) (g.S.Source.left l.source);
  faults : g.S.Source.faults l.source ≡ g.S.Source.faults l.fn.source;
  readable : g.S.Source.can_read l.source;
}

abbrev pub decreases-loop-given : goal.decreases-loop-given
decreases-loop-given g l = 8388609 - l.given
