use Rattle.std.proofs.Common.{◌≡◌, ◌+◌, ◌*◌, ◌≤◌, ◌++◌, length}
use Rattle.axis_sets.specs.Sets.{has}
use Rattle.job_report.specs.Actions.{next_number}
use Rattle.job_report.proofs.RowLemmas.{made}
use Rattle.job_report.proofs.actions.push_marks.Given as goal

abbrev pub invariant-loop-number : goal.invariant-loop-number
invariant-loop-number l = record {
  text : l.page ≡ l.initial.page ++ made next_number (has l.set) 0 l.number;
  room : length l.page ≤ length l.initial.page + l.number * 11;
}
