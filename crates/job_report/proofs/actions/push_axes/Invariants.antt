use Rattle.std.proofs.Common.{◌≡◌, ◌+◌, ◌*◌, ◌≤◌, ◌++◌, length}
use Rattle.axis_sets.specs.Sets.{has}
use Rattle.job_report.specs.Actions.{next_axis}
use Rattle.job_report.proofs.RowLemmas.{made}
use Rattle.job_report.proofs.actions.push_axes.Given as goal

abbrev pub invariant-loop-index : goal.invariant-loop-index
invariant-loop-index l = record {
  text : l.page ≡ l.initial.page ++ made (next_axis l.job) (has l.set) 0 l.index;
  room : length l.page ≤ length l.initial.page + l.index * 15;
}
