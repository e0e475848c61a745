use Rattle.job_report.specs.Spans.{AreBetween}
use Rattle.job_report.proofs.spans.StepSpans.of.Given as goal

abbrev pub invariant-loop-place : goal.invariant-loop-place
invariant-loop-place l = AreBetween l.entries l.place l.first l.end
