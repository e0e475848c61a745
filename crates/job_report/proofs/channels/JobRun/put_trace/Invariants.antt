use Rattle.std.proofs.Common.{◌≡◌, take}
use Rattle.std.specs.List.{enumerate_from, flat_map}
use Rattle.job_report.specs.Channels.{own_lines}
use Rattle.job_report.specs.Pages.{Prints, stage}
use Rattle.job_report.proofs.channels.JobRun.put_trace.Given as goal

abbrev pub invariant-loop-place : goal.invariant-loop-place
invariant-loop-place g l = record {
  text : Prints (stage (g.K.Sink.written l.fn.sink) (g.K.Sink.count l.fn.sink) l.fn.page)
      (stage (g.K.Sink.written l.sink) (g.K.Sink.count l.sink) l.page)
      (flat_map (own_lines l.self.job.now l.self.run.now l.channel l.silent) (take l.place (enumerate_from 0 l.self.run.now.entries)));
  faults : g.K.Sink.faults l.sink ≡ g.K.Sink.faults l.fn.sink;
}
