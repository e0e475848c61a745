use Rattle.std.proofs.Common.{◌≡◌, take}
use Rattle.std.specs.List.{enumerate_from, flat_map}
use Rattle.job_report.specs.Channels.{channels_of}
use Rattle.job_report.specs.Pages.{Prints, stage}
use Rattle.job_report.specs.Report.{lines_at}
use Rattle.job_report.proofs.channels.JobRun.put_channels.Given as goal

abbrev pub invariant-loop-place : goal.invariant-loop-place
invariant-loop-place g l = record {
  text : Prints (stage (g.K.Sink.written l.fn.sink) (g.K.Sink.count l.fn.sink) l.fn.page)
      (stage (g.K.Sink.written l.sink) (g.K.Sink.count l.sink) l.page)
      (flat_map (lines_at l.self.job.now l.self.run.now) (take l.place (enumerate_from 0 (channels_of l.self.job.now))));
  faults : g.K.Sink.faults l.sink ≡ g.K.Sink.faults l.fn.sink;
}
