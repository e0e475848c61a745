use Rattle.std.proofs.Common.{◌≡◌, take}
use Rattle.std.specs.List.{flat_map}
use Rattle.job_report.specs.Motions.{item_line}
use Rattle.job_report.specs.Pages.{Prints, stage}
use Rattle.job_report.proofs.channels.put_items.Given as goal

abbrev pub invariant-loop-item : goal.invariant-loop-item
invariant-loop-item g l = record {
  text : Prints (stage (g.K.Sink.written l.fn.sink) (g.K.Sink.count l.fn.sink) l.fn.page)
      (stage (g.K.Sink.written l.sink) (g.K.Sink.count l.sink) l.page) (flat_map (item_line l.job) (take l.item-index l.items));
  faults : g.K.Sink.faults l.sink ≡ g.K.Sink.faults l.fn.sink;
}
