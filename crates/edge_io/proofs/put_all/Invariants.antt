use Rattle.std.proofs.Common.{◌≡◌, ◌≤◌, ◌-◌, length, take}
use Rattle.edge_io.specs.Moves.{Grows, Counts}
use Rattle.edge_io.proofs.put_all.Given as goal

abbrev pub invariant-loop-done : goal.invariant-loop-done
invariant-loop-done g l = record {
  within : l.done ≤ length l.bytes;
  grown : Grows (g.K.Sink.written l.fn.sink) (g.K.Sink.written l.sink) (take l.done l.bytes);
  counted : Counts (g.K.Sink.count l.fn.sink) (g.K.Sink.count l.sink) l.done;
  faults : g.K.Sink.faults l.sink ≡ g.K.Sink.faults l.fn.sink;
}

abbrev pub decreases-loop-done : goal.decreases-loop-done
decreases-loop-done g l = length l.bytes - l.done
