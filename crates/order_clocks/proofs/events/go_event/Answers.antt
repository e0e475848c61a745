use Rattle.std.proofs.Common.{None, refl}
use Rattle.order_clocks.specs.declared.events.Event.{Event}
use Rattle.order_clocks.proofs.EventLaws.{go_minded}
use Rattle.order_clocks.proofs.events.go_event.Goals as goal

pub returns-clause-minded : goal.returns-clause-minded
returns-clause-minded c =
    let gone = c.args.gone.now in
    let e : Event = record { channel = c.args.channel; line = c.line_of.result; row = c.args.row; lowers = c.marks_lowered.result; needs = c.marks_needed.result; took = gone.took; touches = c.empty.result; waits = None; asks = c.empty-2.result } in
    go_minded c.args.channel gone.held e refl c.marks_lowered.ensures refl c.empty-2.ensures.members c.empty.ensures.members
