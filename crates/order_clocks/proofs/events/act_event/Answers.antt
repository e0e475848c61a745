use Rattle.std.proofs.Common.{None, refl}
use Rattle.order_clocks.specs.declared.events.Event.{Event}
use Rattle.order_clocks.proofs.EventLaws.{act_is}
use Rattle.order_clocks.proofs.events.act_event.Goals as goal

pub returns : goal.returns
returns c =
    let deed = c.args.deed.now in
    let e : Event = record { channel = deed.channel; line = deed.line; row = c.args.row; lowers = deed.lowers; needs = None; took = c.empty.result; touches = deed.touches; waits = c.marks_begun.result; asks = c.axes_begun.result } in
    act_is deed c.args.row e refl refl refl refl refl refl c.empty.ensures.members c.marks_begun.ensures c.axes_begun.ensures
