use Rattle.std.proofs.Common.{◌∙◌, sym, arith}
use Rattle.box_tree.proofs.HullLaws.{past_group_at}
use Rattle.box_tree.proofs.groups.met_between.Goals as goal

pub loop-place-preserved-then-not-do_meet : goal.loop-place-preserved-then-not-do_meet
loop-place-preserved-then-not-do_meet c =
    let past =
    past_group_at c.args.boxes.now c.args.groups.now c.args.met.now c.args.from c.loop-place.place _ c.requires.groups (omega arith) (sym c.do_meet.ensures ∙ c.if-not-do_meet.true) c.loop-place.invariant.on
    c.loop-place.invariant.none in
    record { on = past.0; none = past.1 }
