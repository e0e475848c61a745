use Rattle.std.proofs.Common.{arith}
use Rattle.box_tree.proofs.HullLaws.{past_groups, past_own, some_among, none_among}
use Rattle.box_tree.proofs.groups.do_groups_meet.Goals as goal

pub loop-place-preserved-then-first-count : goal.loop-place-preserved-then-first-count
loop-place-preserved-then-first-count c =
    past_groups c.args.boxes.now c.args.others.now c.args.groups.now c.loop-place.place c.met_between-first.result _ c.requires.groups (omega arith) c.met_between-first.ensures.none (omega arith) c.loop-place.invariant

pub returns-then-met_between-count : goal.returns-then-met_between-count
returns-then-met_between-count c =
    some_among c.args.boxes.now c.args.others.now c.loop-place.place c.met_between.result _ (omega arith) (omega arith) (c.met_between.ensures.met (omega arith))

pub loop-place-preserved : goal.loop-place-preserved
loop-place-preserved c =
    past_own c.args.boxes.now c.args.others.now c.args.groups.now c.loop-place.place c.met_between-first.result c.met_between.result _ _ c.requires.groups (omega arith) c.met_between-first.ensures.none
    c.met_between.ensures.none (omega arith) c.loop-place.invariant

pub returns : goal.returns
returns c = none_among c.args.boxes.now c.args.others.now c.loop-place.place (omega arith) c.loop-place.invariant
