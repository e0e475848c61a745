use Rattle.std.proofs.Common.{◌≡◌, false, slice_index, rules, arith}
use Rattle.axis_sets.specs.Sets.{has}
use Rattle.counter_rows.specs.Rows.{joint_count}
use Rattle.counter_rows.proofs.GoingLaws.{done_after, done_still}
use Rattle.counter_rows.proofs.going.joint_rows.Goals as goal
use Rattle.counter_rows.proofs.going.joint_rows.Goals.{then-goes-c, else-goes-c}

pub loop-c-preserved : goal.loop-c-preserved
loop-c-preserved c = elim c.if-goes-c.branch [
  | then-goes-c w ↦ record {
    size = search rules;
    done = λ k below here x.
        let low = c.loop-c-test.true in
        let sized = c.loop-c.invariant.size in
        rw w.rows-is (done_after c.loop-c.rows w.event_row.result c.loop-c.c (λ n y. joint_count c.args.own.now c.args.goes.now c.args.group.now (slice_index c.args.group.now n) y) (has c.args.goes.now)
        (omega arith) c.loop-c.invariant.done (λ y. search rules) k below here x);
  }
  | else-goes-c w ↦ record {
    size = search rules;
    done = λ k below here x.
        let off : has c.args.goes.now c.loop-c.c ≡ false = search rules in
        rw w.rows-is (done_still c.loop-c.rows c.loop-c.c (λ n y. joint_count c.args.own.now c.args.goes.now c.args.group.now (slice_index c.args.group.now n) y) (has c.args.goes.now) off c.loop-c.invariant.done k below here x);
  }
]
