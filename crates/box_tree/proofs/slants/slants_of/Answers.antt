use Rattle.std.proofs.Common.{arith}
use Rattle.box_tree.proofs.SlantLaws.{held_more}
use Rattle.box_tree.proofs.slants.slants_of.Goals as goal

pub loop-own-preserved : goal.loop-own-preserved
loop-own-preserved c = record {
  xy =
      held_more c.args.boxes.now c.loop-own.own-index _ 0 1 c.loop-own.xy c.joined_slant-xy.result (omega arith) (λ own. c.joined_slant-xy.ensures.left own 0 1)
      (c.joined_slant-xy.ensures.right _ 0 1 c.slant_of.ensures) c.loop-own.invariant.xy;
  xz =
      held_more c.args.boxes.now c.loop-own.own-index _ 0 2 c.loop-own.xz c.joined_slant-xz.result (omega arith) (λ own. c.joined_slant-xz.ensures.left own 0 2)
      (c.joined_slant-xz.ensures.right _ 0 2 c.slant_of-in-loop-own.ensures) c.loop-own.invariant.xz;
  yz =
      held_more c.args.boxes.now c.loop-own.own-index _ 1 2 c.loop-own.yz c.joined_slant-yz.result (omega arith) (λ own. c.joined_slant-yz.ensures.left own 1 2)
      (c.joined_slant-yz.ensures.right _ 1 2 c.slant_of-in-loop-own-2.ensures) c.loop-own.invariant.yz;
}
