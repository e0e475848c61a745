use Rattle.clash_check.proofs.KeptLaws.{far_first}
use Rattle.clash_check.proofs.nearby.next_near.Goals as goal

pub loop-place-init : goal.loop-place-init
loop-place-init c = record {
  within = c.past_far-place.ensures.within;
  on = c.past_far-place.ensures.on;
  far = far_first c.args.shared c.args.own.now c.args.boxes.now c.args.from c.past_far-place.result c.past_far-place.ensures.far;
}
