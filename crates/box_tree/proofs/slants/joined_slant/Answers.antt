use Rattle.std.proofs.Common.{rules}
use Rattle.box_tree.proofs.SlantLaws.{kept_low, kept_high}
use Rattle.box_tree.proofs.slants.joined_slant.Goals as goal

pub returns-clause-left : goal.returns-clause-left
returns-clause-left c own one two held = record {
  sum_low = kept_low c.lesser.result c.args.left.now.sum_low _ (search rules) (search rules) c.lesser.ensures.one held.sum_low;
  sum_high = kept_high c.greater.result c.args.left.now.sum_high _ (search rules) (search rules) c.greater.ensures.one held.sum_high;
  low = kept_low c.lesser-2.result c.args.left.now.low _ (search rules) (search rules) c.lesser-2.ensures.one held.low;
  high = kept_high c.greater-2.result c.args.left.now.high _ (search rules) (search rules) c.greater-2.ensures.one held.high;
}

pub returns-clause-right : goal.returns-clause-right
returns-clause-right c own one two held = record {
  sum_low = kept_low c.lesser.result c.args.right.now.sum_low _ (search rules) (search rules) c.lesser.ensures.two held.sum_low;
  sum_high = kept_high c.greater.result c.args.right.now.sum_high _ (search rules) (search rules) c.greater.ensures.two held.sum_high;
  low = kept_low c.lesser-2.result c.args.right.now.low _ (search rules) (search rules) c.lesser-2.ensures.two held.low;
  high = kept_high c.greater-2.result c.args.right.now.high _ (search rules) (search rules) c.greater-2.ensures.two held.high;
}
