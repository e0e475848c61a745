use Rattle.std.proofs.Common.{rules}
use Rattle.box_tree.proofs.SlantLaws.{joined_slants, not_less}
use Rattle.box_tree.proofs.slants.are_aslant.Goals as goal

pub returns-then-left-right : goal.returns-then-left-right
returns-then-left-right c on own other one two held held' touch touch' =
    let joined = joined_slants own other one two c.args.left.now c.args.right.now held held' touch touch' in
    not_less c.args.left.now.sum_high c.args.right.now.sum_low (search rules) (search rules) joined.sum_back c.if-left-right.true

pub returns-then-right-left : goal.returns-then-right-left
returns-then-right-left c on own other one two held held' touch touch' =
    let joined = joined_slants own other one two c.args.left.now c.args.right.now held held' touch touch' in
    not_less c.args.right.now.sum_high c.args.left.now.sum_low (search rules) (search rules) joined.sum c.if-right-left.true

pub returns-then-left-right-2 : goal.returns-then-left-right-2
returns-then-left-right-2 c on own other one two held held' touch touch' =
    let joined = joined_slants own other one two c.args.left.now c.args.right.now held held' touch touch' in
    not_less c.args.left.now.high c.args.right.now.low (search rules) (search rules) joined.difference_back c.if-left-right-2.true

pub returns : goal.returns
returns c on own other one two held held' touch touch' =
    let joined = joined_slants own other one two c.args.left.now c.args.right.now held held' touch touch' in
    not_less c.args.right.now.high c.args.left.now.low (search rules) (search rules) joined.difference on
