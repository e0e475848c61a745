use Rattle.std.proofs.Common.{arith}
use Rattle.counter_rows.proofs.gather.joint_row.Goals as goal

pub count_chosen-requires : goal.count_chosen-requires
count_chosen-requires c = λ x.
    let most = c.most_chosen-most.ensures.counts x in
    let none = c.zero.ensures.counts x in
    let room = c.requires x in
    omega arith
