use Rattle.std.proofs.Common.{refl, arith}
use Rattle.clash_check.proofs.KeptLaws.{far_by_row, row_length}
use Rattle.clash_check.proofs.nearby.past_far.Goals as goal

pub returns-in-None-next_met-clause-far : goal.returns-in-None-next_met-clause-far
returns-in-None-next_met-clause-far c k d low high =
    let same = row_length c.args.boxes.now c.args.covers.now _ c.requires.covers c.in-Some.is in
    far_by_row c.args.own.now.cover c.args.boxes.now c.args.covers.now _ c.args.from _ c.requires.covers c.in-Some.is (omega (arith, same)) (c.in-None-next_met.ensures.none refl) k d low
    (omega (arith, same, high))

pub returns-in-Some-next_met-clause-far : goal.returns-in-Some-next_met-clause-far
returns-in-Some-next_met-clause-far c k d low high =
    let same = row_length c.args.boxes.now c.args.covers.now _ c.requires.covers c.in-Some.is in
    let within = c.in-Some-next_met.ensures.met.within in
    far_by_row c.args.own.now.cover c.args.boxes.now c.args.covers.now _ c.args.from c.in-Some-next_met.place c.requires.covers c.in-Some.is (omega (arith, same, within))
    c.in-Some-next_met.ensures.met.others k d low high
