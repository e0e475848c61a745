use Rattle.std.proofs.Common.{refl, arith}
use Rattle.box_tree.proofs.TreeLaws.{some_first}
use Rattle.box_tree.proofs.tree.BoxTree.meeting_from.Goals as goal

pub returns-in-None-clause-none : goal.returns-in-None-clause-none
returns-in-None-clause-none c none k m d e above here there =
    let long = c.deref.ensures.len in
    let count = c.len.ensures in
    let less = c.if-place-len.false in
    absurd (some_first c.deref.result.now c.self.inside.boxes.items c.args.right.now c.args.from c.first_of_any-place.result c.index.result.now c.first_of_any-place.ensures
    (omega (arith, long, count, less)) c.deref.ensures.value c.index.ensures (c.in-None.ensures.none refl))
