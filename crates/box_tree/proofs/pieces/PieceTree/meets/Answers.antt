use Rattle.box_tree.proofs.SlantLaws.{none_aslant}
use Rattle.box_tree.proofs.pieces.PieceTree.meets.Goals as goal

pub returns-then-pass_aslant : goal.returns-then-pass_aslant
returns-then-pass_aslant c =
    none_aslant c.self.inside.boxes.items c.others.inside.boxes.items c.args.self.now c.args.others.now c.self.inside.slants c.others.inside.slants c.self.view_is c.others.view_is c.self.invariant.1
    c.others.invariant.1 (c.pass_aslant.ensures c.if-pass_aslant.true)
