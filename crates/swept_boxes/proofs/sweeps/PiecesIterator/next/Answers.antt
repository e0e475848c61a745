use Rattle.std.proofs.Common.{◌≡◌, ◌∙◌, [], sym, ap, length, arith, rules}
use Rattle.swept_boxes.specs.Pieces.{pieces_at}
use Rattle.swept_boxes.proofs.PieceLaws.{few_places, left_more, left_none}
use Rattle.swept_boxes.proofs.sweeps.PiecesIterator.next.Goals as goal

pub overflow_add-self : goal.overflow_add-self
overflow_add-self c =
    let few = few_places c.self.inside.motion.now c.self.inside.depth c.self.inside.next c.in-Some.piece (omega arith) (sym c.in-Some.is ∙ c.piece_at.ensures) in
    omega arith

pub returns-in-Some-clause-steps : goal.returns-in-Some-clause-steps
returns-in-Some-clause-steps c =
    left_more (pieces_at c.self.inside.motion.now c.self.inside.depth) c.args.self.now c.self.inside.next c.in-Some.piece c.self.view_is
    (sym c.in-Some.is ∙ c.piece_at.ensures)

pub returns-in-Some-clause-goes : goal.returns-in-Some-clause-goes
returns-in-Some-clause-goes c = let e = ap length (returns-in-Some-clause-steps c) in search (rules, e)

pub returns-in-None-clause-steps : goal.returns-in-None-clause-steps
returns-in-None-clause-steps c =
    let none : c.args.self.now ≡ [] =
    left_none (pieces_at c.self.inside.motion.now c.self.inside.depth) c.args.self.now c.self.inside.next c.self.view_is
    (sym c.in-None.is ∙ c.piece_at.ensures) in
    (none, none)
