use Rattle.std.proofs.Common.{◌≡◌, ◌∙◌, ◌==◌, true, length, Option, Some, sym, subst}
use Rattle.path_geometry.specs.Ends.{EndsView}
use Rattle.path_geometry.specs.declared.motion.Motion.{Motion}
use Rattle.axis_sets.specs.Positions.{stands}
use Rattle.block_motions.specs.Motions.{motion_between, StandsAtEndOf}
use Rattle.block_motions.proofs.Arrivals.{at_none, arrives, between_axes}
use Rattle.block_motions.proofs.Reaches.{are_reached}
use Rattle.block_motions.proofs.motions.move_to.Goals as goal

pub put_ends-requires-clause-reached : goal.put_ends-requires-clause-reached
put_ends-requires-clause-reached c =
    are_reached c.args.owned (stands c.args.at.now) c.args.goals.now (sym c.are_in_reach.ensures ∙ c.if-not-are_in_reach.false) (sym c.are_own.ensures ∙ c.if-not-are_own.false)

pub returns-then-is_empty-clause-stand : goal.returns-then-is_empty-clause-stand
returns-then-is_empty-clause-stand c =
    let ends : EndsView = record { axes = c.put_ends.new.axes.items } in
    let none : (length c.put_ends.new.axes.items == 0) ≡ true = sym c.is_empty.ensures ∙ c.if-is_empty.true in
    subst (λ (motion : Option Motion). StandsAtEndOf motion c.args.at.now c.put_ends.new.at) (sym c.requires)
    (at_none c.args.at.now c.put_ends.new.at c.args.goals.now c.type_inv.goals c.put_ends.ensures.stand ends c.put_ends.ensures.ends none)

pub returns-clause-stand : goal.returns-clause-stand
returns-clause-stand c =
    let ends : EndsView = record { axes = c.put_ends.new.axes.items } in
    subst (λ (motion : Motion). StandsAtEndOf (Some motion) c.args.at.now c.put_ends.new.at) (sym c.motion_between.ensures)
    (arrives c.args.at.now c.put_ends.new.at c.args.goals.now c.type_inv.goals c.put_ends.ensures.stand (motion_between c.args.rapid ends)
    (between_axes c.args.rapid ends ∙ c.put_ends.ensures.ends))
