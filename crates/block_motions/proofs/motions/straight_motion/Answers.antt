use Rattle.std.proofs.Common.{◌∙◌, Option, Ok, ap, sym}
use Rattle.path_geometry.specs.declared.motion.Motion.{Motion}
use Rattle.axis_sets.specs.Positions as positions
use Rattle.block_motions.proofs.Unmoved.{unmoved}
use Rattle.block_motions.proofs.motions.straight_motion.Goals as goal

pub returns-then-not-is_any-2-clause-made : goal.returns-then-not-is_any-2-clause-made
returns-then-not-is_any-2-clause-made c = λ h held.
    ap (λ (motion : Option Motion). Ok motion) c.requires
    ∙ sym (unmoved c.args.axes.now.slots h c.args.targets.now (sym c.is_any.ensures ∙ c.if-not-is_any.true)
    (sym c.is_any-then-not-is_any.ensures ∙ c.if-not-is_any-2.true) c.args.axes.now.owned (positions.stands c.args.at.now))
