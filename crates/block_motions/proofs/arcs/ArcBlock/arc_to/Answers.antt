use Rattle.axis_sets.specs.declared.limits.TheConstants.{AXIS_LIMIT}
use Rattle.std.proofs.Common.{◌≡◌, ◌≢◌, ◌∙◌, ℕ, ℤ, List, true, AllPairs, Result, Ok, Err, IfOk, sym, ap, subst}
use Rattle.axis_sets.specs.Positions.{stands}
use Rattle.block_motions.specs.Motions.{end_for, are_in_reach, are_own}
use Rattle.block_motions.proofs.Ends.{ends_once}
use Rattle.block_motions.proofs.Reaches.{are_reached}
use Rattle.path_geometry.specs.Motions.{axes_of}
use Rattle.path_geometry.specs.declared.motion.Motion.{Motion}
use Rattle.block_motions.specs.Arcs.{arc_given, can_run, some_motion}
use Rattle.block_motions.proofs.Arrivals.{arrives}
use Rattle.block_motions.proofs.Runs.{in_range, arc_gives}
use Rattle.block_motions.proofs.arcs.ArcBlock.arc_to.Goals as goal

pub move_axes-ends-requires : goal.move_axes-ends-requires
move_axes-ends-requires c =
    are_reached c.args.self.now.axes.now.owned (stands c.args.at.now) c.args.goals.now (sym c.are_in_reach.ensures ∙ c.if-not-are_in_reach.false) (sym c.are_own.ensures ∙ c.if-not-are_own.false)

pub arc_given-requires-clause-ends : goal.arc_given-requires-clause-ends
arc_given-requires-clause-ends c =
    let can : can_run c.args.sides.now c.move_axes-ends.result ≡ true = sym c.can_run.ensures ∙ c.if-not-can_run.false in
    record {
      once = subst (λ (es : List (ℕ × ℤ × ℤ)). AllPairs (λ e f. e.0 ≢ f.0) es) (sym c.move_axes-ends.ensures.ends)
          (ends_once (stands c.args.at.now) (end_for (stands c.args.at.now) c.args.goals.now) 0 AXIS_LIMIT);
      in_range = in_range c.args.sides.now c.move_axes-ends.result can;
    }

pub returns-in-Ok-clause-made : goal.returns-in-Ok-clause-made
returns-in-Ok-clause-made c h are =
    let reach : are_in_reach c.args.self.now.axes.now.owned (stands c.args.at.now) c.args.goals.now ≡ true = sym c.are_in_reach.ensures ∙ c.if-not-are_in_reach.false in
    let own : are_own c.args.self.now.axes.now.owned c.args.goals.now ≡ true = sym c.are_own.ensures ∙ c.if-not-are_own.false in
    let can : can_run c.args.sides.now c.move_axes-ends.result ≡ true = sym c.can_run.ensures ∙ c.if-not-can_run.false in
    let given : Ok c.in-Ok.motion ≡ arc_given h (stands c.args.at.now) c.args.self.now.words.now c.args.self.now.words.now.radius c.args.sides.now c.move_axes-ends.result =
    sym c.in-Ok.is ∙ c.arc_given.ensures.value h are in
    ap (some_motion) given
    ∙ sym (arc_gives c.args.self.now.axes.now.owned h (stands c.args.at.now) c.args.self.now.words.now c.args.sides.now c.args.goals.now reach own c.move_axes-ends.result c.move_axes-ends.ensures.ends can)

pub returns-in-Err-clause-made : goal.returns-in-Err-clause-made
returns-in-Err-clause-made c h are =
    let reach : are_in_reach c.args.self.now.axes.now.owned (stands c.args.at.now) c.args.goals.now ≡ true = sym c.are_in_reach.ensures ∙ c.if-not-are_in_reach.false in
    let own : are_own c.args.self.now.axes.now.owned c.args.goals.now ≡ true = sym c.are_own.ensures ∙ c.if-not-are_own.false in
    let can : can_run c.args.sides.now c.move_axes-ends.result ≡ true = sym c.can_run.ensures ∙ c.if-not-can_run.false in
    let given : Err c.in-Err.alarm ≡ arc_given h (stands c.args.at.now) c.args.self.now.words.now c.args.self.now.words.now.radius c.args.sides.now c.move_axes-ends.result =
    sym c.in-Err.is ∙ c.arc_given.ensures.value h are in
    ap (some_motion) given
    ∙ sym (arc_gives c.args.self.now.axes.now.owned h (stands c.args.at.now) c.args.self.now.words.now c.args.sides.now c.args.goals.now reach own c.move_axes-ends.result c.move_axes-ends.ensures.ends can)

pub returns-in-Ok-clause-stand : goal.returns-in-Ok-clause-stand
returns-in-Ok-clause-stand c =
    let same_axes : axes_of c.in-Ok.motion ≡ c.move_axes-ends.result.axes =
    subst (λ (r : Result Motion ℕ). IfOk r (λ motion. axes_of motion ≡ c.move_axes-ends.result.axes)) c.in-Ok.is c.arc_given.ensures.axes in
    arrives c.args.at.now c.move_axes-ends.new.at c.args.goals.now c.type_inv.goals c.move_axes-ends.ensures.stand c.in-Ok.motion (same_axes ∙ c.move_axes-ends.ensures.ends)
