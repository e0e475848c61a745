use Rattle.std.proofs.Common.{rules, ◌≡◌, sym, subst, Ok, IfOk, Result, ℕ}
use Rattle.path_geometry.specs.Arcs.{arc_about}
use Rattle.path_geometry.specs.Motions.{IsSound}
use Rattle.path_geometry.specs.declared.motion.Motion.{Motion}
use Rattle.path_geometry.specs.declared.motion.Motion.TheVariants as Kind
use Rattle.path_geometry.proofs.ArcSoundness.{about_sound}
use Rattle.path_geometry.proofs.arcs.arc_by_centre.Goals as goal

pub returns-in-None-clause-sound : goal.returns-in-None-clause-sound
unfolding arc_about
returns-in-None-clause-sound c =
    let e : Ok (Kind.Arc c.arc_with.result) ≡ arc_about c.args.ends.now c.args.first c.args.second c.args.centre = search rules in
    subst (λ (r : Result Motion ℕ). IfOk r IsSound) (sym e)
    (about_sound c.args.ends.now c.args.first c.args.second c.args.centre c.requires.ends c.requires.plane c.requires.centre)
