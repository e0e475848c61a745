use Rattle.std.proofs.Common.{rules, ◌≡◌, sym, subst, unsigned_abs, IfOk, Result, ℕ}
use Rattle.path_geometry.specs.Arcs.{arc_of_radius}
use Rattle.path_geometry.specs.Motions.{IsSound}
use Rattle.path_geometry.specs.declared.motion.Motion.{Motion}
use Rattle.path_geometry.proofs.ArcSoundness.{radius_sound}
use Rattle.path_geometry.proofs.arcs.arc_by_radius.Goals as goal

pub returns-in-None-clause-sound : goal.returns-in-None-clause-sound
unfolding arc_of_radius
returns-in-None-clause-sound c =
    let e : c.arc_along.result ≡ arc_of_radius c.args.ends.now c.args.first c.args.second (unsigned_abs c.args.radius) c.args.long = search rules in
    subst (λ (r : Result Motion ℕ). IfOk r IsSound) (sym e)
    (radius_sound c.args.ends.now c.args.first c.args.second (unsigned_abs c.args.radius) c.args.long c.requires.ends c.requires.plane c.requires.radius.0)
