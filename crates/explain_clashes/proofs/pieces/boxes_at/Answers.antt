use Rattle.std.proofs.Common.{Option, IfSome, sym, subst}
use Rattle.path_geometry.specs.Motions.{IsSound}
use Rattle.path_geometry.specs.declared.motion.Motion.{Motion}
use Rattle.zone_stretches.proofs.FitLaws.{fit_motions}
use Rattle.explain_clashes.proofs.pieces.boxes_at.Goals as goal

pub boxes_in_pieces-requires-clause-sound : goal.boxes_in_pieces-requires-clause-sound
boxes_in_pieces-requires-clause-sound c =
    subst (λ (motion : Option Motion). IfSome motion IsSound) (sym c.motion_at-motion.ensures) (fit_motions c.args.run.now _ _ c.requires.fit)
