use Rattle.std.proofs.Common.{subst, sym}
use Rattle.swept_boxes.specs.Cover.{AreSmallest}
use Rattle.swept_boxes.specs.Pieces.{pieces_at}
use Rattle.swept_boxes.specs.Ranges.{RangesView}
use Rattle.swept_boxes.proofs.PieceLaws.{smallest}
use Rattle.swept_boxes.proofs.sweeps.cover.Goals as goal

pub returns-clause-smallest : goal.returns-clause-smallest
returns-clause-smallest c =
    subst (λ (ranges : RangesView). AreSmallest ranges (pieces_at c.args.motion.now 0)) (sym c.cover_ranges.ensures) (smallest c.args.motion.now c.requires)
