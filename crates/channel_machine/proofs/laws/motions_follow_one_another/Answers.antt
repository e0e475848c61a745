use Rattle.std.proofs.Common.{subst, take}
use Rattle.block_motions.specs.Motions.{IsMotionOf}
use Rattle.path_geometry.specs.declared.motion.Motion.{Motion}
use Rattle.sync_types.specs.Items.{left_at}
use Rattle.sync_types.proofs.Positions.{moved_by}
use Rattle.channel_machine.specs.Run.{grant_after, segment_of, stands_after}
use Rattle.channel_machine.proofs.RunLaws.{all_follow}
use Rattle.channel_machine.proofs.laws.motions_follow_one_another.Goals as goal

pub returns : goal.returns
returns c s c' place item motion is moves =
    subst (λ (m : Motion). IsMotionOf (grant_after s c'.past).axes (left_at (take place (segment_of s c').items) (stands_after s c'.past)) m) (moved_by item motion moves) ((all_follow s c').follows place item is)
