use Rattle.std.proofs.Common.{IfSome}
use Rattle.std.proofs.lemmas.List.Elements.{All-weaker}
use Rattle.path_geometry.specs.Motions.{IsSound}
use Rattle.sync_types.specs.Items.{motion_of, movement_of}
use Rattle.channel_machine.specs.Run.{segment_of}
use Rattle.channel_machine.proofs.Follows.{if_moves}
use Rattle.channel_machine.proofs.RunLaws.{items_sound}
use Rattle.channel_machine.proofs.laws.motions_are_sound.Goals as goal

pub returns : goal.returns
returns c s c' starts =
    All-weaker (λ item. IsSound (movement_of item)) (λ item. IfSome (motion_of item) IsSound) (λ item sound. if_moves IsSound item sound)
    (segment_of s c').items (items_sound s c' starts)
