use Rattle.std.proofs.Common.{ap, ◌++◌, ◌∙◌}
use Rattle.std.proofs.lemmas.Int.{to_z-of_z}
use Rattle.std.specs.Int.{w64}
use Rattle.growing_text.specs.Lengths.{millimetres_text}
use Rattle.explain_texts.proofs.TextLaws.{five_more}
use Rattle.explain_texts.specs.Room.{room_text}
use Rattle.explain_texts.proofs.room_texts.say_room.Goals as goal

pub returns : goal.returns
unfolding room_text
returns c =
    five_more _ _ _ _ _ _ _ _ _ _ _ c.say.ensures (c.millimetres.ensures ∙ ap (λ z. c.say.new.self ++ millimetres_text z) (to_z-of_z w64 c.args.apart c.ranges.apart))
    c.say-2.ensures (c.millimetres-2.ensures ∙ ap (λ z. c.say-2.new.self ++ millimetres_text z) (to_z-of_z w64 c.args.left c.ranges.left)) c.say-3.ensures
