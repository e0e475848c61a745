use Rattle.std.proofs.Common.{ap, Bool, ◌++◌, ◌∙◌, ◌||◌, List, ℕ}
use Rattle.std.specs.Prelude.{codes}
use Rattle.explain_pairs.proofs.TextLaws.{four_more}
use Rattle.explain_pairs.specs.Reasons.{reason_text, reasons_by}
use Rattle.explain_pairs.proofs.reasons.say_reasons_by.Goals as goal

pub returns : goal.returns
unfolding reasons_by
returns c =
    four_more _ _ _ _ _ _ _ _ _ c.say_reason.ensures c.say_reason-2.ensures
    (c.say_reason-3.ensures ∙ ap (λ (later : Bool). c.say_reason-2.new.text ++ reason_text later c.args.channel (codes "are kept apart in time by the order of one channel's blocks")) c.either-early.ensures)
    (c.say_reason-4.ensures
    ∙ ap (λ (later : Bool). c.say_reason-3.new.text ++ reason_text later c.args.marks (codes "are kept apart in time by marks or other coordination"))
    (c.either-before.ensures ∙ ap (λ (early : Bool). early || c.args.channel) c.either-early.ensures))
