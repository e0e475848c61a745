use Rattle.std.proofs.Common.{◌∙◌}
use Rattle.std.proofs.lemmas.Result.{IfOk-weaker}
use Rattle.explain_refused.specs.Listing.{listing_text}
use Rattle.explain_refused.proofs.TextLaws.{four_more, from_nothing}
use Rattle.explain_refused.proofs.listing.listing_text.Goals as goal

pub returns : goal.returns
unfolding listing_text
returns c =
    IfOk-weaker c.finish.result _ _
    (λ text same. same ∙ from_nothing _ _ _ c.new-text.ensures (four_more _ _ _ _ _ _ _ _ _ c.say_count.ensures c.say_group.ensures c.say_group-2.ensures c.say.ensures))
    c.finish.ensures
