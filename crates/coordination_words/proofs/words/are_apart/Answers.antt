use Rattle.std.proofs.Common.{◌≡◌, ◌&&◌, not, Bool, true, false, refl, ◌∙◌, ap}
use Rattle.axis_sets.specs.Sets.{has}
use Rattle.coordination_words.proofs.SetSteps.{all_by_none}
use Rattle.coordination_words.proofs.words.are_apart.Goals as goal

-- what is not among the others is in the set
twice : (b c : Bool) → (b && not (b && not c)) ≡ (b && not (not c))
twice true c = refl
twice false c = refl

pub returns : goal.returns
returns c =
    all_by_none (λ x. not (has c.args.set x)) c.args.axes c.minus-2.result c.is_empty.result
    (λ m. c.minus-2.ensures.members m ∙ ap (λ b. has c.args.axes m && not b) (c.minus.ensures.members m) ∙ twice (has c.args.axes m) (has c.args.set m)) c.is_empty.ensures.empty
