use Rattle.std.proofs.Common.{◌≡◌, ◌∙◌, List, ℕ, ◌++◌, ap, append_assoc}
use Rattle.std.specs.Fmt.{decimal}
use Rattle.explain_views.specs.Marks.{class_text}
use Rattle.explain_views.proofs.marks.put_point_class.Goals as goal

-- three texts after another
three : (s t u v a b c : List ℕ) → t ≡ s ++ a → u ≡ t ++ b → v ≡ u ++ c → v ≡ s ++ (a ++ (b ++ c))
three s t u v a b c e f g =
    g ∙ ap (λ (xs : List ℕ). xs ++ c) (f ∙ ap (λ (xs : List ℕ). xs ++ b) e) ∙ append_assoc (s ++ a) b c ∙ append_assoc s a (b ++ c)

pub returns : goal.returns
unfolding class_text
returns c = three _ _ _ _ _ _ _ c.say.ensures (c.number.ensures ∙ ap (λ n. c.say.new.self ++ decimal n) c.from.ensures) c.say-2.ensures
