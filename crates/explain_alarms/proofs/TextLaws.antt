-- Texts that are said one after another.
use Rattle.std.proofs.Common.{◌≡◌, ◌∙◌, ℕ, List, ◌++◌, ap, append_assoc}

-- two texts after another
then_said : (start old new a b : List ℕ) → old ≡ start ++ a → new ≡ old ++ b → new ≡ start ++ (a ++ b)
then_said start old new a b first second = second ∙ (ap (λ (ys : List ℕ). ys ++ b) first ∙ append_assoc start a b)

pub three_said : (s t u v a b c : List ℕ) → t ≡ s ++ a → u ≡ t ++ b → v ≡ u ++ c → v ≡ s ++ (a ++ (b ++ c))
three_said s t u v a b c one two three = then_said s t v a (b ++ c) one (then_said t u v b c two three)
