-- Texts one after another.
use Rattle.std.proofs.Common.{◌≡◌, ◌∙◌, ℕ, List, ◌++◌, ap, append_assoc}

-- two after another
pub two : (s t u a b : List ℕ) → t ≡ s ++ a → u ≡ t ++ b → u ≡ s ++ (a ++ b)
two s t u a b first second = second ∙ ap (λ (xs : List ℕ). xs ++ b) first ∙ append_assoc s a b

-- four after another
pub four : (s t u v w a b c d : List ℕ) → t ≡ s ++ a → u ≡ t ++ b → v ≡ u ++ c → w ≡ v ++ d → w ≡ s ++ (a ++ (b ++ (c ++ d)))
four s t u v w a b c d first second third fourth =
    fourth ∙ ap (λ (xs : List ℕ). xs ++ d) (third ∙ ap (λ (xs : List ℕ). xs ++ c) (second ∙ ap (λ (xs : List ℕ). xs ++ b) first))
    ∙ append_assoc ((s ++ a) ++ b) c d ∙ append_assoc (s ++ a) b (c ++ d) ∙ append_assoc s a (b ++ (c ++ d))

-- five after another
pub five : (s t u v w x a b c d e : List ℕ) → t ≡ s ++ a → u ≡ t ++ b → v ≡ u ++ c → w ≡ v ++ d → x ≡ w ++ e → x ≡ s ++ (a ++ (b ++ (c ++ (d ++ e))))
five s t u v w x a b c d e first second third fourth fifth =
    four t u v w x b c d e second third fourth fifth ∙ ap (λ (xs : List ℕ). xs ++ (b ++ (c ++ (d ++ e)))) first ∙ append_assoc s a (b ++ (c ++ (d ++ e)))
