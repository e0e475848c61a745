-- Texts that are added one after another.
use Rattle.std.proofs.Common.{◌≡◌, ◌∙◌, ℕ, List, [], ◌++◌, ap, append_assoc}

pub two_more : (s t u a b : List ℕ) → t ≡ s ++ a → u ≡ t ++ b → u ≡ s ++ (a ++ b)
two_more s t u a b one two = two ∙ ap (λ (xs : List ℕ). xs ++ b) one ∙ append_assoc s a b

pub three_more : (s t u v a b c : List ℕ) → t ≡ s ++ a → u ≡ t ++ b → v ≡ u ++ c → v ≡ s ++ (a ++ (b ++ c))
three_more s t u v a b c one two three = two_more s t v a (b ++ c) one (two_more t u v b c two three)

pub four_more : (s t u v w a b c d : List ℕ) → t ≡ s ++ a → u ≡ t ++ b → v ≡ u ++ c → w ≡ v ++ d → w ≡ s ++ (a ++ (b ++ (c ++ d)))
four_more s t u v w a b c d one two three four = two_more s t w a (b ++ (c ++ d)) one (three_more t u v w b c d two three four)

-- after nothing
pub from_nothing : (none x text : List ℕ) → none ≡ [] → text ≡ none ++ x → text ≡ x
from_nothing none x text empty is = is ∙ ap (λ (xs : List ℕ). xs ++ x) empty
