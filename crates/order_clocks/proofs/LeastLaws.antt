-- The order of races composes.
use Rattle.std.proofs.Common.{ℕ, inl, inr, List, [], ◌∷◌, refl, ◌∙◌, arith}
use Rattle.order_clocks.specs.RaceOrder.{IsUpTo}

pub up_to_itself : (xs : List ℕ) → IsUpTo xs xs
up_to_itself [] = tt
up_to_itself (x ∷ xs) = inr (refl, up_to_itself xs)

pub up_to_on : (xs ys zs : List ℕ) → IsUpTo xs ys → IsUpTo ys zs → IsUpTo xs zs
up_to_on [] ys zs one two = tt
up_to_on (x ∷ xs) [] zs one two = absurd one
up_to_on (x ∷ xs) (y ∷ ys) [] one two = absurd two
up_to_on (x ∷ xs) (y ∷ ys) (z ∷ zs) (inl less) (inl more) = inl (omega arith)
up_to_on (x ∷ xs) (y ∷ ys) (z ∷ zs) (inl less) (inr (same, rest)) = inl (omega arith)
up_to_on (x ∷ xs) (y ∷ ys) (z ∷ zs) (inr (same, rest)) (inl more) = inl (omega arith)
up_to_on (x ∷ xs) (y ∷ ys) (z ∷ zs) (inr (same, rest)) (inr (other, more)) = inr (same ∙ other, up_to_on xs ys zs rest more)
