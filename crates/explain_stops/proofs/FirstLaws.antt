-- The first element that gives something, sought from a place on.
use Rattle.std.proofs.Common.{◌≡◌, ◌∙◌, ℕ, zero, suc, ◌+◌, ◌≤◌, List, [], ◌∷◌, drop, length, slice_get, Option, None, Some, refl, ap, add-one, arith}
use Rattle.std.specs.Option.{option_and_then, option_or}
use Rattle.explain_stops.specs.MarkBlocks.{first_given}

-- from a place on it is what the element there gives, or else the first after it
next_given : {A B : Type 0} (f : A → Option B) (xs : List A) (place : ℕ)
    → first_given f (drop place xs) ≡ option_or (option_and_then f (slice_get xs place)) (first_given f (drop (suc place) xs))
next_given f [] zero = refl
next_given f [] (suc place) = refl
next_given f (x ∷ xs) zero = refl
next_given f (x ∷ xs) (suc place) = next_given f xs place

-- where the element of a place gives something, that is it
pub given_here : {A B : Type 0} (f : A → Option B) (xs : List A) (place : ℕ) (found : Option B) (y : B) → found ≡ first_given f (drop place xs)
    → option_and_then f (slice_get xs place) ≡ Some y → found ≡ Some y
given_here {B = B} f xs place found y so_far here =
    so_far ∙ next_given f xs place ∙ ap (λ (o : Option B). option_or o (first_given f (drop (suc place) xs))) here

-- where it gives nothing, the search goes on
pub given_later : {A B : Type 0} (f : A → Option B) (xs : List A) (place : ℕ) (found : Option B) → found ≡ first_given f (drop place xs)
    → option_and_then f (slice_get xs place) ≡ None → found ≡ first_given f (drop (place + 1) xs)
given_later {B = B} f xs place found so_far here =
    rw add-one (so_far ∙ next_given f xs place ∙ ap (λ (o : Option B). option_or o (first_given f (drop (suc place) xs))) here)

-- past all elements nothing is found
pub given_nowhere : {A B : Type 0} (f : A → Option B) (xs : List A) (place : ℕ) (found : Option B) → found ≡ first_given f (drop place xs) → length xs ≤ place → found ≡ None
given_nowhere f [] zero found so_far past = so_far
given_nowhere f [] (suc place) found so_far past = so_far
given_nowhere f (x ∷ xs) zero found so_far past = absurd (omega arith)
given_nowhere f (x ∷ xs) (suc place) found so_far past = given_nowhere f xs place found so_far (omega arith)
