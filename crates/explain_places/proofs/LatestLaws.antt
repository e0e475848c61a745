-- The last that a test gives of the elements up to a place.
use Rattle.std.proofs.Common.{◌≡◌, ◌∙◌, ℕ, zero, suc, ◌+◌, List, [], ◌∷◌, take, slice_get, Option, None, Some, unwrap_or, refl, sym, ap, add-one}
use Rattle.std.specs.List.{cons_option, filter_map, last_or}
use Rattle.std.specs.Option.{option_and_then, option_or}

or_one : {Y : Type 0} (o r : Option Y) → last_or o (cons_option r []) ≡ option_or r o
or_one o None = refl
or_one o (Some y) = refl

-- of one element more it is what the test gives of that, or else the last before it
pub latest_next : {X Y : Type 0} (h : X → Option Y) (o : Option Y) (xs : List X) (place : ℕ)
    → last_or o (filter_map h (take (suc place) xs)) ≡ option_or (option_and_then h (slice_get xs place)) (last_or o (filter_map h (take place xs)))
latest_next h o [] zero = refl
latest_next h o [] (suc place) = refl
latest_next h o (x ∷ xs) zero = or_one o (h x)
latest_next {Y = Y} h o (x ∷ xs) (suc place) = by_answer (h x) (λ p. latest_next h p xs place)
  where
    by_answer : (r : Option Y)
        → ((p : Option Y) → last_or p (filter_map h (take (suc place) xs)) ≡ option_or (option_and_then h (slice_get xs place)) (last_or p (filter_map h (take place xs))))
        → last_or o (cons_option r (filter_map h (take (suc place) xs))) ≡ option_or (option_and_then h (slice_get xs place)) (last_or o (cons_option r (filter_map h (take place xs))))
    by_answer None later = later o
    by_answer (Some y) later = later (Some y)

or_unwrapped : {Y : Type 0} (r o : Option Y) (d : Y) → unwrap_or (option_or r o) d ≡ unwrap_or r (unwrap_or o d)
or_unwrapped None o d = refl
or_unwrapped (Some y) o d = refl

-- the last so far, or else a given one
pub latest_more : {X Y : Type 0} (h : X → Option Y) (xs : List X) (place : ℕ) (d before now : Y)
    → before ≡ unwrap_or (last_or None (filter_map h (take place xs))) d
    → now ≡ unwrap_or (option_and_then h (slice_get xs place)) before
    → now ≡ unwrap_or (last_or None (filter_map h (take (place + 1) xs))) d
latest_more {Y = Y} h xs place d before now so_far next =
    let more : last_or None (filter_map h (take (place + 1) xs)) ≡ option_or (option_and_then h (slice_get xs place)) (last_or None (filter_map h (take place xs))) =
    rw add-one (latest_next h None xs place) in
    next
    ∙ ap (unwrap_or (option_and_then h (slice_get xs place))) so_far
    ∙ sym (or_unwrapped (option_and_then h (slice_get xs place)) (last_or None (filter_map h (take place xs))) d)
    ∙ sym (ap (λ (o : Option Y). unwrap_or o d) more)
