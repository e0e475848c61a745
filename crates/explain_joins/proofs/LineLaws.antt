-- A text is cut into its lines, one after another.
use Rattle.std.proofs.Common.{◌≡◌, ℕ, zero, suc, ◌+◌, ◌<◌, ◌≤◌, ◌==◌, Bool, true, false, cond, not, List, [], ◌∷◌, length, take, drop, None, Some, refl, ap, arith, add-one}
use Rattle.std.proofs.lemmas.Bool.Decides.{nat_tests}
use Rattle.std.proofs.lemmas.List.{take_all, drop_all}
use Rattle.std.specs.List.{position, position_or_len, onto_first}
use Rattle.explain_joins.specs.Lines.{lines_of}

cut_at : (x : ℕ) (xs : List ℕ) (n : ℕ) (b : Bool) → (x == 10) ≡ b → cond (not b) (1 + position_or_len (λ byte. byte == 10) xs) 0 ≡ n → n < suc (length xs)
    → ((m : ℕ) → position_or_len (λ byte. byte == 10) xs ≡ m → m < length xs → lines_of xs ≡ take (suc m) xs ∷ lines_of (drop (suc m) xs))
    → lines_of (x ∷ xs) ≡ take (suc n) (x ∷ xs) ∷ lines_of (drop (suc n) (x ∷ xs))
cut_at x xs zero true e p fits ih = rw e refl
cut_at x xs (suc n) true e p fits ih = absurd (omega (arith, p))
cut_at x xs zero false e p fits ih = absurd (omega (arith, p))
cut_at x xs (suc n) false e p fits ih = rw e (ap (onto_first x) (ih n (omega (arith, p)) (omega (arith, fits))))

-- a line ends with the first line feed
cut : (xs : List ℕ) (n : ℕ) → position_or_len (λ byte. byte == 10) xs ≡ n → n < length xs → lines_of xs ≡ take (suc n) xs ∷ lines_of (drop (suc n) xs)
cut [] n p fits = absurd (omega (arith, fits))
cut (x ∷ xs) n p fits = cut_at x xs n (x == 10) refl p fits (cut xs)

pub line_cut : (xs : List ℕ) (n : ℕ) → position (λ byte. byte == 10) xs ≡ Some n → lines_of xs ≡ take (n + 1) xs ∷ lines_of (drop (n + 1) xs)
line_cut xs n e =
    let s : position_or_len (λ byte. byte == 10) xs ≡ n = grind (arith, nat_tests) in
    let f : n < length xs = grind (arith, nat_tests) in
    rw (add-one n) (cut xs n s f)

whole_one : (x : ℕ) (b : Bool) → (x == 10) ≡ b → 1 ≤ cond (not b) 1 0 → lines_of (x ∷ []) ≡ (x ∷ []) ∷ []
whole_one x true e h = absurd (omega (arith, h))
whole_one x false e h = rw e refl

whole_more : (x y : ℕ) (ys : List ℕ) (b : Bool) → (x == 10) ≡ b → suc (length (y ∷ ys)) ≤ cond (not b) (1 + position_or_len (λ byte. byte == 10) (y ∷ ys)) 0
    → (length (y ∷ ys) ≤ position_or_len (λ byte. byte == 10) (y ∷ ys) → lines_of (y ∷ ys) ≡ (y ∷ ys) ∷ []) → lines_of (x ∷ y ∷ ys) ≡ (x ∷ y ∷ ys) ∷ []
whole_more x y ys true e h rest = absurd (omega (arith, h))
whole_more x y ys false e h rest = rw e (ap (onto_first x) (rest (omega (arith, h))))

-- where no line feed comes, the text is the last line
whole : (x : ℕ) (xs : List ℕ) → length (x ∷ xs) ≤ position_or_len (λ byte. byte == 10) (x ∷ xs) → lines_of (x ∷ xs) ≡ (x ∷ xs) ∷ []
whole x [] h = whole_one x (x == 10) refl h
whole x (y ∷ ys) h = whole_more x y ys (x == 10) refl h (whole y ys)

pub line_left : (xs : List ℕ) → 0 < length xs → position (λ byte. byte == 10) xs ≡ None → lines_of xs ≡ take (length xs) xs ∷ lines_of (drop (length xs) xs)
line_left [] some e = absurd (omega (arith, some))
line_left (x ∷ xs) some e =
    let long : length (x ∷ xs) ≤ position_or_len (λ byte. byte == 10) (x ∷ xs) = grind (arith, nat_tests) in
    let all : take (length (x ∷ xs)) (x ∷ xs) ≡ x ∷ xs = take_all (length (x ∷ xs)) (x ∷ xs) (omega arith) in
    let none : drop (length (x ∷ xs)) (x ∷ xs) ≡ [] = drop_all (length (x ∷ xs)) (x ∷ xs) (omega arith) in
    rw (all, none) (whole x xs long)
