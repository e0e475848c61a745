-- The channels of a job with how each has stopped, one by one.
use Rattle.std.proofs.Common.{◌≡◌, ◌∙◌, ℕ, zero, suc, ◌+◌, ◌-◌, ◌<◌, ◌≤◌, Bool, true, false, List, [], ◌∷◌, ◌++◌, drop, filter, length, length-append, get_or, refl, sym, ap, append_assoc, arith}
use Rattle.std.specs.List.{range_with_len, zip}

-- the numbers left, from one that passes the test, or does not
left_kept : (test : ℕ → Bool) (low n : ℕ) → test low ≡ true → filter test (range_with_len low (suc n)) ≡ low ∷ filter test (range_with_len (low + 1) n)
left_kept test low n passes = rw passes refl

left_passed : (test : ℕ → Bool) (low n : ℕ) → test low ≡ false → filter test (range_with_len low (suc n)) ≡ filter test (range_with_len (low + 1) n)
left_passed test low n fails = rw fails refl

module _ {X : Type 0} (test : ℕ → Bool) (over : ℕ) (ends : List X) where
  -- what is still to come, of the numbers from this one on
  abbrev pub Rest : ℕ → ℕ → List (ℕ × X)
  Rest number place = zip (filter test (range_with_len number (over - number))) (drop place ends)

  zip_end : (ns : List ℕ) (xs : List X) → xs ≡ [] → zip ns xs ≡ []
  zip_end [] xs none = refl
  zip_end (n ∷ ns) xs none = rw none refl

  dropped : (place : ℕ) (d : X) (xs : List X) → place < length xs → drop place xs ≡ get_or xs place d ∷ drop (suc place) xs
  dropped place d [] within = absurd (omega arith)
  dropped zero d (x ∷ xs) within = refl
  dropped (suc place) d (x ∷ xs) within = dropped place d xs (omega arith)

  dropped_all : (place : ℕ) (xs : List X) → length xs ≤ place → drop place xs ≡ []
  dropped_all zero [] far = refl
  dropped_all (suc place) [] far = refl
  dropped_all zero (x ∷ xs) far = absurd (omega arith)
  dropped_all (suc place) (x ∷ xs) far = dropped_all place xs (omega arith)

  -- a channel with the next end
  pub rest_taken : (number place next : ℕ) (d : X) → number < over → test number ≡ true → place < length ends → next ≡ place + 1 → Rest number place ≡ (number, get_or ends place d) ∷ Rest (number + 1) next
  rest_taken number place next d below passes within is_next =
      let one : over - number ≡ suc (over - (number + 1)) = omega arith in
      let next_is : next ≡ suc place = omega arith in
      ap (λ (n : ℕ). zip (filter test (range_with_len number n)) (drop place ends)) one
      ∙ ap (λ (ns : List ℕ). zip ns (drop place ends)) (left_kept test number (over - (number + 1)) passes)
      ∙ ap (λ (xs : List X). zip (number ∷ filter test (range_with_len (number + 1) (over - (number + 1)))) xs) (dropped place d ends within)
      ∙ ap (λ (k : ℕ). (number, get_or ends place d) ∷ Rest (number + 1) k) (sym next_is)

  -- no channel of this number
  pub rest_passed : (number place : ℕ) → number < over → test number ≡ false → Rest number place ≡ Rest (number + 1) place
  rest_passed number place below fails =
      let one : over - number ≡ suc (over - (number + 1)) = omega arith in
      ap (λ (n : ℕ). zip (filter test (range_with_len number n)) (drop place ends)) one
      ∙ ap (λ (ns : List ℕ). zip ns (drop place ends)) (left_passed test number (over - (number + 1)) fails)

  -- no end is left
  pub rest_over : (number place : ℕ) → length ends ≤ place → Rest number place ≡ []
  rest_over number place far = zip_end (filter test (range_with_len number (over - number))) (drop place ends) (dropped_all place ends far)

  -- the list so far and the rest, one number on
  abbrev pub IsSoFar : List (ℕ × X) → ℕ → List (ℕ × X) → Type 0
  IsSoFar stops number all = (length stops + 1 ≤ number) × (stops ++ Rest number (length stops) ≡ all)

  pub taken : (stops next all : List (ℕ × X)) (number : ℕ) (d : X) → number < over → test number ≡ true → length stops < length ends → next ≡ stops ++ (number, get_or ends (length stops) d) ∷ []
      → IsSoFar stops number all → IsSoFar next (number + 1) all
  taken stops next all number d below passes within is so_far =
      let longer : length next ≡ length stops + 1 = ap (λ (xs : List (ℕ × X)). length xs) is ∙ length-append stops ((number, get_or ends (length stops) d) ∷ []) in
      let split : next ++ Rest (number + 1) (length next) ≡ stops ++ Rest number (length stops) =
      ap (λ (xs : List (ℕ × X)). xs ++ Rest (number + 1) (length next)) is
      ∙ append_assoc stops ((number, get_or ends (length stops) d) ∷ []) (Rest (number + 1) (length next))
      ∙ ap (λ (xs : List (ℕ × X)). stops ++ xs) (sym (rest_taken number (length stops) (length next) d below passes within longer)) in
      let few : length stops + 1 ≤ number = so_far.0 in
      (omega (arith, longer, few), split ∙ so_far.1)

  -- the same, of the ends under another name
  pub taken_from : (others : List X) (place : ℕ) (d : X) → others ≡ ends → (stops next all : List (ℕ × X)) (number : ℕ) → place ≡ length stops → number < over → test number ≡ true → place < length others
      → next ≡ stops ++ (number, get_or others place d) ∷ [] → IsSoFar stops number all → IsSoFar next (number + 1) all
  taken_from others place d same stops next all number is_place below passes within is so_far =
      let long : length others ≡ length ends = ap (λ (xs : List X). length xs) same in
      taken stops next all number d below passes (omega (arith, long, is_place))
      (is ∙ ap (λ (x : X). stops ++ (number, x) ∷ []) (ap (λ (xs : List X). get_or xs place d) same ∙ ap (λ (k : ℕ). get_or ends k d) is_place)) so_far

  pub passed : (stops all : List (ℕ × X)) (number : ℕ) → number < over → test number ≡ false → IsSoFar stops number all → IsSoFar stops (number + 1) all
  passed stops all number below fails so_far =
      let few : length stops + 1 ≤ number = so_far.0 in
      (omega (arith, few), ap (λ (xs : List (ℕ × X)). stops ++ xs) (sym (rest_passed number (length stops) below fails)) ∙ so_far.1)

  pub full : (stops all : List (ℕ × X)) (number : ℕ) → length ends ≤ length stops → IsSoFar stops number all → IsSoFar stops (number + 1) all
  full stops all number far so_far =
      let few : length stops + 1 ≤ number = so_far.0 in
      (omega (arith, few), ap (λ (xs : List (ℕ × X)). stops ++ xs) (rest_over (number + 1) (length stops) far ∙ sym (rest_over number (length stops) far)) ∙ so_far.1)
