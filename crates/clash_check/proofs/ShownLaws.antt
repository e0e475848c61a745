-- Stretches with no boxes give no answer, so those with boxes may be looked at alone.
use Rattle.std.proofs.Common.{◌≡◌, ◌∙◌, ℕ, zero, suc, ◌+◌, ◌<◌, ◌≤◌, Bool, true, false, cond, List, [], ◌∷◌, drop, take, length, get_or, Option, None, refl, sym, ap, arith}
use Rattle.std.specs.Option.{option_or}
use Rattle.clash_check.specs.FirstAnswer.{first_some}
use Rattle.clash_check.specs.Meetings.{Names, first_in_stretches}
use Rattle.clash_check.specs.Shown.{is_bare, next_shown}
use Rattle.job_types.specs.declared.job.ZoneLine.{ZoneLine}
use Rattle.zone_stretches.specs.Ascents.{leading}
use Rattle.zone_stretches.specs.Cases.{Case}
use Rattle.zone_stretches.specs.Stretches.{StretchView}

-- ---- the next place

-- a place in lists: what comes at it, and the rest
drop_at : {X : Type 0} (xs : List X) (k : ℕ) (d : X) → k < length xs → drop k xs ≡ get_or xs k d ∷ drop (suc k) xs
drop_at [] k d within = absurd (omega arith)
drop_at (x ∷ xs) zero d within = refl
drop_at (x ∷ xs) (suc k) d within = drop_at xs k d (omega arith)

pub next_at : (xs : List StretchView) (k next : ℕ) (d : StretchView) → next ≡ k + 1 → k < length xs → next_shown xs k ≡ cond (is_bare (get_or xs k d)) (next_shown xs next) k
next_at xs k next d next_is within =
    ap (λ (ys : List StretchView). k + leading is_bare ys) (drop_at xs k d within) ∙ by_bare (is_bare (get_or xs k d))
    ∙ ap (λ (n : ℕ). cond (is_bare (get_or xs k d)) (n + leading is_bare (drop n xs)) k) next_is'
  where
    next_is' : suc k ≡ next
    next_is' = omega (arith, next_is)

    by_bare : (b : Bool) → k + cond b (suc (leading is_bare (drop (suc k) xs))) 0 ≡ cond b (suc k + leading is_bare (drop (suc k) xs)) k
    by_bare true = omega arith
    by_bare false = omega arith

pub next_past : (xs : List StretchView) → next_shown xs (length xs) ≡ length xs
next_past xs = ap (λ (ys : List StretchView). length xs + leading is_bare ys) (none xs) ∙ last
  where
    none : (xs : List StretchView) → drop (length xs) xs ≡ []
    none [] = refl
    none (x ∷ xs) = none xs

    last : length xs + 0 ≡ length xs
    last = omega arith

-- it is among the places
leading_within : (xs : List StretchView) → leading is_bare xs ≤ length xs
leading_within [] = omega arith
leading_within (x ∷ xs) = by_bare (is_bare x) (leading_within xs)
  where
    by_bare : (b : Bool) → leading is_bare xs ≤ length xs → cond b (suc (leading is_bare xs)) 0 ≤ length (x ∷ xs)
    by_bare true rest = omega (arith, rest)
    by_bare false rest = omega arith

pub next_within : (xs : List StretchView) (k : ℕ) → k ≤ length xs → (k ≤ next_shown xs k) × (next_shown xs k ≤ length xs)
next_within xs zero within = let most = leading_within xs in (omega arith, omega (arith, most))
next_within [] (suc k) within = absurd (omega arith)
next_within (x ∷ xs) (suc k) within = let rest = next_within xs k (omega arith) in let low = rest.0 in let high = rest.1 in (omega (arith, low), omega (arith, high))

-- ---- answers

no_part : (n k : ℕ) → drop k (take {A = StretchView} n []) ≡ []
no_part zero zero = refl
no_part zero (suc k) = refl
no_part (suc n) zero = refl
no_part (suc n) (suc k) = refl

no_first : (xs : List StretchView) (k : ℕ) → drop k (take {A = StretchView} 0 xs) ≡ []
no_first [] zero = refl
no_first [] (suc k) = refl
no_first (x ∷ xs) zero = refl
no_first (x ∷ xs) (suc k) = refl

module _ (case : Case) (zone : ZoneLine) (left : StretchView) (other : ZoneLine) where
  abbrev found : StretchView → Option Names
  found = first_in_stretches case zone left other

  bare_none : (x : StretchView) → is_bare x ≡ true → found x ≡ None
  unfolding first_in_stretches
  bare_none x bare = rw bare refl

  skip_first : (xs : List StretchView) (upto : ℕ) → first_some found (take upto xs) ≡ first_some found (drop (leading is_bare xs) (take upto xs))
  skip_first [] upto = refl
  skip_first (x ∷ xs) zero = ap (first_some found) (sym (no_first (x ∷ xs) (leading is_bare (x ∷ xs))))
  skip_first (x ∷ xs) (suc upto) = by_bare (is_bare x) refl (skip_first xs upto)
    where
      by_bare : (b : Bool) → is_bare x ≡ b → first_some found (take upto xs) ≡ first_some found (drop (leading is_bare xs) (take upto xs))
          → option_or (found x) (first_some found (take upto xs)) ≡ first_some found (drop (cond b (suc (leading is_bare xs)) 0) (x ∷ take upto xs))
      by_bare true is rest = ap (λ (r : Option Names). option_or r (first_some found (take upto xs))) (bare_none x is) ∙ rest
      by_bare false is rest = refl

  -- from a place on, as from the next that has boxes
  pub skip : (xs : List StretchView) (upto k : ℕ) → first_some found (drop k (take upto xs)) ≡ first_some found (drop (next_shown xs k) (take upto xs))
  skip xs upto zero = skip_first xs upto ∙ ap (λ (n : ℕ). first_some found (drop n (take upto xs))) same
    where
      same : leading is_bare xs ≡ 0 + leading is_bare xs
      same = omega arith
  skip [] upto (suc k) = ap (first_some found) (no_part upto (suc k) ∙ sym (no_part upto (next_shown [] (suc k))))
  skip (x ∷ xs) zero (suc k) = ap (first_some found) (no_first (x ∷ xs) (suc k) ∙ sym (no_first (x ∷ xs) (next_shown (x ∷ xs) (suc k))))
  skip (x ∷ xs) (suc upto) (suc k) = skip xs upto k ∙ ap (λ (n : ℕ). first_some found (drop n (x ∷ take upto xs))) same
    where
      same : suc (k + leading is_bare (drop k xs)) ≡ suc k + leading is_bare (drop k xs)
      same = omega arith

  -- the answer of the stretch of a place, and those from the next on that has boxes
  pub skip_one : (xs : List StretchView) (upto k next : ℕ) (d : StretchView) → k < upto → k < length xs → next ≡ next_shown xs (k + 1)
      → first_some found (drop k (take upto xs)) ≡ option_or (found (get_or xs k d)) (first_some found (drop next (take upto xs)))
  skip_one xs upto k next d before within next_is =
      one xs upto k d before within ∙ ap (λ (r : Option Names). option_or (found (get_or xs k d)) r) (skip xs upto (suc k) ∙ ap (λ (n : ℕ). first_some found (drop n (take upto xs))) same)
    where
      one : (xs : List StretchView) (upto k : ℕ) (d : StretchView) → k < upto → k < length xs
          → first_some found (drop k (take upto xs)) ≡ option_or (found (get_or xs k d)) (first_some found (drop (suc k) (take upto xs)))
      one [] upto k d before within = absurd (omega arith)
      one (x ∷ xs) zero k d before within = absurd (omega arith)
      one (x ∷ xs) (suc upto) zero d before within = refl
      one (x ∷ xs) (suc upto) (suc k) d before within = one xs upto k d (omega arith) (omega arith)

      same : next_shown xs (suc k) ≡ next
      same = let step : suc k ≡ k + 1 = omega arith in ap (next_shown xs) step ∙ sym next_is

  -- past the end there is no answer
  pub none_past : (xs : List StretchView) (upto k : ℕ) → upto ≤ k → first_some found (drop k (take upto xs)) ≡ None
  none_past xs upto k past = ap (first_some found) (past_end xs upto k past)
    where
      past_end : (xs : List StretchView) (upto k : ℕ) → upto ≤ k → drop k (take upto xs) ≡ []
      past_end [] upto k past = no_part upto k
      past_end (x ∷ xs) zero k past = no_first (x ∷ xs) k
      past_end (x ∷ xs) (suc upto) zero past = absurd (omega arith)
      past_end (x ∷ xs) (suc upto) (suc k) past = past_end xs upto k (omega arith)
