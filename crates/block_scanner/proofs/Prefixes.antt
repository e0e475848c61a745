-- How far a test holds from the front of a list.
use Rattle.std.proofs.Common.{◌≡◌, ℕ, zero, suc, ◌+◌, Bool, true, false, cond, List, [], ◌∷◌, ◌++◌, length, take, drop, refl, sym, ◌∙◌, ap, subst, arith}
use Rattle.std.specs.List.{list_all, prefix_len}
use Rattle.std.proofs.lemmas.Bool.{and_parts, and_from, cond_both}
use Rattle.std.proofs.lemmas.List.{take-append-drop, length-take-le}
use Rattle.std.proofs.lemmas.List.Sums.{prefix_len-le-length}

module _ (p : ℕ → Bool) where
  -- the test holds for all of a front
  pub prefix_len-append : (xs ys : List ℕ) → list_all p xs ≡ true → prefix_len p (xs ++ ys) ≡ length xs + prefix_len p ys
  prefix_len-append [] ys all = omega arith
  prefix_len-append (x ∷ xs) ys all =
      let parts = and_parts (p x) (list_all p xs) all in
      let rest = prefix_len-append xs ys parts.1 in
      ap (λ b. cond b (1 + prefix_len p (xs ++ ys)) 0) parts.0 ∙ omega arith

  pub list_all-take_prefix : (xs : List ℕ) → list_all p (take (prefix_len p xs) xs) ≡ true
  list_all-take_prefix [] = refl
  list_all-take_prefix (x ∷ xs) =
      let P = λ (n : ℕ). list_all p (take n (x ∷ xs)) ≡ true in
      cond_both (p x) (1 + prefix_len p xs) 0 P
      (λ yes_. let one : suc (prefix_len p xs) ≡ 1 + prefix_len p xs = omega arith in
      subst P one (and_from (p x) (list_all p (take (prefix_len p xs) xs)) yes_ (list_all-take_prefix xs)))
      (λ no_. refl)

  pub prefix_len-drop_prefix : (xs : List ℕ) → prefix_len p (drop (prefix_len p xs) xs) ≡ 0
  prefix_len-drop_prefix [] = refl
  prefix_len-drop_prefix (x ∷ xs) =
      let P = λ (n : ℕ). prefix_len p (drop n (x ∷ xs)) ≡ 0 in
      cond_both (p x) (1 + prefix_len p xs) 0 P
      (λ yes_. let one : suc (prefix_len p xs) ≡ 1 + prefix_len p xs = omega arith in subst P one (prefix_len-drop_prefix xs))
      (λ no_. ap (λ b. cond b (1 + prefix_len p xs) 0) no_)

  -- the front for which a test holds, and what is after it
  pub record Cut (xs : List ℕ) : Type 0 where
    pub front : List ℕ
    pub following : List ℕ
    pub joined : xs ≡ front ++ following
    pub holds : list_all p front ≡ true
    pub long : prefix_len p xs ≡ length front
    pub stops : prefix_len p following ≡ 0

  pub cut : (xs : List ℕ) → Cut xs
  cut xs = record {
    front = take (prefix_len p xs) xs;
    following = drop (prefix_len p xs) xs;
    joined = sym (take-append-drop (prefix_len p xs) xs);
    holds = list_all-take_prefix xs;
    long = sym (length-take-le (prefix_len p xs) xs (prefix_len-le-length p xs));
    stops = prefix_len-drop_prefix xs;
  }

  -- a byte at which the test stops
  pub stops_at : (x : ℕ) (xs : List ℕ) → prefix_len p (x ∷ xs) ≡ 0 → p x ≡ false
  stops_at x xs h = by (p x) refl
    where
      by : (b : Bool) → p x ≡ b → b ≡ false
      by true e = absurd (let one : cond true (1 + prefix_len p xs) 0 ≡ 0 = ap (λ c. cond c (1 + prefix_len p xs) 0) (sym e) ∙ h in omega arith)
      by false e = refl

-- so many bytes of a list that is joined
pub take-append-more : (xs ys : List ℕ) (n : ℕ) → take (length xs + n) (xs ++ ys) ≡ xs ++ take n ys
take-append-more [] ys n = let none : zero + n ≡ n = omega arith in ap (λ m. take m ys) none
take-append-more (x ∷ xs) ys n =
    let one : suc (length xs) + n ≡ suc (length xs + n) = omega arith in
    ap (λ m. take m (x ∷ xs ++ ys)) one ∙ ap (λ l. x ∷ l) (take-append-more xs ys n)

pub drop-append-more : (xs ys : List ℕ) (n : ℕ) → drop (length xs + n) (xs ++ ys) ≡ drop n ys
drop-append-more [] ys n = let none : zero + n ≡ n = omega arith in ap (λ m. drop m ys) none
drop-append-more (x ∷ xs) ys n =
    let one : suc (length xs) + n ≡ suc (length xs + n) = omega arith in
    ap (λ m. drop m (x ∷ xs ++ ys)) one ∙ drop-append-more xs ys n
