-- Goals that are in reach, and those of owned axes.
use Rattle.axis_sets.specs.declared.limits.TheConstants.{AXIS_LIMIT}
use Rattle.std.proofs.Common.{◌≡◌, ℕ, zero, suc, ℤ, ◌+◌, ◌<◌, ◌≤◌, ◌&&◌, Bool, true, false, List, Option, None, Some, refl, ap, subst, sym, ◌∙◌, ◌⊎◌, inl, inr, arith}
use Rattle.std.proofs.lemmas.Bool.{and_parts, and_from, and_left, and_right, cases_eq}
use Rattle.std.specs.List.{list_all, range_with_len}
use Rattle.axis_sets.specs.Sets.{has}
use Rattle.block_motions.specs.declared.goals.Goal.{Goal}
use Rattle.block_motions.specs.Motions.{goal_at, is_in_reach, are_in_reach, is_own, are_own, AreReached}

-- ---- a test at each number of a range

module _ (f : ℕ → Bool) where
  pub all_at : (a n k : ℕ) → list_all f (range_with_len a n) ≡ true → a ≤ k → k < a + n → f k ≡ true
  all_at a zero k all from below = absurd (omega arith)
  all_at a (suc n) k all from below = by_order (cases_eq a k) (λ past. all_at (a + 1) n k (and_parts (f a) (list_all f (range_with_len (a + 1) n)) all).1 past (omega arith))
    where
      by_order : (a ≡ k) ⊎ (a ≡ k → ⊥) → (a + 1 ≤ k → f k ≡ true) → f k ≡ true
      by_order (inl same) rest = subst (λ i. f i ≡ true) same (and_parts (f a) (list_all f (range_with_len (a + 1) n)) all).0
      by_order (inr other) rest = rest (omega arith)

  pub all_from : (a n : ℕ) → ((k : ℕ) → a ≤ k → k < a + n → f k ≡ true) → list_all f (range_with_len a n) ≡ true
  all_from a zero each = refl
  all_from a (suc n) each =
      and_from (f a) (list_all f (range_with_len (a + 1) n)) (each a (omega arith) (omega arith)) (all_from (a + 1) n (λ k from below. each k (omega arith) (omega arith)))

  pub not_all : (a n k : ℕ) → a ≤ k → k < a + n → f k ≡ false → list_all f (range_with_len a n) ≡ false
  not_all a zero k from below fails = absurd (omega arith)
  not_all a (suc n) k from below fails = by_order (cases_eq a k) (λ past. not_all (a + 1) n k past (omega arith) fails)
    where
      by_order : (a ≡ k) ⊎ (a ≡ k → ⊥) → (a + 1 ≤ k → list_all f (range_with_len (a + 1) n) ≡ false) → (f a && list_all f (range_with_len (a + 1) n)) ≡ false
      by_order (inl same) rest = and_left (f a) (list_all f (range_with_len (a + 1) n)) (ap f same ∙ fails)
      by_order (inr other) rest = and_right (f a) (list_all f (range_with_len (a + 1) n)) (rest (omega arith))

-- ---- goals

module _ (owned : List Bool) (goals : List (Option Goal)) where
  pub own_not : (axis : ℕ) → axis < AXIS_LIMIT → is_own (has owned axis) (goal_at goals axis) ≡ false → are_own owned goals ≡ false
  unfolding are_own
  own_not axis below fails = not_all (λ axis. is_own (has owned axis) (goal_at goals axis)) 0 AXIS_LIMIT axis (omega arith) (omega arith) fails

  pub own_at : (axis : ℕ) → are_own owned goals ≡ true → axis < AXIS_LIMIT → is_own (has owned axis) (goal_at goals axis) ≡ true
  unfolding are_own
  own_at axis all below = all_at (λ axis. is_own (has owned axis) (goal_at goals axis)) 0 AXIS_LIMIT axis all (omega arith) (omega arith)

module _ (owned : List Bool) (at : ℕ → ℤ) (goals : List (Option Goal)) where
  pub reach_at : (axis : ℕ) → are_in_reach owned at goals ≡ true → axis < AXIS_LIMIT → is_in_reach (has owned axis) (at axis) (goal_at goals axis) ≡ true
  unfolding are_in_reach
  reach_at axis all below = all_at (λ axis. is_in_reach (has owned axis) (at axis) (goal_at goals axis)) 0 AXIS_LIMIT axis all (omega arith) (omega arith)

  -- one that is not reached
  pub reach_not : (axis : ℕ) → axis < AXIS_LIMIT → is_in_reach (has owned axis) (at axis) (goal_at goals axis) ≡ false → are_in_reach owned at goals ≡ false
  unfolding are_in_reach
  reach_not axis below fails = not_all (λ axis. is_in_reach (has owned axis) (at axis) (goal_at goals axis)) 0 AXIS_LIMIT axis (omega arith) (omega arith) fails

  -- where all goals are in reach and of owned axes, each axis reaches its own
  pub are_reached : are_in_reach owned at goals ≡ true → are_own owned goals ≡ true → AreReached at goals
  are_reached reach own axis below = by_goal (has owned axis) (goal_at goals axis) (reach_at axis reach below) (own_at owned goals axis own below)
    where
      by_goal : (mine : Bool) (goal : Option Goal) → is_in_reach mine (at axis) goal ≡ true → is_own mine goal ≡ true → is_in_reach true (at axis) goal ≡ true
      by_goal mine None reach own = refl
      by_goal mine (Some goal) reach own = ap (λ b. is_in_reach b (at axis) (Some goal)) (sym own) ∙ reach
