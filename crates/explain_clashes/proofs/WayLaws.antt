-- The least of ways that are looked at one after another.
use Rattle.std.proofs.Common.{◌≡◌, ◌∙◌, ◌<◌, ◌+◌, inl, inr, ℕ, ℤ, Bool, true, false, cond, Option, None, Some, refl, sym, subst, arith}
use Rattle.std.specs.Prelude.{◌≤ℤ◌, ◌<ℤ◌, ◌⊎◌, ◌||◌, not}
use Rattle.std.specs.Int.RustNames.{int_lt}
use Rattle.std.proofs.lemmas.Bool.{cases_Bool}
use Rattle.std.proofs.lemmas.Int.{ints}
use Rattle.explain_clashes.specs.Ways.{IsLeastWay, gives_room, is_either_carried}
use Rattle.explain_clashes.specs.WaySteps.{IsLeastSoFar, lesser}
use Rattle.explain_reach.specs.Reaches.{reach_along}
use Rattle.explain_reach.specs.declared.ways.Way.{Way}
use Rattle.job_types.specs.Job.{JobView}
use Rattle.swept_boxes.specs.declared.Box3.{Box3}
use Rattle.explain_places.specs.declared.place.Meeting.{Meeting}

less : (a b : ℤ) → int_lt a b ≡ true → a <ℤ b
less a b h = grind (arith, ints)

not_less : (a b : ℤ) → int_lt a b ≡ false → b ≤ℤ a
not_less a b h = grind (arith, ints)

itself : (a b : ℤ) → a ≡ b → a ≤ℤ b
itself a b h = omega (arith, ints)

less_then : (a b c : ℤ) → a <ℤ b → b ≤ℤ c → a <ℤ c
less_then a b c h k = omega (arith, ints)

at_most : (a b : ℤ) → a <ℤ b → a ≤ℤ b
at_most a b h = omega (arith, ints)

last : (n other : ℕ) → other < n + 1 → (other < n) ⊎ (other ≡ n)
last n other h = grind arith

both : (b : Bool) → b ≡ true → b ≡ false → ⊥
both true on off = cc
both false on off = cc

module _ (counts : ℕ → Bool) (left right : Box3) (n : ℕ) where
  module _ (way : Way) (on : counts n ≡ true) (direction : way.direction ≡ n) (shift : way.shift ≡ reach_along left right n) where
    -- the way in a direction before which none counts, or each that counts is farther
    new_least : ((other : ℕ) → other < n → counts other ≡ true → way.shift <ℤ reach_along left right other) → IsLeastWay counts left right (n + 1) way
    new_least above = record {
      in_space = omega (arith, direction);
      does_count = subst (λ (k : ℕ). counts k ≡ true) (sym direction) on;
      shift = subst (λ (k : ℕ). way.shift ≡ reach_along left right k) (sym direction) shift;
      least = λ other below counted. elim (last n other below) [
        | inl before ↦ at_most _ _ (above other before counted)
        | inr same ↦ itself _ _ (subst (λ (k : ℕ). way.shift ≡ reach_along left right k) (sym same) shift)
      ];
      first = λ other before counted. above other (subst (λ (k : ℕ). other < k) direction before) counted;
    }

    kept_least : (found : Way) → found.shift ≤ℤ way.shift → IsLeastWay counts left right n found → IsLeastWay counts left right (n + 1) found
    kept_least found small is = record {
      in_space = omega (arith, is.in_space);
      does_count = is.does_count;
      shift = is.shift;
      least = λ other below counted. elim (last n other below) [
        | inl before ↦ is.least other before counted
        | inr same ↦ subst (λ (k : ℕ). found.shift ≤ℤ reach_along left right k) (sym same) (subst (λ (s : ℤ). found.shift ≤ℤ s) shift small)
      ];
      first = is.first;
    }

    pub lesser_least : (found : Option Way) → IsLeastSoFar counts left right n found → IsLeastWay counts left right (n + 1) (lesser found way)
    lesser_least None is = new_least (λ other before counted. absurd (both (counts other) counted (is other before)))
    lesser_least (Some found) is = by_test (int_lt way.shift found.shift) refl
      where
        by_test : (b : Bool) → int_lt way.shift found.shift ≡ b → IsLeastWay counts left right (n + 1) (cond b way found)
        by_test true shorter = new_least (λ other before counted. less_then _ _ _ (less _ _ shorter) (is.least other before counted))
        by_test false longer = kept_least found (not_less _ _ longer) is

-- in some direction there can be room
none_counts : (x y z : Bool) → (x || not (x || (y || z))) ≡ false → (y || not (x || (y || z))) ≡ false → (z || not (x || (y || z))) ≡ false → ⊥
none_counts true y z p q r = cc
none_counts false true z p q r = cc
none_counts false false true p q r = cc
none_counts false false false p q r = cc

pub some_gives_room : (job : JobView) (met : Meeting) → ((other : ℕ) → other < 3 → gives_room job met other ≡ false) → ⊥
unfolding gives_room
some_gives_room job met none =
    none_counts (is_either_carried job met 0) (is_either_carried job met 1) (is_either_carried job met 2) (none 0 (omega arith)) (none 1 (omega arith)) (none 2 (omega arith))
