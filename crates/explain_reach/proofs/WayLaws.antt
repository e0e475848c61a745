-- The first direction of the least reach.
use Rattle.std.proofs.Common.{◌≡◌, ◌∙◌, ◌<◌, inl, inr, ℕ, ℤ, zero, suc, Bool, true, false, cond, ap, sym, subst, arith, refl}
use Rattle.std.specs.Prelude.{◌<ℤ◌}
use Rattle.std.specs.Int.{int_min}
use Rattle.std.specs.Int.RustNames.{int_lt}
use Rattle.std.proofs.lemmas.Bool.{cases_Bool}
use Rattle.std.proofs.lemmas.Int.{ints}
use Rattle.swept_boxes.specs.declared.Box3.{Box3}
use Rattle.explain_reach.specs.Reaches.{reach_along, reach_of, IsFirstLeast}
use Rattle.explain_reach.specs.declared.ways.Way.{Way}

either_shift : (b : Bool) (one other : Way) → (cond b other one).shift ≡ cond b other.shift one.shift
either_shift true one other = refl
either_shift false one other = refl

-- the lesser of two ways has the lesser shift
pub lesser_shift : (one other r : Way) → r ≡ cond (int_lt other.shift one.shift) other one → r.shift ≡ int_min one.shift other.shift
lesser_shift one other r e = ap (λ (w : Way). w.shift) e ∙ either_shift (int_lt other.shift one.shift) one other

first_x : (a b c : ℤ) → int_lt b a ≡ false → int_lt c a ≡ false → a ≡ int_min (int_min a b) c
first_x a b c p q = grind (arith, ints)

first_y : (a b c : ℤ) → int_lt b a ≡ true → int_lt c b ≡ false → b ≡ int_min (int_min a b) c
first_y a b c p q = grind (arith, ints)

below_x : (a b c : ℤ) → int_lt b a ≡ true → int_min (int_min a b) c <ℤ a
below_x a b c p = grind (arith, ints)

first_z : (a b c : ℤ) → int_lt c (int_min a b) ≡ true → c ≡ int_min (int_min a b) c
first_z a b c p = grind (arith, ints)

below_both : (a b c : ℤ) → int_lt c (int_min a b) ≡ true → (int_min (int_min a b) c <ℤ a) × (int_min (int_min a b) c <ℤ b)
below_both a b c p = (grind (arith, ints), grind (arith, ints))

-- the lesser of the lesser of the first two ways and the third is the first of the least
pub is_first_least : (left right : Box3) (x y z w r : Way)
    → x.direction ≡ 0 → x.shift ≡ reach_along left right 0 → y.direction ≡ 1 → y.shift ≡ reach_along left right 1 → z.direction ≡ 2 → z.shift ≡ reach_along left right 2
    → w ≡ cond (int_lt y.shift x.shift) y x → r ≡ cond (int_lt z.shift w.shift) z w → IsFirstLeast left right r.direction
unfolding reach_of
is_first_least left right x y z w r xd xs yd ys zd zs we re =
    elim (cases_Bool (int_lt z.shift w.shift)) [
      | inl last ↦
          let is : r ≡ z = rw last at re in
          let direction : 2 ≡ r.direction = sym zd ∙ ap (λ (v : Way). v.direction) (sym is) in
          let less : int_lt (reach_along left right 2) (int_min (reach_along left right 0) (reach_along left right 1)) ≡ true =
          rw (zs, lesser_shift x y w we, xs, ys) at last in
          subst (IsFirstLeast left right) direction (third less)
      | inr not_last ↦
          let is : r ≡ w = rw not_last at re in
          elim (cases_Bool (int_lt y.shift x.shift)) [
            | inl second_less ↦
                let same : r ≡ y = is ∙ rw second_less at we in
                let direction : 1 ≡ r.direction = sym yd ∙ ap (λ (v : Way). v.direction) (sym same) in
                let p : int_lt (reach_along left right 1) (reach_along left right 0) ≡ true = rw (ys, xs) at second_less in
                let q : int_lt (reach_along left right 2) (reach_along left right 1) ≡ false = rw (zs, ap (λ (v : Way). v.shift) (sym is ∙ same), ys) at not_last in
                subst (IsFirstLeast left right) direction (second p q)
            | inr first_least ↦
                let same : r ≡ x = is ∙ rw first_least at we in
                let direction : 0 ≡ r.direction = sym xd ∙ ap (λ (v : Way). v.direction) (sym same) in
                let p : int_lt (reach_along left right 1) (reach_along left right 0) ≡ false = rw (ys, xs) at first_least in
                let q : int_lt (reach_along left right 2) (reach_along left right 0) ≡ false = rw (zs, ap (λ (v : Way). v.shift) (sym is ∙ same), xs) at not_last in
                subst (IsFirstLeast left right) direction (first p q)
          ]
    ]
  where
    first : int_lt (reach_along left right 1) (reach_along left right 0) ≡ false → int_lt (reach_along left right 2) (reach_along left right 0) ≡ false → IsFirstLeast left right 0
    first p q = record {
      in_space = omega arith;
      least = first_x (reach_along left right 0) (reach_along left right 1) (reach_along left right 2) p q;
      first = λ other h. absurd (omega arith);
    }

    only : int_lt (reach_along left right 1) (reach_along left right 0) ≡ true → (other : ℕ) → other < 1 → reach_of left right <ℤ reach_along left right other
    only p zero h = below_x (reach_along left right 0) (reach_along left right 1) (reach_along left right 2) p
    only p (suc other) h = absurd (omega arith)

    second : int_lt (reach_along left right 1) (reach_along left right 0) ≡ true → int_lt (reach_along left right 2) (reach_along left right 1) ≡ false → IsFirstLeast left right 1
    second p q = record {
      in_space = omega arith;
      least = first_y (reach_along left right 0) (reach_along left right 1) (reach_along left right 2) p q;
      first = only p;
    }

    both : int_lt (reach_along left right 2) (int_min (reach_along left right 0) (reach_along left right 1)) ≡ true → (other : ℕ) → other < 2 → reach_of left right <ℤ reach_along left right other
    both p zero h = (below_both (reach_along left right 0) (reach_along left right 1) (reach_along left right 2) p).0
    both p (suc zero) h = (below_both (reach_along left right 0) (reach_along left right 1) (reach_along left right 2) p).1
    both p (suc (suc other)) h = absurd (omega arith)

    third : int_lt (reach_along left right 2) (int_min (reach_along left right 0) (reach_along left right 1)) ≡ true → IsFirstLeast left right 2
    third p = record {
      in_space = omega arith;
      least = first_z (reach_along left right 0) (reach_along left right 1) (reach_along left right 2) p;
      first = both p;
    }
