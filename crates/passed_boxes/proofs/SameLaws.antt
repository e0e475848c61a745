-- What `==` tells of boxes and of the ends of motions.
use Rattle.std.proofs.Common.{◌≡◌, ◌&&◌, ℕ, ℤ, Bool, true, List, refl, ap, subst, int_eq, nat_eq}
use Rattle.std.proofs.lemmas.Bool.{and_parts}
use Rattle.std.specs.Cmp.{signed_Decides, unsigned_Decides}
use Rattle.std.specs.Cmp.Lexicographic.{pointwise, pointwise_decides}
use Rattle.swept_boxes.specs.declared.Box3.{Box3}

-- two boxes with equal bounds are one
pub same_box : (a b : Box3) → (pointwise int_eq a.lo b.lo && pointwise int_eq a.hi b.hi) ≡ true → a ≡ b
same_box a b e =
    let parts = and_parts (pointwise int_eq a.lo b.lo) (pointwise int_eq a.hi b.hi) e in
    let low = (pointwise_decides signed_Decides a.lo b.lo).0 parts.0 in
    let high = (pointwise_decides signed_Decides a.hi b.hi).0 parts.1 in
    λ i. record { lo = low i; hi = high i }

pub box_is_same : (a b : Box3) → a ≡ b → (pointwise int_eq a.lo b.lo && pointwise int_eq a.hi b.hi) ≡ true
box_is_same a b e =
    let low = (pointwise_decides signed_Decides a.lo b.lo).1 (ap (λ (box : Box3). box.lo) e) in
    let high = (pointwise_decides signed_Decides a.hi b.hi).1 (ap (λ (box : Box3). box.hi) e) in
    rw (low, high) refl

abbrev end_eq : ℕ × ℤ × ℤ → ℕ × ℤ × ℤ → Bool
end_eq x y = (nat_eq x.0 y.0 && int_eq x.1 y.1) && int_eq x.2 y.2

own : (x : ℕ × ℤ × ℤ) → end_eq x x ≡ true
own x = rw ((unsigned_Decides x.0 x.0).1 refl, (signed_Decides x.1 x.1).1 refl, (signed_Decides x.2 x.2).1 refl) refl

-- an axis that starts and ends at the same places
end_decides : (x y : ℕ × ℤ × ℤ) → (end_eq x y ≡ true → x ≡ y) × (x ≡ y → end_eq x y ≡ true)
end_decides x y = (same, λ e. subst (λ (z : ℕ × ℤ × ℤ). end_eq x z ≡ true) e (own x))
  where
    same : end_eq x y ≡ true → x ≡ y
    same e =
        let whole = and_parts (nat_eq x.0 y.0 && int_eq x.1 y.1) (int_eq x.2 y.2) e in
        let parts = and_parts (nat_eq x.0 y.0) (int_eq x.1 y.1) whole.0 in
        let first = (unsigned_Decides x.0 y.0).0 parts.0 in
        let start = (signed_Decides x.1 y.1).0 parts.1 in
        let end = (signed_Decides x.2 y.2).0 whole.1 in
        λ i. (first i, start i, end i)

-- all of them
pub same_ends : (xs ys : List (ℕ × ℤ × ℤ)) → pointwise end_eq xs ys ≡ true → xs ≡ ys
same_ends xs ys = (pointwise_decides {E = end_eq} end_decides xs ys).0

pub all_ends : (xs ys : List (ℕ × ℤ × ℤ)) → xs ≡ ys → pointwise end_eq xs ys ≡ true
all_ends xs ys = (pointwise_decides {E = end_eq} end_decides xs ys).1
