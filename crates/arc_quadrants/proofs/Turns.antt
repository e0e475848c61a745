-- Vectors turned back by quarters.
use Rattle.std.proofs.Common.{◌≡◌, ◌∙◌, ◌<◌, ◌+◌, ◌%◌, ℕ, zero, suc, [], ◌∷◌, refl, ap, sym, subst, arith}
use Rattle.std.proofs.Math.IntN.{neg_ℤ-neg_ℤ}
use Rattle.std.proofs.lemmas.Int.{ints}
use Rattle.std.specs.Prelude.{ℤ, pos, negsuc, neg_ℤ, ◌≤ℤ◌}
use Rattle.number_laws.proofs.Ring.{var, minus, times, negate, ring}
use Rattle.arc_quadrants.specs.Quadrants.{turned_back, begin_quadrant, end_quadrant}
use Rattle.path_geometry.specs.Vectors.{Vector, cross, square}

-- turning keeps the cross product
pub cross_turned : (j : ℕ) (r t : Vector) → cross (turned_back j r) (turned_back j t) ≡ cross r t
cross_turned zero r t = refl
cross_turned (suc zero) r t =
    ring (r.u ∷ r.v ∷ t.u ∷ t.v ∷ []) (minus (times (var 1) (negate (var 2))) (times (negate (var 0)) (var 3)))
    (minus (times (var 0) (var 3)) (times (var 1) (var 2))) tt
cross_turned (suc (suc zero)) r t =
    ring (r.u ∷ r.v ∷ t.u ∷ t.v ∷ []) (minus (times (negate (var 0)) (negate (var 3))) (times (negate (var 1)) (negate (var 2))))
    (minus (times (var 0) (var 3)) (times (var 1) (var 2))) tt
cross_turned (suc (suc (suc n))) r t =
    ring (r.u ∷ r.v ∷ t.u ∷ t.v ∷ []) (minus (times (negate (var 1)) (var 2)) (times (var 0) (negate (var 3))))
    (minus (times (var 0) (var 3)) (times (var 1) (var 2))) tt

vec : ℤ → ℤ → Vector
vec u v = record { u = u; v = v }

twice : (z : ℤ) → neg_ℤ (neg_ℤ z) ≡ z
twice z = neg_ℤ-neg_ℤ z

-- turns add up
pub turned_twice : (j q : ℕ) (p : Vector) → j < 4 → q < 4 → turned_back j (turned_back q p) ≡ turned_back ((q + j) % 4) p
unfolding vec
turned_twice zero zero p h k = refl
turned_twice zero (suc zero) p h k = refl
turned_twice zero (suc (suc zero)) p h k = refl
turned_twice zero (suc (suc (suc zero))) p h k = refl
turned_twice (suc zero) zero p h k = refl
turned_twice (suc zero) (suc zero) p h k = refl
turned_twice (suc zero) (suc (suc zero)) p h k = ap (λ (z : ℤ). vec (neg_ℤ p.v) z) (twice p.u)
turned_twice (suc zero) (suc (suc (suc zero))) p h k = ap (λ (z : ℤ). vec p.u z) (twice p.v)
turned_twice (suc (suc zero)) zero p h k = refl
turned_twice (suc (suc zero)) (suc zero) p h k = ap (λ (z : ℤ). vec (neg_ℤ p.v) z) (twice p.u)
turned_twice (suc (suc zero)) (suc (suc zero)) p h k = ap (λ (z : ℤ). vec z (neg_ℤ (neg_ℤ p.v))) (twice p.u) ∙ ap (λ (z : ℤ). vec p.u z) (twice p.v)
turned_twice (suc (suc zero)) (suc (suc (suc zero))) p h k = ap (λ (z : ℤ). vec z (neg_ℤ p.u)) (twice p.v)
turned_twice (suc (suc (suc zero))) zero p h k = refl
turned_twice (suc (suc (suc zero))) (suc zero) p h k = ap (λ (z : ℤ). vec z p.v) (twice p.u)
turned_twice (suc (suc (suc zero))) (suc (suc zero)) p h k = ap (λ (z : ℤ). vec z (neg_ℤ p.u)) (twice p.v)
turned_twice (suc (suc (suc zero))) (suc (suc (suc zero))) p h k = refl
turned_twice (suc (suc (suc (suc n)))) q p h k = absurd (omega arith)
turned_twice zero (suc (suc (suc (suc n)))) p h k = absurd (omega arith)
turned_twice (suc zero) (suc (suc (suc (suc n)))) p h k = absurd (omega arith)
turned_twice (suc (suc zero)) (suc (suc (suc (suc n)))) p h k = absurd (omega arith)
turned_twice (suc (suc (suc zero))) (suc (suc (suc (suc n)))) p h k = absurd (omega arith)

-- ---- the quadrants by signs
-- the quadrant of a vector's begin, and the vector turned back by it
pub record IsBegin (q : ℕ) (p : Vector) : Type 0 where
  pub quadrant : q < 4
  pub right : pos 1 ≤ℤ (turned_back q p).u
  pub up : pos 0 ≤ℤ (turned_back q p).v

begin_by : (u v : ℤ) → 0 < square (vec u v) → IsBegin (begin_quadrant (vec u v)) (vec u v)
unfolding vec
begin_by (pos zero) (pos zero) h = absurd (omega arith)
begin_by (pos zero) (pos (suc n)) h =
    let is : begin_quadrant (vec (pos zero) (pos (suc n))) ≡ 1 = grind (arith, ints) in
    subst (λ (q : ℕ). IsBegin q (vec (pos zero) (pos (suc n)))) (sym is) (record { quadrant = omega arith; right = omega (arith, ints); up = omega (arith, ints) })
begin_by (pos zero) (negsuc n) h =
    let is : begin_quadrant (vec (pos zero) (negsuc n)) ≡ 3 = grind (arith, ints) in
    subst (λ (q : ℕ). IsBegin q (vec (pos zero) (negsuc n))) (sym is) (record { quadrant = omega arith; right = omega (arith, ints); up = omega (arith, ints) })
begin_by (pos (suc m)) (pos zero) h =
    let is : begin_quadrant (vec (pos (suc m)) (pos zero)) ≡ 0 = grind (arith, ints) in
    subst (λ (q : ℕ). IsBegin q (vec (pos (suc m)) (pos zero))) (sym is) (record { quadrant = omega arith; right = omega (arith, ints); up = omega (arith, ints) })
begin_by (pos (suc m)) (pos (suc n)) h =
    let is : begin_quadrant (vec (pos (suc m)) (pos (suc n))) ≡ 0 = grind (arith, ints) in
    subst (λ (q : ℕ). IsBegin q (vec (pos (suc m)) (pos (suc n)))) (sym is) (record { quadrant = omega arith; right = omega (arith, ints); up = omega (arith, ints) })
begin_by (pos (suc m)) (negsuc n) h =
    let is : begin_quadrant (vec (pos (suc m)) (negsuc n)) ≡ 3 = grind (arith, ints) in
    subst (λ (q : ℕ). IsBegin q (vec (pos (suc m)) (negsuc n))) (sym is) (record { quadrant = omega arith; right = omega (arith, ints); up = omega (arith, ints) })
begin_by (negsuc m) (pos zero) h =
    let is : begin_quadrant (vec (negsuc m) (pos zero)) ≡ 2 = grind (arith, ints) in
    subst (λ (q : ℕ). IsBegin q (vec (negsuc m) (pos zero))) (sym is) (record { quadrant = omega arith; right = omega (arith, ints); up = omega (arith, ints) })
begin_by (negsuc m) (pos (suc n)) h =
    let is : begin_quadrant (vec (negsuc m) (pos (suc n))) ≡ 1 = grind (arith, ints) in
    subst (λ (q : ℕ). IsBegin q (vec (negsuc m) (pos (suc n)))) (sym is) (record { quadrant = omega arith; right = omega (arith, ints); up = omega (arith, ints) })
begin_by (negsuc m) (negsuc n) h =
    let is : begin_quadrant (vec (negsuc m) (negsuc n)) ≡ 2 = grind (arith, ints) in
    subst (λ (q : ℕ). IsBegin q (vec (negsuc m) (negsuc n))) (sym is) (record { quadrant = omega arith; right = omega (arith, ints); up = omega (arith, ints) })

pub begin_is : (p : Vector) → 0 < square p → IsBegin (begin_quadrant p) p
unfolding vec
begin_is p h = begin_by p.u p.v h

-- the quadrant of a vector's end, and the vector turned back by it
pub record IsEnd (q : ℕ) (p : Vector) : Type 0 where
  pub quadrant : q < 4
  pub right : pos 0 ≤ℤ (turned_back q p).u
  pub up : pos 1 ≤ℤ (turned_back q p).v

end_by : (u v : ℤ) → 0 < square (vec u v) → IsEnd (end_quadrant (vec u v)) (vec u v)
unfolding vec
end_by (pos zero) (pos zero) h = absurd (omega arith)
end_by (pos zero) (pos (suc n)) h =
    let is : end_quadrant (vec (pos zero) (pos (suc n))) ≡ 0 = grind (arith, ints) in
    subst (λ (q : ℕ). IsEnd q (vec (pos zero) (pos (suc n)))) (sym is) (record { quadrant = omega arith; right = omega (arith, ints); up = omega (arith, ints) })
end_by (pos zero) (negsuc n) h =
    let is : end_quadrant (vec (pos zero) (negsuc n)) ≡ 2 = grind (arith, ints) in
    subst (λ (q : ℕ). IsEnd q (vec (pos zero) (negsuc n))) (sym is) (record { quadrant = omega arith; right = omega (arith, ints); up = omega (arith, ints) })
end_by (pos (suc m)) (pos zero) h =
    let is : end_quadrant (vec (pos (suc m)) (pos zero)) ≡ 3 = grind (arith, ints) in
    subst (λ (q : ℕ). IsEnd q (vec (pos (suc m)) (pos zero))) (sym is) (record { quadrant = omega arith; right = omega (arith, ints); up = omega (arith, ints) })
end_by (pos (suc m)) (pos (suc n)) h =
    let is : end_quadrant (vec (pos (suc m)) (pos (suc n))) ≡ 0 = grind (arith, ints) in
    subst (λ (q : ℕ). IsEnd q (vec (pos (suc m)) (pos (suc n)))) (sym is) (record { quadrant = omega arith; right = omega (arith, ints); up = omega (arith, ints) })
end_by (pos (suc m)) (negsuc n) h =
    let is : end_quadrant (vec (pos (suc m)) (negsuc n)) ≡ 3 = grind (arith, ints) in
    subst (λ (q : ℕ). IsEnd q (vec (pos (suc m)) (negsuc n))) (sym is) (record { quadrant = omega arith; right = omega (arith, ints); up = omega (arith, ints) })
end_by (negsuc m) (pos zero) h =
    let is : end_quadrant (vec (negsuc m) (pos zero)) ≡ 1 = grind (arith, ints) in
    subst (λ (q : ℕ). IsEnd q (vec (negsuc m) (pos zero))) (sym is) (record { quadrant = omega arith; right = omega (arith, ints); up = omega (arith, ints) })
end_by (negsuc m) (pos (suc n)) h =
    let is : end_quadrant (vec (negsuc m) (pos (suc n))) ≡ 1 = grind (arith, ints) in
    subst (λ (q : ℕ). IsEnd q (vec (negsuc m) (pos (suc n)))) (sym is) (record { quadrant = omega arith; right = omega (arith, ints); up = omega (arith, ints) })
end_by (negsuc m) (negsuc n) h =
    let is : end_quadrant (vec (negsuc m) (negsuc n)) ≡ 2 = grind (arith, ints) in
    subst (λ (q : ℕ). IsEnd q (vec (negsuc m) (negsuc n))) (sym is) (record { quadrant = omega arith; right = omega (arith, ints); up = omega (arith, ints) })

pub end_is : (p : Vector) → 0 < square p → IsEnd (end_quadrant p) p
unfolding vec
end_is p h = end_by p.u p.v h
