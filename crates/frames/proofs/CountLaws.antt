-- The whole counts of an axis are those of its image, also after one more map, and bring the alarms of the image.
use Rattle.std.proofs.Common.{◌≡◌, ℕ, ◌*◌, ◌/◌, ◌%◌, ◌<◌, ◌≤◌, ◌^◌, Bool, true, false, cond, eqb, leb, ◌&&◌, List, [], ◌∷◌, ◌++◌, Some, None, refl, sym, ap, ◌∙◌, subst, arith}
use Rattle.std.proofs.Math.Nat.{mul-le-mul_right, le_of_mul-le-mul_right, mul-pos, mul-mod_left}
use Rattle.std.proofs.lemmas.Int.{unsigned_abs-mul}
use Rattle.std.proofs.lemmas.Bool.{false≢true, true≢false, le-leb, lt-leb, leb-true, eqb-true, eq-eqb, and_from}
use Rattle.std.specs.Prelude.{ℤ, pos, negsuc, ◌+ℤ◌, ◌*ℤ◌}
use Rattle.std.specs.Int.RustNames.{unsigned_abs}
use Rattle.number_laws.proofs.Integers.{times_injective}
use Rattle.number_laws.proofs.Ring.{Expr, num, var, plus, minus, times, ring}
use Rattle.number_laws.proofs.Orders.{ring_from}
use Rattle.frames.specs.declared.axis_map.AxisMap.{AxisMap}
use Rattle.frames.specs.Maps.{Map}
use Rattle.frames.specs.Images.{Image, sign, other_sign, image_of}
use Rattle.frames.specs.Counts.{shift_when_moved, IsMoved, IsScaled, IsMirrored, is_product_allowed}
use Rattle.frames.specs.Faults.{is_scale, is_factor_allowed, is_shift_allowed, image_fault}
use Rattle.frames.specs.Composition.{IsImage}
use Rattle.frames.proofs.AloneLaws.{IsAlone, nothing_between}
use Rattle.frames.proofs.Chains.{after, image_of-append, image_of-positive}

million : Expr
million = num (pos 1000000)

trillion : Expr
trillion = num (pos 1000000000000)

-- ---- the counts after one more map
factor_after : (f g h c u v : ℤ) → f *ℤ u ≡ g *ℤ pos 1000000 → h *ℤ pos 1000000 ≡ c *ℤ v
    → (f *ℤ c) *ℤ (u *ℤ v) ≡ (g *ℤ h) *ℤ pos 1000000000000
unfolding million trillion
factor_after f g h c u v d e =
    ring_from (f ∷ g ∷ h ∷ c ∷ u ∷ v ∷ [])
    (minus (times (var 0) (var 4)) (times (var 1) million) ∷ minus (times (var 2) million) (times (var 3) (var 5)) ∷ [])
    (times (var 3) (var 5) ∷ times (num (negsuc 0)) (times (var 1) million) ∷ [])
    (times (times (var 0) (var 3)) (times (var 4) (var 5)))
    (times (times (var 1) (var 2)) trillion)
    (nothing_between _ _ d, (nothing_between _ _ e, tt)) tt

shift_after : (s f g t r w c u v : ℤ) → f *ℤ u ≡ g *ℤ pos 1000000 → t *ℤ u ≡ w *ℤ pos 1000000000000 → r *ℤ pos 1000000 ≡ c *ℤ v
    → (t +ℤ (s *ℤ (f *ℤ c))) *ℤ (u *ℤ v) ≡ ((w *ℤ v) +ℤ (s *ℤ (g *ℤ r))) *ℤ pos 1000000000000
unfolding million trillion
shift_after s f g t r w c u v d e k =
    ring_from (s ∷ f ∷ g ∷ t ∷ r ∷ w ∷ c ∷ u ∷ v ∷ [])
    (minus (times (var 1) (var 7)) (times (var 2) million)
    ∷ minus (times (var 3) (var 7)) (times (var 5) trillion)
    ∷ minus (times (var 4) million) (times (var 6) (var 8)) ∷ [])
    (times (var 0) (times (var 6) (var 8)) ∷ var 8 ∷ times (num (negsuc 0)) (times (var 0) (times (var 2) million)) ∷ [])
    (times (plus (var 3) (times (var 0) (times (var 1) (var 6)))) (times (var 7) (var 8)))
    (times (plus (times (var 5) (var 8)) (times (var 0) (times (var 2) (var 4)))) trillion)
    (nothing_between _ _ d, (nothing_between _ _ e, (nothing_between _ _ k, tt))) tt

-- what is known of the image k of an axis after more maps, from the counts of the axis e before them: the image of
-- those maps alone has the slot of e, the sign b and the factor c and the shift t in millionths
pub record Follows (e : AxisMap) (b : Bool) (c t : ℤ) (k : Image) : Type 0 where
  pub slot_is : k.slot ≡ e.slot
  pub minus_is : k.minus ≡ other_sign b e.minus
  pub factor_is : (pos e.factor *ℤ c) *ℤ pos k.under ≡ k.factor *ℤ pos 1000000000000
  pub shift_is : shift_when_moved e t *ℤ pos k.under ≡ k.shift *ℤ pos 1000000000000
  pub positive : 0 < k.under

after-follows : (e : AxisMap) (i j : Image) (slot : ℕ) (b : Bool) (c t : ℤ) → 0 < i.under → 0 < j.under
    → IsImage e i → IsAlone slot b c t j → Follows e b c t (after i j)
after-follows e i j slot b c t some some' h k = record {
  slot_is = sym h.slot;
  minus_is = ap (λ (x : Bool). other_sign x i.minus) k.minus_is ∙ ap (other_sign b) (sym h.minus);
  factor_is = factor_after (pos e.factor) i.factor j.factor c (pos i.under) (pos j.under) h.factor k.factor_is;
  shift_is =
      shift_after (sign e.minus) (pos e.factor) i.factor e.shift j.shift i.shift t (pos i.under) (pos j.under) h.factor h.shift k.shift_is
      ∙ ap (λ (x : Bool). ((i.shift *ℤ pos j.under) +ℤ (sign x *ℤ (i.factor *ℤ j.shift))) *ℤ pos 1000000000000) h.minus;
  positive = mul-pos some some';
}

pub follows : (chain new : List Map) (axis slot : ℕ) (e : AxisMap) (b : Bool) (c t : ℤ)
    → IsImage e (image_of chain slot) → IsAlone slot b c t (image_of new axis) → Follows e b c t (image_of (chain ++ new) axis)
follows chain new axis slot e b c t h k =
    let j = image_of new axis in
    let here : IsImage e (image_of chain j.slot) = subst (λ (s : ℕ). IsImage e (image_of chain s)) (sym k.slot_is) h in
    subst (λ (x : Image). Follows e b c t x) (sym (image_of-append chain new axis))
    (after-follows e (image_of chain j.slot) j slot b c t (image_of-positive chain j.slot) (image_of-positive new axis) here k)

-- ---- the new counts
plain_factor : (f u g : ℤ) → (f *ℤ pos 1000000) *ℤ u ≡ g *ℤ pos 1000000000000 → f *ℤ u ≡ g *ℤ pos 1000000
unfolding million trillion
plain_factor f u g e =
    times_injective 1000000 (f *ℤ u) (g *ℤ pos 1000000) (omega arith)
    (ring_from (f ∷ u ∷ g ∷ []) (minus (times (times (var 0) million) (var 1)) (times (var 2) trillion) ∷ []) (num (pos 1) ∷ [])
    (times (times (var 0) (var 1)) million) (times (times (var 2) million) million)
    (nothing_between _ _ e, tt) tt)

unmoved : (s f t : ℤ) → t +ℤ (s *ℤ (f *ℤ pos 0)) ≡ t
unmoved s f t = ring (s ∷ f ∷ t ∷ []) (plus (var 2) (times (var 0) (times (var 1) (num (pos 0))))) (var 2) tt

pub moved-image : (e e' : AxisMap) (t : ℤ) (k : Image) → Follows e false (pos 1000000) t k → IsMoved e t e' → IsImage e' k
moved-image e e' t k h m = record {
  slot = m.slot ∙ sym h.slot_is;
  minus = m.minus ∙ sym h.minus_is;
  factor = ap (λ (n : ℕ). pos n *ℤ pos k.under) m.factor ∙ plain_factor (pos e.factor) (pos k.under) k.factor h.factor_is;
  shift = ap (λ (z : ℤ). z *ℤ pos k.under) m.shift ∙ h.shift_is;
}

pub mirrored-image : (e e' : AxisMap) (b : Bool) (k : Image) → Follows e b (pos 1000000) (pos 0) k → IsMirrored e b e' → IsImage e' k
mirrored-image e e' b k h m = record {
  slot = m.slot ∙ sym h.slot_is;
  minus = m.minus ∙ sym h.minus_is;
  factor = ap (λ (n : ℕ). pos n *ℤ pos k.under) m.factor ∙ plain_factor (pos e.factor) (pos k.under) k.factor h.factor_is;
  shift = ap (λ (z : ℤ). z *ℤ pos k.under) (m.shift ∙ sym (unmoved (sign e.minus) (pos e.factor) e.shift)) ∙ h.shift_is;
}

positive_scale : (c : ℤ) → is_scale c ≡ true → c ≡ pos (unsigned_abs c)
positive_scale (pos n) h = refl
positive_scale (negsuc n) h = absurd (false≢true h)

scaled_factor : (e : AxisMap) (c : ℤ) (n : ℕ) → is_scale c ≡ true → n * 1000000 ≡ e.factor * unsigned_abs c
    → pos n *ℤ pos 1000000 ≡ pos e.factor *ℤ c
scaled_factor e c n h m = ap pos m ∙ ap (λ (z : ℤ). pos e.factor *ℤ z) (sym (positive_scale c h))

pub scaled-image : (e e' : AxisMap) (c : ℤ) (k : Image) → Follows e false c (pos 0) k → is_scale c ≡ true → IsScaled e c e' → IsImage e' k
scaled-image e e' c k h s m = record {
  slot = m.slot ∙ sym h.slot_is;
  minus = m.minus ∙ sym h.minus_is;
  factor =
      plain_factor (pos e'.factor) (pos k.under) k.factor
      (ap (λ (z : ℤ). z *ℤ pos k.under) (scaled_factor e c e'.factor s m.factor) ∙ h.factor_is);
  shift = ap (λ (z : ℤ). z *ℤ pos k.under) (m.shift ∙ sym (unmoved (sign e.minus) (pos e.factor) e.shift)) ∙ h.shift_is;
}

-- ---- the alarms
sizes : (z w : ℤ) (u n : ℕ) → z *ℤ pos u ≡ w *ℤ pos n → unsigned_abs z * u ≡ unsigned_abs w * n
sizes z w u n e = sym (unsigned_abs-mul z (pos u)) ∙ ap unsigned_abs e ∙ unsigned_abs-mul w (pos n)

whole_factor : (n f u : ℕ) → 0 < u → f * u ≡ n * 1000000 → f ≤ 1000000000
    → (eqb ((n * 1000000) % u) 0 && leb n (1000 * u)) ≡ true
whole_factor n f u some e h =
    and_from _ _
    (eq-eqb ((n * 1000000) % u) 0 (ap (λ (m : ℕ). m % u) (sym e) ∙ mul-mod_left f u))
    (le-leb n (1000 * u) (let wide : f * u ≤ 1000000000 * u = mul-le-mul_right u h in omega arith))

small_shift : (n s u : ℕ) → s * u ≡ n * 1000000000000 → s ≤ 10000000000000000 → n ≤ 10000 * u
small_shift n s u e h = let wide : s * u ≤ 10000000000000000 * u = mul-le-mul_right u h in omega arith

great_shift : (n s u : ℕ) → 0 < u → s * u ≡ n * 1000000000000 → 10000000000000000 < s → 10000 * u < n
great_shift n s u some e h = let wide : 10000000000000001 * u ≤ s * u = mul-le-mul_right u h in omega arith

pub image-no_fault : (e : AxisMap) (k : Image) → 0 < k.under → IsImage e k → image_fault k ≡ None
image-no_fault e k some h =
    let factor : is_factor_allowed k ≡ true =
    whole_factor (unsigned_abs k.factor) e.factor k.under some (sizes (pos e.factor) k.factor k.under 1000000 h.factor) e.factor_bound in
    let shift : is_shift_allowed k ≡ true =
    le-leb _ _ (small_shift (unsigned_abs k.shift) (unsigned_abs e.shift) k.under (sizes e.shift k.shift k.under 1000000000000 h.shift) e.shift_bound) in
    ap (λ (b : Bool). cond b (cond (is_shift_allowed k) None (Some 13)) (Some 11)) factor
    ∙ ap (λ (b : Bool). cond b None (Some 13)) shift

pub moved-fault : (e : AxisMap) (t : ℤ) (k : Image) → Follows e false (pos 1000000) t k → 10 ^ 16 < unsigned_abs (shift_when_moved e t) → image_fault k ≡ Some 13
moved-fault e t k h more =
    let plain = plain_factor (pos e.factor) (pos k.under) k.factor h.factor_is in
    let factor : is_factor_allowed k ≡ true =
    whole_factor (unsigned_abs k.factor) e.factor k.under h.positive (sizes (pos e.factor) k.factor k.under 1000000 plain) e.factor_bound in
    let shift : is_shift_allowed k ≡ false =
    lt-leb _ _ (great_shift (unsigned_abs k.shift) (unsigned_abs (shift_when_moved e t)) k.under h.positive (sizes (shift_when_moved e t) k.shift k.under 1000000000000 h.shift_is) more) in
    ap (λ (b : Bool). cond b (cond (is_shift_allowed k) None (Some 13)) (Some 11)) factor
    ∙ ap (λ (b : Bool). cond b None (Some 13)) shift

-- a factor that is allowed is a product that is
same_factor : (p q u : ℕ) → 0 < u → p * u ≡ q * u → p ≡ q
same_factor p q u some e =
    let up : p ≤ q = le_of_mul-le-mul_right {k = u} (omega arith) some in
    let down : q ≤ p = le_of_mul-le-mul_right {k = u} (omega arith) some in
    omega arith

whole_product : (n p u : ℕ) → 0 < u → p * u ≡ n * 1000000000000 → (n * 1000000) % u ≡ 0 → p % 1000000 ≡ 0
whole_product n p u some e whole =
    let part = (n * 1000000) / u in
    let divided : u * part ≡ n * 1000000 = omega arith in
    let same : p ≡ part * 1000000 = same_factor p (part * 1000000) u some (omega arith) in
    omega arith

small_product : (n p u : ℕ) → 0 < u → p * u ≡ n * 1000000000000 → n ≤ 1000 * u → p ≤ 1000000000000000
small_product n p u some e small = le_of_mul-le-mul_right {k = u} (omega arith) some

allowed_both : (a b a' b' : Bool) → (a ≡ true → a' ≡ true) → (b ≡ true → b' ≡ true) → (a' && b') ≡ false → (a && b) ≡ false
allowed_both true true a' b' f g h = absurd (true≢false (sym (and_from a' b' (f refl) (g refl)) ∙ h))
allowed_both true false a' b' f g h = refl
allowed_both false b a' b' f g h = refl

pub scaled-fault : (e : AxisMap) (c : ℤ) (k : Image) → Follows e false c (pos 0) k → is_scale c ≡ true
    → is_product_allowed e.factor (unsigned_abs c) ≡ false → image_fault k ≡ Some 11
scaled-fault e c k h s out =
    let n = unsigned_abs k.factor in
    let product = e.factor * unsigned_abs c in
    let same : product * k.under ≡ n * 1000000000000 =
    ap (λ (m : ℕ). m * k.under) (sym (unsigned_abs-mul (pos e.factor) c)) ∙ sizes (pos e.factor *ℤ c) k.factor k.under 1000000000000 h.factor_is in
    let factor : is_factor_allowed k ≡ false =
    allowed_both (eqb ((n * 1000000) % k.under) 0) (leb n (1000 * k.under)) (eqb (product % 1000000) 0) (leb product 1000000000000000)
    (λ t. eq-eqb _ 0 (whole_product n product k.under h.positive same (eqb-true _ 0 t)))
    (λ t. le-leb _ _ (small_product n product k.under h.positive same (leb-true _ _ t)))
    out in
    ap (λ (b : Bool). cond b (cond (is_shift_allowed k) None (Some 13)) (Some 11)) factor
