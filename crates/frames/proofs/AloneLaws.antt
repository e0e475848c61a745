-- What words of one block make of an axis, and what turns make of it: images with no other map after them.
use Rattle.std.proofs.Common.{◌≡◌, ℕ, ◌+◌, Bool, true, false, cond, eqb, List, [], ◌∷◌, Option, Some, None, refl, sym, ap, ◌∙◌, subst, arith}
use Rattle.std.proofs.lemmas.Int.{ints}
use Rattle.std.proofs.lemmas.Bool.{false≢true, eq-eqb}
use Rattle.std.specs.Prelude.{ℤ, pos, ◌+ℤ◌, ◌-ℤ◌, ◌*ℤ◌, unwrap_or, is_some}
use Rattle.number_laws.proofs.Ring.{Expr, num, var, plus, minus, times}
use Rattle.number_laws.proofs.Orders.{ring_from}
use Rattle.frames.specs.Images.{Image, sign, other_sign, own_image, image_in_slot, shifted_image, scaled_image, mirrored_image, image_of}
use Rattle.frames.specs.Composition.{shifts, scales, mirrors}

-- the image has this slot and this sign, and this factor and this shift in millionths
pub record IsAlone (slot : ℕ) (minus : Bool) (factor shift : ℤ) (i : Image) : Type 0 where
  pub slot_is : i.slot ≡ slot
  pub minus_is : i.minus ≡ minus
  pub factor_is : i.factor *ℤ pos 1000000 ≡ factor *ℤ pos i.under
  pub shift_is : i.shift *ℤ pos 1000000 ≡ shift *ℤ pos i.under

pub unmapped-alone : (axis : ℕ) → IsAlone axis false (pos 1000000) (pos 0) (own_image axis)
unmapped-alone axis = record { slot_is = refl; minus_is = refl; factor_is = refl; shift_is = refl }

-- ---- a shift, a factor and a mirror
pub nothing_between : (a b : ℤ) → a ≡ b → a -ℤ b ≡ pos 0
nothing_between a b e = omega (arith, ints)

million : Expr
million = num (pos 1000000)

widened : (f g u : ℤ) → f *ℤ pos 1000000 ≡ g *ℤ u → (f *ℤ pos 1000000) *ℤ pos 1000000 ≡ g *ℤ (u *ℤ pos 1000000)
unfolding million
widened f g u e =
    ring_from (f ∷ g ∷ u ∷ []) (minus (times (var 0) million) (times (var 1) (var 2)) ∷ []) (million ∷ [])
    (times (times (var 0) million) million) (times (var 1) (times (var 2) million))
    (nothing_between _ _ e, tt) tt

shift_added : (b : Bool) (t w v u : ℤ) → t *ℤ pos 1000000 ≡ w *ℤ u
    → ((t *ℤ pos 1000000) +ℤ cond b (v *ℤ u) (pos 0)) *ℤ pos 1000000 ≡ (w +ℤ cond b v (pos 0)) *ℤ (u *ℤ pos 1000000)
unfolding million
shift_added true t w v u e =
    ring_from (t ∷ w ∷ v ∷ u ∷ []) (minus (times (var 0) million) (times (var 1) (var 3)) ∷ []) (million ∷ [])
    (times (plus (times (var 0) million) (times (var 2) (var 3))) million)
    (times (plus (var 1) (var 2)) (times (var 3) million))
    (nothing_between _ _ e, tt) tt
shift_added false t w v u e =
    ring_from (t ∷ w ∷ v ∷ u ∷ []) (minus (times (var 0) million) (times (var 1) (var 3)) ∷ []) (million ∷ [])
    (times (plus (times (var 0) million) (num (pos 0))) million)
    (times (plus (var 1) (num (pos 0))) (times (var 3) million))
    (nothing_between _ _ e, tt) tt

factor_taken : (f u v : ℤ) → f *ℤ pos 1000000 ≡ pos 1000000 *ℤ u → (f *ℤ v) *ℤ pos 1000000 ≡ v *ℤ (u *ℤ pos 1000000)
unfolding million
factor_taken f u v e =
    ring_from (f ∷ u ∷ v ∷ []) (minus (times (var 0) million) (times million (var 1)) ∷ []) (var 2 ∷ [])
    (times (times (var 0) (var 2)) million) (times (var 2) (times (var 1) million))
    (nothing_between _ _ e, tt) tt

nothing_scaled : (t u v : ℤ) → t *ℤ pos 1000000 ≡ pos 0 *ℤ u → (t *ℤ v) *ℤ pos 1000000 ≡ pos 0 *ℤ (u *ℤ pos 1000000)
unfolding million
nothing_scaled t u v e =
    ring_from (t ∷ u ∷ v ∷ []) (minus (times (var 0) million) (times (num (pos 0)) (var 1)) ∷ []) (var 2 ∷ [])
    (times (times (var 0) (var 2)) million) (times (num (pos 0)) (times (var 1) million))
    (nothing_between _ _ e, tt) tt

nothing_signed : (s t u : ℤ) → t *ℤ pos 1000000 ≡ pos 0 *ℤ u → (s *ℤ t) *ℤ pos 1000000 ≡ pos 0 *ℤ u
unfolding million
nothing_signed s t u e =
    ring_from (s ∷ t ∷ u ∷ []) (minus (times (var 1) million) (times (num (pos 0)) (var 2)) ∷ []) (var 0 ∷ [])
    (times (times (var 0) (var 1)) million) (times (num (pos 0)) (var 2))
    (nothing_between _ _ e, tt) tt

shifted-alone : (axis slot : ℕ) (negative : Bool) (factor shift value : ℤ) (i : Image) → IsAlone slot negative factor shift i
    → IsAlone slot negative factor (shift +ℤ cond (eqb slot axis) value (pos 0)) (shifted_image axis value i)
shifted-alone axis slot negative factor shift value i h = record {
  slot_is = h.slot_is;
  minus_is = h.minus_is;
  factor_is = widened i.factor factor (pos i.under) h.factor_is;
  shift_is =
      ap (λ (s : ℕ). ((i.shift *ℤ pos 1000000) +ℤ cond (eqb s axis) (value *ℤ pos i.under) (pos 0)) *ℤ pos 1000000) h.slot_is
      ∙ shift_added (eqb slot axis) i.shift shift value (pos i.under) h.shift_is;
}

scaled_along : (b : Bool) (v f g u : ℤ) → b ≡ false → f *ℤ pos 1000000 ≡ g *ℤ u
    → (f *ℤ cond b v (pos 1000000)) *ℤ pos 1000000 ≡ g *ℤ (u *ℤ pos 1000000)
scaled_along false v f g u out e = widened f g u e
scaled_along true v f g u out e = absurd (false≢true (sym out))

-- a factor of another axis
scaled-past : (axis slot : ℕ) (negative : Bool) (factor shift value : ℤ) (i : Image) → eqb slot axis ≡ false
    → IsAlone slot negative factor shift i → IsAlone slot negative factor shift (scaled_image axis value i)
scaled-past axis slot negative factor shift value i other h =
    let past : eqb i.slot axis ≡ false = ap (λ (s : ℕ). eqb s axis) h.slot_is ∙ other in
    record {
      slot_is = h.slot_is;
      minus_is = h.minus_is;
      factor_is = scaled_along (eqb i.slot axis) value i.factor factor (pos i.under) past h.factor_is;
      shift_is = scaled_along (eqb i.slot axis) value i.shift shift (pos i.under) past h.shift_is;
    }

factor_here : (b : Bool) (v f u : ℤ) → b ≡ true → f *ℤ pos 1000000 ≡ pos 1000000 *ℤ u
    → (f *ℤ cond b v (pos 1000000)) *ℤ pos 1000000 ≡ v *ℤ (u *ℤ pos 1000000)
factor_here true v f u is e = factor_taken f u v e
factor_here false v f u is e = absurd (false≢true is)

-- the factor of the axis itself
scaled-here : (slot : ℕ) (negative : Bool) (value : ℤ) (i : Image)
    → IsAlone slot negative (pos 1000000) (pos 0) i → IsAlone slot negative value (pos 0) (scaled_image slot value i)
scaled-here slot negative value i h =
    let here : eqb i.slot slot ≡ true = eq-eqb i.slot slot h.slot_is in
    record {
      slot_is = h.slot_is;
      minus_is = h.minus_is;
      factor_is = factor_here (eqb i.slot slot) value i.factor (pos i.under) here h.factor_is;
      shift_is = nothing_scaled i.shift (pos i.under) (cond (eqb i.slot slot) value (pos 1000000)) h.shift_is;
    }

pub placed-alone : (slot old : ℕ) (turned negative : Bool) (factor : ℤ) (i : Image)
    → IsAlone old negative factor (pos 0) i → IsAlone slot (other_sign turned negative) factor (pos 0) (image_in_slot slot turned i)
placed-alone slot old turned negative factor i h = record {
  slot_is = refl;
  minus_is = ap (other_sign turned) h.minus_is;
  factor_is = h.factor_is;
  shift_is = nothing_signed (sign turned) i.shift (pos i.under) h.shift_is;
}

mirrored-alone : (axis slot : ℕ) (negative : Bool) (factor : ℤ) (i : Image)
    → IsAlone slot negative factor (pos 0) i → IsAlone slot (other_sign (eqb slot axis) negative) factor (pos 0) (mirrored_image axis i)
mirrored-alone axis slot negative factor i h =
    let alone = placed-alone i.slot slot (eqb i.slot axis) negative factor i h in
    record {
      slot_is = h.slot_is;
      minus_is = alone.minus_is ∙ ap (λ (s : ℕ). other_sign (eqb s axis) negative) h.slot_is;
      factor_is = alone.factor_is;
      shift_is = alone.shift_is;
    }

-- ---- the words of a block
nothing_added : (z : ℤ) → z +ℤ pos 0 ≡ z
nothing_added z = omega (arith, ints)

added_to_nothing : (z : ℤ) → pos 0 +ℤ z ≡ z
added_to_nothing z = omega (arith, ints)

module _ (k axis : ℕ) (rest : List (Option ℤ)) (other : eqb axis k ≡ false) where
  shift_past : (word : Option ℤ) (value : ℤ) → IsAlone axis false (pos 1000000) value (image_of (shifts (k + 1) rest) axis)
      → IsAlone axis false (pos 1000000) value (image_of (shifts k (word ∷ rest)) axis)
  shift_past None value h = h
  shift_past (Some v) value h =
      subst (λ (z : ℤ). IsAlone axis false (pos 1000000) z (image_of (shifts k (Some v ∷ rest)) axis))
      (ap (λ (b : Bool). value +ℤ cond b v (pos 0)) other ∙ nothing_added value)
      (shifted-alone k axis false (pos 1000000) value v (image_of (shifts (k + 1) rest) axis) h)

  scale_past : (word : Option ℤ) (value : ℤ) → IsAlone axis false value (pos 0) (image_of (scales (k + 1) rest) axis)
      → IsAlone axis false value (pos 0) (image_of (scales k (word ∷ rest)) axis)
  scale_past None value h = h
  scale_past (Some v) value h = scaled-past k axis false value (pos 0) v (image_of (scales (k + 1) rest) axis) other h

  mirror_past : (word : Option ℤ) (negative : Bool) → IsAlone axis negative (pos 1000000) (pos 0) (image_of (mirrors (k + 1) rest) axis)
      → IsAlone axis negative (pos 1000000) (pos 0) (image_of (mirrors k (word ∷ rest)) axis)
  mirror_past None negative h = h
  mirror_past (Some v) negative h =
      subst (λ (b : Bool). IsAlone axis b (pos 1000000) (pos 0) (image_of (mirrors k (Some v ∷ rest)) axis))
      (ap (λ (b : Bool). other_sign b negative) other)
      (mirrored-alone k axis negative (pos 1000000) (image_of (mirrors (k + 1) rest) axis) h)

module _ (axis : ℕ) (rest : List (Option ℤ)) where
  shift_here : (word : Option ℤ) → IsAlone axis false (pos 1000000) (pos 0) (image_of (shifts (axis + 1) rest) axis)
      → IsAlone axis false (pos 1000000) (unwrap_or word (pos 0)) (image_of (shifts axis (word ∷ rest)) axis)
  shift_here None h = h
  shift_here (Some v) h =
      subst (λ (z : ℤ). IsAlone axis false (pos 1000000) z (image_of (shifts axis (Some v ∷ rest)) axis))
      (ap (λ (b : Bool). pos 0 +ℤ cond b v (pos 0)) (eq-eqb axis axis refl) ∙ added_to_nothing v)
      (shifted-alone axis axis false (pos 1000000) (pos 0) v (image_of (shifts (axis + 1) rest) axis) h)

  scale_here : (word : Option ℤ) → IsAlone axis false (pos 1000000) (pos 0) (image_of (scales (axis + 1) rest) axis)
      → IsAlone axis false (unwrap_or word (pos 1000000)) (pos 0) (image_of (scales axis (word ∷ rest)) axis)
  scale_here None h = h
  scale_here (Some v) h = scaled-here axis false v (image_of (scales (axis + 1) rest) axis) h

  mirror_here : (word : Option ℤ) → IsAlone axis false (pos 1000000) (pos 0) (image_of (mirrors (axis + 1) rest) axis)
      → IsAlone axis (is_some word) (pos 1000000) (pos 0) (image_of (mirrors axis (word ∷ rest)) axis)
  mirror_here None h = h
  mirror_here (Some v) h =
      subst (λ (b : Bool). IsAlone axis b (pos 1000000) (pos 0) (image_of (mirrors axis (Some v ∷ rest)) axis))
      (ap (λ (b : Bool). other_sign b false) (eq-eqb axis axis refl))
      (mirrored-alone axis axis false (pos 1000000) (image_of (mirrors (axis + 1) rest) axis) h)

-- the axes X, Y and Z
module _ (x y z : Option ℤ) where
  pub shifts-x : IsAlone 0 false (pos 1000000) (unwrap_or x (pos 0)) (image_of (shifts 0 (x ∷ y ∷ z ∷ [])) 0)
  shifts-x =
      shift_here 0 (y ∷ z ∷ []) x
      (shift_past 1 0 (z ∷ []) refl y (pos 0) (shift_past 2 0 [] refl z (pos 0) (unmapped-alone 0)))

  pub shifts-y : IsAlone 1 false (pos 1000000) (unwrap_or y (pos 0)) (image_of (shifts 0 (x ∷ y ∷ z ∷ [])) 1)
  shifts-y =
      shift_past 0 1 (y ∷ z ∷ []) refl x (unwrap_or y (pos 0))
      (shift_here 1 (z ∷ []) y (shift_past 2 1 [] refl z (pos 0) (unmapped-alone 1)))

  pub shifts-z : IsAlone 2 false (pos 1000000) (unwrap_or z (pos 0)) (image_of (shifts 0 (x ∷ y ∷ z ∷ [])) 2)
  shifts-z =
      shift_past 0 2 (y ∷ z ∷ []) refl x (unwrap_or z (pos 0))
      (shift_past 1 2 (z ∷ []) refl y (unwrap_or z (pos 0)) (shift_here 2 [] z (unmapped-alone 2)))

  pub scales-x : IsAlone 0 false (unwrap_or x (pos 1000000)) (pos 0) (image_of (scales 0 (x ∷ y ∷ z ∷ [])) 0)
  scales-x =
      scale_here 0 (y ∷ z ∷ []) x
      (scale_past 1 0 (z ∷ []) refl y (pos 1000000) (scale_past 2 0 [] refl z (pos 1000000) (unmapped-alone 0)))

  pub scales-y : IsAlone 1 false (unwrap_or y (pos 1000000)) (pos 0) (image_of (scales 0 (x ∷ y ∷ z ∷ [])) 1)
  scales-y =
      scale_past 0 1 (y ∷ z ∷ []) refl x (unwrap_or y (pos 1000000))
      (scale_here 1 (z ∷ []) y (scale_past 2 1 [] refl z (pos 1000000) (unmapped-alone 1)))

  pub scales-z : IsAlone 2 false (unwrap_or z (pos 1000000)) (pos 0) (image_of (scales 0 (x ∷ y ∷ z ∷ [])) 2)
  scales-z =
      scale_past 0 2 (y ∷ z ∷ []) refl x (unwrap_or z (pos 1000000))
      (scale_past 1 2 (z ∷ []) refl y (unwrap_or z (pos 1000000)) (scale_here 2 [] z (unmapped-alone 2)))

  pub mirrors-x : IsAlone 0 (is_some x) (pos 1000000) (pos 0) (image_of (mirrors 0 (x ∷ y ∷ z ∷ [])) 0)
  mirrors-x =
      mirror_here 0 (y ∷ z ∷ []) x
      (mirror_past 1 0 (z ∷ []) refl y false (mirror_past 2 0 [] refl z false (unmapped-alone 0)))

  pub mirrors-y : IsAlone 1 (is_some y) (pos 1000000) (pos 0) (image_of (mirrors 0 (x ∷ y ∷ z ∷ [])) 1)
  mirrors-y =
      mirror_past 0 1 (y ∷ z ∷ []) refl x (is_some y)
      (mirror_here 1 (z ∷ []) y (mirror_past 2 1 [] refl z false (unmapped-alone 1)))

  pub mirrors-z : IsAlone 2 (is_some z) (pos 1000000) (pos 0) (image_of (mirrors 0 (x ∷ y ∷ z ∷ [])) 2)
  mirrors-z =
      mirror_past 0 2 (y ∷ z ∷ []) refl x (is_some z)
      (mirror_past 1 2 (z ∷ []) refl y (is_some z) (mirror_here 2 [] z (unmapped-alone 2)))
