-- A chain of maps has in the slot of an axis what the image of the axis makes of its value.
use Rattle.std.proofs.Common.{◌≡◌, ℕ, zero, suc, ◌*◌, Bool, true, false, cond, eqb, List, [], ◌∷◌, refl, sym, ap, ◌∙◌, arith}
use Rattle.std.proofs.lemmas.Bool.{eqb-true}
use Rattle.std.proofs.lemmas.Int.{ints}
use Rattle.std.specs.Prelude.{ℤ, pos, negsuc, neg_ℤ, ◌+ℤ◌, ◌*ℤ◌}
use Rattle.number_laws.proofs.Ring.{num, var, plus, times, ring}
use Rattle.frames.specs.declared.Plane.{Plane}
use Rattle.frames.specs.declared.Plane.TheVariants.{G17, G18, G19}
use Rattle.frames.specs.Maps.{Map, shifting, scaling, mirroring, turning, Point, shift_point, scale_point, mirror_point, effect, mapped_point, quarter, quarters, quarters_in, first_axis, second_axis}
use Rattle.frames.specs.Images.{Image, IsSent, sign, image_in_slot, shifted_image, scaled_image, mirrored_image, quarters_image, sent_on, image_of}
use Rattle.frames.proofs.Chains.{shifting_part, shifted-after_shift, scaled-after_shift, placed-after_shift, sign-other_sign, under-after}

pub quarter_second : (plane : Plane) (p : Point) → (quarter plane p).top (second_axis plane) ≡ p.top (first_axis plane)
quarter_second G17 p = refl
quarter_second G18 p = refl
quarter_second G19 p = refl

pub quarter_first : (plane : Plane) (p : Point) → (quarter plane p).top (first_axis plane) ≡ neg_ℤ (p.top (second_axis plane))
quarter_first G17 p = refl
quarter_first G18 p = refl
quarter_first G19 p = refl

module _ (value : ℤ) (u : ℕ) where
  shifted-sent : (axis : ℕ) (by : ℤ) (i : Image) (p : Point) → IsSent i value u p → IsSent (shifted_image axis by i) value u (shift_point axis by p)
  shifted-sent axis by i p h = record {
    top =
        ap (λ (z : ℤ). (z *ℤ pos 1000000) +ℤ cond (eqb i.slot axis) (by *ℤ pos p.under) (pos 0)) h.top
        ∙ ap (λ (n : ℕ). (((i.shift *ℤ pos u) +ℤ (sign i.minus *ℤ (i.factor *ℤ value))) *ℤ pos 1000000) +ℤ cond (eqb i.slot axis) (by *ℤ pos n) (pos 0)) h.under_is
        ∙ ap (λ (w : ℤ). (((i.shift *ℤ pos u) +ℤ (sign i.minus *ℤ (i.factor *ℤ value))) *ℤ pos 1000000) +ℤ w)
        (shifting_part (eqb i.slot axis) by i.under u)
        ∙ shifted-after_shift i.shift i.factor (sign i.minus) value (pos u) (cond (eqb i.slot axis) (by *ℤ pos i.under) (pos 0));
    under_is = ap (λ (n : ℕ). n * 1000000) h.under_is ∙ under-after i.under u 1000000;
  }

  scaled-sent : (axis : ℕ) (by : ℤ) (i : Image) (p : Point) → IsSent i value u p → IsSent (scaled_image axis by i) value u (scale_point axis by p)
  scaled-sent axis by i p h = record {
    top =
        ap (λ (z : ℤ). z *ℤ cond (eqb i.slot axis) by (pos 1000000)) h.top
        ∙ scaled-after_shift i.shift i.factor (sign i.minus) value (pos u) (cond (eqb i.slot axis) by (pos 1000000));
    under_is = ap (λ (n : ℕ). n * 1000000) h.under_is ∙ under-after i.under u 1000000;
  }

  -- the point q has in a slot what p has in the slot of the image, with a sign
  placed-sent : (slot : ℕ) (turned : Bool) (i : Image) (p q : Point) → q.top slot ≡ sign turned *ℤ p.top i.slot → q.under ≡ p.under
      → IsSent i value u p → IsSent (image_in_slot slot turned i) value u q
  placed-sent slot turned i p q there same h = record {
    top =
        there ∙ ap (λ (z : ℤ). sign turned *ℤ z) h.top
        ∙ placed-after_shift i.shift i.factor (sign i.minus) value (pos u) (sign turned)
        ∙ ap (λ (s : ℤ). ((sign turned *ℤ i.shift) *ℤ pos u) +ℤ (s *ℤ (i.factor *ℤ value))) (sym (sign-other_sign turned i.minus));
    under_is = same ∙ h.under_is;
  }

  signed_is : (b : Bool) (z : ℤ) → cond b (neg_ℤ z) z ≡ sign b *ℤ z
  signed_is true z = omega (arith, ints)
  signed_is false z = omega (arith, ints)

  mirrored-sent : (axis : ℕ) (i : Image) (p : Point) → IsSent i value u p → IsSent (mirrored_image axis i) value u (mirror_point axis p)
  mirrored-sent axis i p h = placed-sent i.slot (eqb i.slot axis) i p (mirror_point axis p) (signed_is (eqb i.slot axis) (p.top i.slot)) refl h

  plain : (z : ℤ) → z ≡ pos 1 *ℤ z
  plain z = omega (arith, ints)

  opposite : (z : ℤ) → neg_ℤ z ≡ negsuc 0 *ℤ z
  opposite z = omega (arith, ints)

  quarter_cases : (plane : Plane) (i : Image) (p : Point) (b c : Bool)
      → eqb i.slot (first_axis plane) ≡ b → eqb i.slot (second_axis plane) ≡ c → IsSent i value u p
      → IsSent (cond b (image_in_slot (second_axis plane) false i) (cond c (image_in_slot (first_axis plane) true i) i)) value u (quarter plane p)
  quarter_cases plane i p true c is_first is_second h =
      placed-sent (second_axis plane) false i p (quarter plane p)
      (quarter_second plane p ∙ ap p.top (sym (eqb-true i.slot (first_axis plane) is_first)) ∙ plain (p.top i.slot)) refl h
  quarter_cases plane i p false true is_first is_second h =
      placed-sent (first_axis plane) true i p (quarter plane p)
      (quarter_first plane p ∙ ap (λ (a : ℕ). neg_ℤ (p.top a)) (sym (eqb-true i.slot (second_axis plane) is_second)) ∙ opposite (p.top i.slot)) refl h
  quarter_cases plane i p false false is_first is_second h = record {
    top =
        ap (λ (b : Bool). cond b (p.top (first_axis plane)) (cond (eqb i.slot (first_axis plane)) (neg_ℤ (p.top (second_axis plane))) (p.top i.slot))) is_second
        ∙ ap (λ (b : Bool). cond b (neg_ℤ (p.top (second_axis plane))) (p.top i.slot)) is_first
        ∙ h.top;
    under_is = h.under_is;
  }

  quarters-sent : (plane : Plane) (n : ℕ) (i : Image) (p : Point) → IsSent i value u p → IsSent (quarters_image plane n i) value u (quarters plane n p)
  quarters-sent plane zero i p h = h
  quarters-sent plane (suc n) i p h =
      let turned = quarters_image plane n i in
      quarter_cases plane turned (quarters plane n p) (eqb turned.slot (first_axis plane)) (eqb turned.slot (second_axis plane)) refl refl
      (quarters-sent plane n i p h)

  effect-sent : (m : Map) (i : Image) (p : Point) → IsSent i value u p → IsSent (sent_on m i) value u (effect m p)
  effect-sent (shifting axis by) i p h = shifted-sent axis by i p h
  effect-sent (scaling axis by) i p h = scaled-sent axis by i p h
  effect-sent (mirroring axis) i p h = mirrored-sent axis i p h
  effect-sent (turning plane angle) i p h = quarters-sent plane (quarters_in angle) i p h

begins : (value : ℤ) (u : ℕ) → value ≡ (pos 0 *ℤ pos u) +ℤ (pos 1 *ℤ (pos 1 *ℤ value))
begins value u = ring (value ∷ pos u ∷ []) (var 0) (plus (times (num (pos 0)) (var 1)) (times (num (pos 1)) (times (num (pos 1)) (var 0)))) tt

pub chain-sent : (chain : List Map) (axis : ℕ) (p : Point) → IsSent (image_of chain axis) (p.top axis) p.under (mapped_point chain p)
chain-sent [] axis p = record { top = begins (p.top axis) p.under; under_is = omega arith }
chain-sent (m ∷ ms) axis p = effect-sent (p.top axis) p.under m (image_of ms axis) (mapped_point ms p) (chain-sent ms axis p)
