-- Where a value goes by the whole counts of an axis is where it goes by the chain.
use Rattle.std.proofs.Common.{◌≡◌, ℕ, ◌*◌, ◌<◌, Bool, List, [], ◌∷◌, sym, ap, ◌∙◌, subst, arith}
use Rattle.std.proofs.Math.Nat.{mul-pos}
use Rattle.std.specs.Prelude.{ℤ, pos, ◌+ℤ◌, ◌*ℤ◌, Result}
use Rattle.micro_units.specs.declared.Um.{Um}
use Rattle.micro_units.specs.Rounding.{half_away}
use Rattle.number_laws.proofs.Ring.{num, var, plus, minus, times}
use Rattle.number_laws.proofs.Orders.{ring_from}
use Rattle.frames.specs.declared.axis_map.AxisMap.{AxisMap}
use Rattle.frames.specs.declared.Frame.{Frame}
use Rattle.frames.specs.Maps.{Map, Point, mapped_point}
use Rattle.frames.specs.Images.{Image, IsSent, sign, image_of}
use Rattle.frames.specs.Counts.{place_sum, change_sum}
use Rattle.frames.specs.Places.{programmed_point, end_at, change_of, GivesPlace}
use Rattle.frames.specs.Composition.{IsImage, IsComposed, axis_of}
use Rattle.frames.proofs.AloneLaws.{nothing_between}
use Rattle.frames.proofs.Chains.{image_of-positive}
use Rattle.frames.proofs.FrameLaws.{composed-at}
use Rattle.frames.proofs.PointLaws.{chain-sent}
use Rattle.frames.proofs.SameRounding.{half_away-same}

place_same : (s f g t w v u o : ℤ) → f *ℤ u ≡ g *ℤ pos 1000000 → t *ℤ u ≡ w *ℤ pos 1000000000000
    → (((pos 2 *ℤ t) +ℤ (s *ℤ (f *ℤ v))) +ℤ (o *ℤ pos 2000000000)) *ℤ (u *ℤ pos 2000000)
    ≡ ((((w *ℤ pos 2000000) +ℤ (s *ℤ (g *ℤ v))) *ℤ pos 1000) +ℤ (o *ℤ (u *ℤ pos 2000000))) *ℤ pos 2000000000
place_same s f g t w v u o d e =
    let vs = var 0 in
    let vf = var 1 in
    let vg = var 2 in
    let vt = var 3 in
    let vw = var 4 in
    let vv = var 5 in
    let vu = var 6 in
    let vo = var 7 in
    let under = times vu (num (pos 2000000)) in
    ring_from (s ∷ f ∷ g ∷ t ∷ w ∷ v ∷ u ∷ o ∷ [])
    (minus (times vf vu) (times vg (num (pos 1000000))) ∷ minus (times vt vu) (times vw (num (pos 1000000000000))) ∷ [])
    (times (num (pos 2000000)) (times vs vv) ∷ num (pos 4000000) ∷ [])
    (times (plus (plus (times (num (pos 2)) vt) (times vs (times vf vv))) (times vo (num (pos 2000000000)))) under)
    (times
    (plus (times (plus (times vw (num (pos 2000000))) (times vs (times vg vv))) (num (pos 1000))) (times vo under))
    (num (pos 2000000000)))
    (nothing_between _ _ d, (nothing_between _ _ e, tt)) tt

change_same : (s f g v u : ℤ) → f *ℤ u ≡ g *ℤ pos 1000000
    → (s *ℤ (f *ℤ v)) *ℤ (u *ℤ pos 2000000) ≡ ((s *ℤ (g *ℤ v)) *ℤ pos 1000) *ℤ pos 2000000000
change_same s f g v u d =
    let vs = var 0 in
    let vf = var 1 in
    let vg = var 2 in
    let vv = var 3 in
    let vu = var 4 in
    ring_from (s ∷ f ∷ g ∷ v ∷ u ∷ [])
    (minus (times vf vu) (times vg (num (pos 1000000))) ∷ [])
    (times (num (pos 2000000)) (times vs vv) ∷ [])
    (times (times vs (times vf vv)) (times vu (num (pos 2000000))))
    (times (times (times vs (times vg vv)) (num (pos 1000))) (num (pos 2000000000)))
    (nothing_between _ _ d, tt) tt

end-by_image : (e : AxisMap) (i : Image) (twice offset : ℤ) (p : Point) → 0 < i.under → IsImage e i → IsSent i twice 2000000 p
    → half_away (place_sum e twice offset) 2000000000 ≡ end_at p i.slot offset
end-by_image e i twice offset p some h k =
    ap (λ (b : Bool). half_away (((pos 2 *ℤ e.shift) +ℤ (sign b *ℤ (pos e.factor *ℤ twice))) +ℤ (offset *ℤ pos 2000000000)) 2000000000) h.minus
    ∙ half_away-same _ _ 2000000000 (i.under * 2000000) (omega arith) (mul-pos some (omega arith))
    (place_same (sign i.minus) (pos e.factor) i.factor e.shift i.shift twice (pos i.under) offset h.factor h.shift)
    ∙ sym (ap (λ (z : ℤ). half_away ((z *ℤ pos 1000) +ℤ (offset *ℤ pos p.under)) p.under) k.top
    ∙ ap (λ (n : ℕ). half_away ((((i.shift *ℤ pos 2000000) +ℤ (sign i.minus *ℤ (i.factor *ℤ twice))) *ℤ pos 1000) +ℤ (offset *ℤ pos n)) n) k.under_is)

pub end-same : (chain : List Map) (axis : ℕ) (e : AxisMap) (values : ℕ → ℤ) (twice offset : ℤ) → IsImage e (image_of chain axis)
    → values axis ≡ twice
    → half_away (place_sum e twice offset) 2000000000 ≡ end_at (mapped_point chain (programmed_point values)) (image_of chain axis).slot offset
end-same chain axis e values twice offset h same =
    ap (λ (z : ℤ). half_away (place_sum e z offset) 2000000000) (sym same)
    ∙ end-by_image e (image_of chain axis) (values axis) offset (mapped_point chain (programmed_point values)) (image_of-positive chain axis) h
    (chain-sent chain axis (programmed_point values))

pub change-same : (chain : List Map) (axis : ℕ) (e : AxisMap) (twice : ℤ) → IsImage e (image_of chain axis)
    → half_away (change_sum e twice) 2000000000 ≡ change_of (image_of chain axis) twice
change-same chain axis e twice h =
    let i = image_of chain axis in
    ap (λ (b : Bool). half_away (sign b *ℤ (pos e.factor *ℤ twice)) 2000000000) h.minus
    ∙ half_away-same _ _ 2000000000 (i.under * 2000000) (omega arith) (mul-pos (image_of-positive chain axis) (omega arith))
    (change_same (sign i.minus) (pos e.factor) i.factor twice (pos i.under) h.factor)

-- ---- the answers
module _ (chain : List Map) (frame : Frame) (axis : ℕ) (map : AxisMap) (twice : ℤ) (answer : Result (ℕ × Um) ℕ) (below : axis < 3)
    (h : IsComposed chain frame) (is : map ≡ axis_of frame axis) where
  here : IsImage map (image_of chain axis)
  here = subst (λ (e : AxisMap). IsImage e (image_of chain axis)) (sym is) (composed-at chain frame axis below h)

  pub change-answer : GivesPlace map.slot (half_away (change_sum map twice) 2000000000) 20000000 answer
      → GivesPlace (image_of chain axis).slot (change_of (image_of chain axis) twice) 20000000 answer
  change-answer given =
      subst (λ (slot : ℕ). GivesPlace slot (change_of (image_of chain axis) twice) 20000000 answer) here.slot
      (subst (λ (place : ℤ). GivesPlace map.slot place 20000000 answer) (change-same chain axis map twice here) given)

  pub end-answer : (values : ℕ → ℤ) (offset : ℤ) → values axis ≡ twice
      → GivesPlace map.slot (half_away (place_sum map twice offset) 2000000000) 10000000 answer
      → GivesPlace (image_of chain axis).slot (end_at (mapped_point chain (programmed_point values)) (image_of chain axis).slot offset) 10000000 answer
  end-answer values offset same given =
      let place = end_at (mapped_point chain (programmed_point values)) (image_of chain axis).slot offset in
      subst (λ (slot : ℕ). GivesPlace slot place 10000000 answer) here.slot
      (subst (λ (p : ℤ). GivesPlace map.slot p 10000000 answer) (end-same chain axis map values twice offset here same) given)
