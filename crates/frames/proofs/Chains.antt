-- A chain of maps makes of each axis what its image says, and the image of a longer chain is made of those of its parts.
use Rattle.std.proofs.Common.{◌≡◌, ℕ, zero, suc, ◌*◌, ◌<◌, Bool, true, false, cond, eqb, List, [], ◌∷◌, ◌++◌, refl, sym, ap, ◌∙◌, arith}
use Rattle.std.specs.Prelude.{ℤ, pos, ◌+ℤ◌, ◌*ℤ◌}
use Rattle.number_laws.proofs.Ring.{num, var, plus, times, ring}
use Rattle.frames.specs.declared.Plane.{Plane}
use Rattle.frames.specs.Maps.{Map, shifting, scaling, mirroring, turning, quarters_in, first_axis, second_axis}
use Rattle.frames.specs.Images.{Image, sign, other_sign, own_image, image_in_slot, shifted_image, scaled_image, quarter_image, quarters_image, sent_on, image_of}

-- ---- one image after another
abbrev pub image : ℕ → Bool → ℤ → ℤ → ℕ → Image
image slot minus factor shift under = record { slot = slot; minus = minus; factor = factor; shift = shift; under = under }

same_image : (slot slot' : ℕ) (minus minus' : Bool) (factor factor' shift shift' : ℤ) (under under' : ℕ)
    → slot ≡ slot' → minus ≡ minus' → factor ≡ factor' → shift ≡ shift' → under ≡ under'
    → image slot minus factor shift under ≡ image slot' minus' factor' shift' under'
same_image slot slot' minus minus' factor factor' shift shift' under under' a b c d e = cc

-- what an image makes of an axis that another one has made before
abbrev pub after : Image → Image → Image
after i j = record {
  slot = i.slot;
  minus = other_sign j.minus i.minus;
  factor = i.factor *ℤ j.factor;
  shift = (i.shift *ℤ pos j.under) +ℤ (sign i.minus *ℤ (i.factor *ℤ j.shift));
  under = i.under * j.under;
}

pub sign-other_sign : (a b : Bool) → sign (other_sign a b) ≡ sign a *ℤ sign b
sign-other_sign true true = refl
sign-other_sign true false = refl
sign-other_sign false true = refl
sign-other_sign false false = refl

other_sign_swaps : (a b c : Bool) → other_sign a (other_sign b c) ≡ other_sign b (other_sign a c)
other_sign_swaps true true c = refl
other_sign_swaps true false c = refl
other_sign_swaps false true c = refl
other_sign_swaps false false c = refl

-- ---- the image of a longer chain
pub shifting_part : (b : Bool) (value : ℤ) (m n : ℕ)
    → cond b (value *ℤ pos (m * n)) (pos 0) ≡ cond b (value *ℤ pos m) (pos 0) *ℤ pos n
shifting_part true value m n =
    ring (value ∷ pos m ∷ pos n ∷ []) (times (var 0) (times (var 1) (var 2))) (times (times (var 0) (var 1)) (var 2)) tt
shifting_part false value m n = ring (pos n ∷ []) (num (pos 0)) (times (num (pos 0)) (var 0)) tt

thousandth-out : (f g c : ℤ) → (f *ℤ g) *ℤ c ≡ (f *ℤ c) *ℤ g
thousandth-out f g c =
    ring (f ∷ g ∷ c ∷ []) (times (times (var 0) (var 1)) (var 2)) (times (times (var 0) (var 2)) (var 1)) tt

pub shifted-after_shift : (t f s g u w : ℤ)
    → (((t *ℤ u) +ℤ (s *ℤ (f *ℤ g))) *ℤ pos 1000000) +ℤ (w *ℤ u)
    ≡ (((t *ℤ pos 1000000) +ℤ w) *ℤ u) +ℤ (s *ℤ ((f *ℤ pos 1000000) *ℤ g))
shifted-after_shift t f s g u w =
    let vt = var 0 in
    let vf = var 1 in
    let vs = var 2 in
    let vg = var 3 in
    let vu = var 4 in
    let vw = var 5 in
    let million = num (pos 1000000) in
    ring (t ∷ f ∷ s ∷ g ∷ u ∷ w ∷ [])
    (plus (times (plus (times vt vu) (times vs (times vf vg))) million) (times vw vu))
    (plus (times (plus (times vt million) vw) vu) (times vs (times (times vf million) vg)))
    tt

pub scaled-after_shift : (t f s g u c : ℤ)
    → ((t *ℤ u) +ℤ (s *ℤ (f *ℤ g))) *ℤ c ≡ ((t *ℤ c) *ℤ u) +ℤ (s *ℤ ((f *ℤ c) *ℤ g))
scaled-after_shift t f s g u c =
    let vt = var 0 in
    let vf = var 1 in
    let vs = var 2 in
    let vg = var 3 in
    let vu = var 4 in
    let vc = var 5 in
    ring (t ∷ f ∷ s ∷ g ∷ u ∷ c ∷ [])
    (times (plus (times vt vu) (times vs (times vf vg))) vc)
    (plus (times (times vt vc) vu) (times vs (times (times vf vc) vg)))
    tt

pub placed-after_shift : (t f s g u r : ℤ)
    → r *ℤ ((t *ℤ u) +ℤ (s *ℤ (f *ℤ g))) ≡ ((r *ℤ t) *ℤ u) +ℤ ((r *ℤ s) *ℤ (f *ℤ g))
placed-after_shift t f s g u r =
    let vt = var 0 in
    let vf = var 1 in
    let vs = var 2 in
    let vg = var 3 in
    let vu = var 4 in
    let vr = var 5 in
    ring (t ∷ f ∷ s ∷ g ∷ u ∷ r ∷ [])
    (times vr (plus (times vt vu) (times vs (times vf vg))))
    (plus (times (times vr vt) vu) (times (times vr vs) (times vf vg)))
    tt

pub under-after : (m n c : ℕ) → m * n * c ≡ m * c * n
under-after m n c = omega arith

shifted_image-after : (axis : ℕ) (value : ℤ) (i j : Image) → shifted_image axis value (after i j) ≡ after (shifted_image axis value i) j
shifted_image-after axis value i j =
    same_image _ _ _ _ _ _ _ _ _ _ refl refl
    (thousandth-out i.factor j.factor (pos 1000000))
    (ap (λ w. (((i.shift *ℤ pos j.under) +ℤ (sign i.minus *ℤ (i.factor *ℤ j.shift))) *ℤ pos 1000000) +ℤ w)
    (shifting_part (eqb i.slot axis) value i.under j.under)
    ∙ shifted-after_shift i.shift i.factor (sign i.minus) j.shift (pos j.under) (cond (eqb i.slot axis) (value *ℤ pos i.under) (pos 0)))
    (under-after i.under j.under 1000000)

scaled_image-after : (axis : ℕ) (value : ℤ) (i j : Image) → scaled_image axis value (after i j) ≡ after (scaled_image axis value i) j
scaled_image-after axis value i j =
    same_image _ _ _ _ _ _ _ _ _ _ refl refl
    (thousandth-out i.factor j.factor (cond (eqb i.slot axis) value (pos 1000000)))
    (scaled-after_shift i.shift i.factor (sign i.minus) j.shift (pos j.under) (cond (eqb i.slot axis) value (pos 1000000)))
    (under-after i.under j.under 1000000)

placed-after : (slot : ℕ) (turned : Bool) (i j : Image) → image_in_slot slot turned (after i j) ≡ after (image_in_slot slot turned i) j
placed-after slot turned i j =
    same_image _ _ _ _ _ _ _ _ _ _ refl
    (other_sign_swaps turned j.minus i.minus)
    refl
    (placed-after_shift i.shift i.factor (sign i.minus) j.shift (pos j.under) (sign turned)
    ∙ ap (λ s. ((sign turned *ℤ i.shift) *ℤ pos j.under) +ℤ (s *ℤ (i.factor *ℤ j.shift))) (sym (sign-other_sign turned i.minus)))
    refl

quarter_by : (b c : Bool) (first second : ℕ) (i j : Image)
    → cond b (image_in_slot second false (after i j)) (cond c (image_in_slot first true (after i j)) (after i j))
    ≡ after (cond b (image_in_slot second false i) (cond c (image_in_slot first true i) i)) j
quarter_by true c first second i j = placed-after second false i j
quarter_by false true first second i j = placed-after first true i j
quarter_by false false first second i j = refl

quarter_image-after : (plane : Plane) (i j : Image) → quarter_image plane (after i j) ≡ after (quarter_image plane i) j
quarter_image-after plane i j =
    quarter_by (eqb i.slot (first_axis plane)) (eqb i.slot (second_axis plane)) (first_axis plane) (second_axis plane) i j

quarters_image-after : (plane : Plane) (n : ℕ) (i j : Image) → quarters_image plane n (after i j) ≡ after (quarters_image plane n i) j
quarters_image-after plane zero i j = refl
quarters_image-after plane (suc n) i j =
    ap (quarter_image plane) (quarters_image-after plane n i j) ∙ quarter_image-after plane (quarters_image plane n i) j

sent_on-after : (m : Map) (i j : Image) → sent_on m (after i j) ≡ after (sent_on m i) j
sent_on-after (shifting axis value) i j = shifted_image-after axis value i j
sent_on-after (scaling axis value) i j = scaled_image-after axis value i j
sent_on-after (mirroring axis) i j = placed-after i.slot (eqb i.slot axis) i j
sent_on-after (turning plane angle) i j = quarters_image-after plane (quarters_in angle) i j

after-unmapped : (j : Image) → j ≡ after (own_image j.slot) j
after-unmapped j =
    same_image _ _ _ _ _ _ _ _ _ _ refl
    (kept j.minus)
    (ring (j.factor ∷ []) (var 0) (times (num (pos 1)) (var 0)) tt)
    (ring (j.shift ∷ pos j.under ∷ []) (var 0)
    (plus (times (num (pos 0)) (var 1)) (times (num (pos 1)) (times (num (pos 1)) (var 0)))) tt)
    (omega arith)
  where
    kept : (b : Bool) → b ≡ other_sign b false
    kept true = refl
    kept false = refl

-- of two chains one after the other: the image by the second, and then what the first makes of its slot
pub image_of-append : (ms ns : List Map) (axis : ℕ)
    → image_of (ms ++ ns) axis ≡ after (image_of ms (image_of ns axis).slot) (image_of ns axis)
image_of-append [] ns axis = after-unmapped (image_of ns axis)
image_of-append (m ∷ ms) ns axis =
    ap (sent_on m) (image_of-append ms ns axis) ∙ sent_on-after m (image_of ms (image_of ns axis).slot) (image_of ns axis)

-- ---- the numbers under an image are above 0
quarter_under : (plane : Plane) (i : Image) (b c : Bool)
    → (cond b (image_in_slot (second_axis plane) false i) (cond c (image_in_slot (first_axis plane) true i) i)).under ≡ i.under
quarter_under plane i true c = refl
quarter_under plane i false true = refl
quarter_under plane i false false = refl

quarters_image-under : (plane : Plane) (n : ℕ) (i : Image) → (quarters_image plane n i).under ≡ i.under
quarters_image-under plane zero i = refl
quarters_image-under plane (suc n) i =
    let turned = quarters_image plane n i in
    quarter_under plane turned (eqb turned.slot (first_axis plane)) (eqb turned.slot (second_axis plane)) ∙ quarters_image-under plane n i

sent_on-positive : (m : Map) (i : Image) → 0 < i.under → 0 < (sent_on m i).under
sent_on-positive (shifting axis value) i h = omega arith
sent_on-positive (scaling axis value) i h = omega arith
sent_on-positive (mirroring axis) i h = h
sent_on-positive (turning plane angle) i h = rw (quarters_image-under plane (quarters_in angle) i) h

pub image_of-positive : (ms : List Map) (axis : ℕ) → 0 < (image_of ms axis).under
image_of-positive [] axis = omega arith
image_of-positive (m ∷ ms) axis = sent_on-positive m (image_of ms axis) (image_of-positive ms axis)
