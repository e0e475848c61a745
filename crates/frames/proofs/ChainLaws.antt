-- Laws of chains: shifts add up, turns and mirrors end, and no two axes go to one slot.
use Rattle.std.proofs.Common.{◌≡◌, ◌≢◌, ℕ, zero, suc, ◌<◌, Bool, true, false, cond, eqb, List, [], ◌∷◌, refl, sym, ap, ◌∙◌, arith}
use Rattle.std.proofs.lemmas.Bool.{eqb-true}
use Rattle.std.proofs.lemmas.Int.{ints}
use Rattle.std.specs.Prelude.{ℤ, pos, negsuc, neg_ℤ, ◌+ℤ◌, ◌*ℤ◌, map}
use Rattle.number_laws.proofs.Ring.{Expr, num, var, plus, minus, times, ring}
use Rattle.number_laws.proofs.Orders.{ring_from}
use Rattle.frames.specs.declared.Plane.{Plane}
use Rattle.frames.specs.declared.Plane.TheVariants.{G17, G18, G19}
use Rattle.frames.specs.Maps.{Map, shifting, scaling, mirroring, turning, Point, mapped_point, quarter, quarters, quarters_in, first_axis, second_axis, IsSamePoint, total}
use Rattle.frames.specs.Images.{Image, image_in_slot, quarter_image, quarters_image, sent_on, image_of}
use Rattle.frames.proofs.AloneLaws.{nothing_between}
use Rattle.frames.proofs.PointLaws.{quarter_first, quarter_second}

-- ---- shifts
million : Expr
million = num (pos 1000000)

no_shift : (b : Bool) (t u : ℤ) → t *ℤ (u *ℤ pos 1000000) ≡ ((t *ℤ pos 1000000) +ℤ cond b (pos 0 *ℤ u) (pos 0)) *ℤ u
unfolding million
no_shift true t u =
    ring (t ∷ u ∷ []) (times (var 0) (times (var 1) million)) (times (plus (times (var 0) million) (times (num (pos 0)) (var 1))) (var 1)) tt
no_shift false t u = ring (t ∷ u ∷ []) (times (var 0) (times (var 1) million)) (times (plus (times (var 0) million) (num (pos 0))) (var 1)) tt

one_shift_more : (b : Bool) (q t v w m u : ℤ)
    → q *ℤ (u *ℤ pos 1000000) ≡ ((t *ℤ pos 1000000) +ℤ cond b (w *ℤ u) (pos 0)) *ℤ m
    → ((q *ℤ pos 1000000) +ℤ cond b (v *ℤ m) (pos 0)) *ℤ (u *ℤ pos 1000000)
    ≡ ((t *ℤ pos 1000000) +ℤ cond b ((v +ℤ w) *ℤ u) (pos 0)) *ℤ (m *ℤ pos 1000000)
unfolding million
one_shift_more true q t v w m u e =
    ring_from (q ∷ t ∷ v ∷ w ∷ m ∷ u ∷ [])
    (minus (times (var 0) (times (var 5) million)) (times (plus (times (var 1) million) (times (var 3) (var 5))) (var 4)) ∷ [])
    (million ∷ [])
    (times (plus (times (var 0) million) (times (var 2) (var 4))) (times (var 5) million))
    (times (plus (times (var 1) million) (times (plus (var 2) (var 3)) (var 5))) (times (var 4) million))
    (nothing_between _ _ e, tt) tt
one_shift_more false q t v w m u e =
    ring_from (q ∷ t ∷ v ∷ w ∷ m ∷ u ∷ [])
    (minus (times (var 0) (times (var 5) million)) (times (plus (times (var 1) million) (num (pos 0))) (var 4)) ∷ [])
    (million ∷ [])
    (times (plus (times (var 0) million) (num (pos 0))) (times (var 5) million))
    (times (plus (times (var 1) million) (num (pos 0))) (times (var 4) million))
    (nothing_between _ _ e, tt) tt

pub shifts-total : (axis : ℕ) (values : List ℤ) (p : Point)
    → IsSamePoint (mapped_point (map (shifting axis) values) p) (mapped_point (shifting axis (total values) ∷ []) p)
shifts-total axis [] p a = no_shift (eqb a axis) (p.top a) (pos p.under)
shifts-total axis (value ∷ values) p a =
    let q = mapped_point (map (shifting axis) values) p in
    one_shift_more (eqb a axis) (q.top a) (p.top a) value (total values) (pos q.under) (pos p.under) (shifts-total axis values p a)

-- ---- turns and mirrors
twice_opposite : (z : ℤ) → neg_ℤ (neg_ℤ z) ≡ z
twice_opposite z = omega (arith, ints)

quarter_other : (plane : Plane) (p : Point) (a : ℕ) → eqb a (second_axis plane) ≡ false → eqb a (first_axis plane) ≡ false → (quarter plane p).top a ≡ p.top a
quarter_other plane p a s f =
    ap (λ (b : Bool). cond b (p.top (first_axis plane)) (cond (eqb a (first_axis plane)) (neg_ℤ (p.top (second_axis plane))) (p.top a))) s
    ∙ ap (λ (b : Bool). cond b (neg_ℤ (p.top (second_axis plane))) (p.top a)) f

-- two turns change the sign of both axes of the plane
two_first : (plane : Plane) (p : Point) → (quarters plane 2 p).top (first_axis plane) ≡ neg_ℤ (p.top (first_axis plane))
two_first plane p = quarter_first plane (quarter plane p) ∙ ap neg_ℤ (quarter_second plane p)

two_second : (plane : Plane) (p : Point) → (quarters plane 2 p).top (second_axis plane) ≡ neg_ℤ (p.top (second_axis plane))
two_second plane p = quarter_second plane (quarter plane p) ∙ quarter_first plane p

two_other : (plane : Plane) (p : Point) (a : ℕ) → eqb a (second_axis plane) ≡ false → eqb a (first_axis plane) ≡ false → (quarters plane 2 p).top a ≡ p.top a
two_other plane p a s f = quarter_other plane (quarter plane p) a s f ∙ quarter_other plane p a s f

four_first : (plane : Plane) (p : Point) → (quarters plane 2 (quarters plane 2 p)).top (first_axis plane) ≡ p.top (first_axis plane)
four_first plane p = two_first plane (quarters plane 2 p) ∙ ap neg_ℤ (two_first plane p) ∙ twice_opposite _

four_second : (plane : Plane) (p : Point) → (quarters plane 2 (quarters plane 2 p)).top (second_axis plane) ≡ p.top (second_axis plane)
four_second plane p = two_second plane (quarters plane 2 p) ∙ ap neg_ℤ (two_second plane p) ∙ twice_opposite _

four_at : (plane : Plane) (p : Point) (a : ℕ) (b c : Bool) → eqb a (second_axis plane) ≡ b → eqb a (first_axis plane) ≡ c
    → (quarters plane 2 (quarters plane 2 p)).top a ≡ p.top a
four_at plane p a true c s f =
    let here = eqb-true a (second_axis plane) s in
    ap (quarters plane 2 (quarters plane 2 p)).top here ∙ four_second plane p ∙ ap p.top (sym here)
four_at plane p a false true s f =
    let here = eqb-true a (first_axis plane) f in
    ap (quarters plane 2 (quarters plane 2 p)).top here ∙ four_first plane p ∙ ap p.top (sym here)
four_at plane p a false false s f = two_other plane (quarters plane 2 p) a s f ∙ two_other plane p a s f

pub four-turns : (plane : Plane) (p : Point)
    → IsSamePoint (mapped_point (turning plane (pos 90000000) ∷ turning plane (pos 90000000) ∷ turning plane (pos 90000000) ∷ turning plane (pos 90000000) ∷ []) p) p
four-turns plane p a =
    ap (λ (z : ℤ). z *ℤ pos p.under) (four_at plane p a (eqb a (second_axis plane)) (eqb a (first_axis plane)) refl refl)

pub turn-back : (plane : Plane) (p : Point)
    → IsSamePoint (mapped_point (turning plane (negsuc 89999999) ∷ turning plane (pos 90000000) ∷ []) p) p
turn-back plane p a =
    ap (λ (z : ℤ). z *ℤ pos p.under) (four_at plane p a (eqb a (second_axis plane)) (eqb a (first_axis plane)) refl refl)

two_mirrors : (b : Bool) (z : ℤ) → cond b (neg_ℤ (cond b (neg_ℤ z) z)) (cond b (neg_ℤ z) z) ≡ z
two_mirrors true z = twice_opposite z
two_mirrors false z = refl

pub mirror-back : (axis : ℕ) (p : Point) → IsSamePoint (mapped_point (mirroring axis ∷ mirroring axis ∷ []) p) p
mirror-back axis p a = ap (λ (z : ℤ). z *ℤ pos p.under) (two_mirrors (eqb a axis) (p.top a))

-- ---- slots
-- the two axes of a plane exchanged
exchanged : ℕ → ℕ → ℕ → ℕ
exchanged f s x = cond (eqb x f) s (cond (eqb x s) f x)

quarter-slot : (plane : Plane) (i : Image) (b c : Bool)
    → (cond b (image_in_slot (second_axis plane) false i) (cond c (image_in_slot (first_axis plane) true i) i)).slot
    ≡ cond b (second_axis plane) (cond c (first_axis plane) i.slot)
quarter-slot plane i true c = refl
quarter-slot plane i false true = refl
quarter-slot plane i false false = refl

second-exchanged : (plane : Plane) → exchanged (first_axis plane) (second_axis plane) (second_axis plane) ≡ first_axis plane
unfolding exchanged
second-exchanged G17 = refl
second-exchanged G18 = refl
second-exchanged G19 = refl

first-exchanged : (plane : Plane) → exchanged (first_axis plane) (second_axis plane) (first_axis plane) ≡ second_axis plane
unfolding exchanged
first-exchanged G17 = refl
first-exchanged G18 = refl
first-exchanged G19 = refl

exchanged-other : (f s x : ℕ) → eqb x f ≡ false → eqb x s ≡ false → exchanged f s x ≡ x
unfolding exchanged
exchanged-other f s x p q = ap (λ (b : Bool). cond b s (cond (eqb x s) f x)) p ∙ ap (λ (b : Bool). cond b f x) q

exchanged-back : (plane : Plane) (x : ℕ) (b c : Bool) → eqb x (first_axis plane) ≡ b → eqb x (second_axis plane) ≡ c
    → exchanged (first_axis plane) (second_axis plane) (cond b (second_axis plane) (cond c (first_axis plane) x)) ≡ x
exchanged-back plane x true c f s = second-exchanged plane ∙ sym (eqb-true x (first_axis plane) f)
exchanged-back plane x false true f s = first-exchanged plane ∙ sym (eqb-true x (second_axis plane) s)
exchanged-back plane x false false f s = exchanged-other (first_axis plane) (second_axis plane) x f s

quarter-back : (plane : Plane) (i : Image) → exchanged (first_axis plane) (second_axis plane) (quarter_image plane i).slot ≡ i.slot
quarter-back plane i =
    ap (exchanged (first_axis plane) (second_axis plane)) (quarter-slot plane i (eqb i.slot (first_axis plane)) (eqb i.slot (second_axis plane)))
    ∙ exchanged-back plane i.slot (eqb i.slot (first_axis plane)) (eqb i.slot (second_axis plane)) refl refl

quarter-apart : (plane : Plane) (i j : Image) → (quarter_image plane i).slot ≡ (quarter_image plane j).slot → i.slot ≡ j.slot
quarter-apart plane i j e =
    sym (quarter-back plane i) ∙ ap (exchanged (first_axis plane) (second_axis plane)) e ∙ quarter-back plane j

quarters-apart : (plane : Plane) (n : ℕ) (i j : Image) → (quarters_image plane n i).slot ≡ (quarters_image plane n j).slot → i.slot ≡ j.slot
quarters-apart plane zero i j e = e
quarters-apart plane (suc n) i j e = quarters-apart plane n i j (quarter-apart plane (quarters_image plane n i) (quarters_image plane n j) e)

sent_on-apart : (m : Map) (i j : Image) → (sent_on m i).slot ≡ (sent_on m j).slot → i.slot ≡ j.slot
sent_on-apart (shifting axis value) i j e = e
sent_on-apart (scaling axis value) i j e = e
sent_on-apart (mirroring axis) i j e = e
sent_on-apart (turning plane angle) i j e = quarters-apart plane (quarters_in angle) i j e

same_axis : (chain : List Map) (axis other : ℕ) → (image_of chain axis).slot ≡ (image_of chain other).slot → axis ≡ other
same_axis [] axis other e = e
same_axis (m ∷ ms) axis other e = same_axis ms axis other (sent_on-apart m (image_of ms axis) (image_of ms other) e)

pub slots-apart : (chain : List Map) (axis other : ℕ) → axis ≢ other → (image_of chain axis).slot ≢ (image_of chain other).slot
slots-apart chain axis other apart e = apart (same_axis chain axis other e)

pub first-below : (plane : Plane) → first_axis plane < 3
first-below G17 = omega arith
first-below G18 = omega arith
first-below G19 = omega arith

pub second-below : (plane : Plane) → second_axis plane < 3
second-below G17 = omega arith
second-below G18 = omega arith
second-below G19 = omega arith

quarter-below : (plane : Plane) (i : Image) (b c : Bool) → i.slot < 3
    → (cond b (image_in_slot (second_axis plane) false i) (cond c (image_in_slot (first_axis plane) true i) i)).slot < 3
quarter-below plane i true c less = second-below plane
quarter-below plane i false true less = first-below plane
quarter-below plane i false false less = less

quarters-below : (plane : Plane) (n : ℕ) (i : Image) → i.slot < 3 → (quarters_image plane n i).slot < 3
quarters-below plane zero i less = less
quarters-below plane (suc n) i less =
    let turned = quarters_image plane n i in
    quarter-below plane turned (eqb turned.slot (first_axis plane)) (eqb turned.slot (second_axis plane)) (quarters-below plane n i less)

sent_on-below : (m : Map) (i : Image) → i.slot < 3 → (sent_on m i).slot < 3
sent_on-below (shifting axis value) i less = less
sent_on-below (scaling axis value) i less = less
sent_on-below (mirroring axis) i less = less
sent_on-below (turning plane angle) i less = quarters-below plane (quarters_in angle) i less

pub slot-below : (chain : List Map) (axis : ℕ) → axis < 3 → (image_of chain axis).slot < 3
slot-below [] axis less = less
slot-below (m ∷ ms) axis less = sent_on-below m (image_of ms axis) (slot-below ms axis less)
