-- The frame that a turn leaves.
use Rattle.std.proofs.Common.{◌≡◌, ℕ, zero, suc, ◌<◌, Bool, true, false, cond, eqb, List, [], ◌∷◌, ◌++◌, Some, None, refl, sym, ap, subst, arith}
use Rattle.std.proofs.lemmas.List.{append-nil}
use Rattle.std.specs.Prelude.{ℤ, pos}
use Rattle.frames.specs.declared.axis_map.AxisMap.{AxisMap}
use Rattle.frames.specs.declared.Frame.{Frame}
use Rattle.frames.specs.declared.Plane.{Plane}
use Rattle.frames.specs.declared.Plane.TheVariants.{G17, G18, G19}
use Rattle.frames.specs.Maps.{Map, turning, first_axis, second_axis, quarters_in}
use Rattle.frames.specs.Images.{Image, own_image, image_in_slot, quarters_image, image_of}
use Rattle.frames.specs.Counts.{IsMirrored}
use Rattle.frames.specs.Faults.{is_square_angle, or_else, adding_fault}
use Rattle.frames.specs.Composition.{IsImage, IsComposed, IsExtended, axis_of}
use Rattle.frames.specs.Turns.{IsTurned, IsTurnedFirst, IsTurnedSecond}
use Rattle.frames.proofs.AloneLaws.{IsAlone, unmapped-alone, placed-alone}
use Rattle.frames.proofs.ChainLaws.{first-below, second-below}
use Rattle.frames.proofs.CountLaws.{follows, mirrored-image}
use Rattle.frames.proofs.FrameLaws.{composed-at, extended, at_some}

-- an image with the factor 1 and no shift
abbrev IsBare : Image → Type 0
IsBare i = IsAlone i.slot i.minus (pos 1000000) (pos 0) i

-- that, in a slot that there is
record IsPlain (i : Image) : Type 0 where
  bare : IsBare i
  below : i.slot < 3

quarter_cases : (plane : Plane) (i : Image) (b c : Bool) → IsPlain i
    → IsPlain (cond b (image_in_slot (second_axis plane) false i) (cond c (image_in_slot (first_axis plane) true i) i))
quarter_cases plane i true c h = record {
  bare = placed-alone (second_axis plane) i.slot false i.minus (pos 1000000) i h.bare;
  below = second-below plane;
}
quarter_cases plane i false true h = record {
  bare = placed-alone (first_axis plane) i.slot true i.minus (pos 1000000) i h.bare;
  below = first-below plane;
}
quarter_cases plane i false false h = h

quarters-plain : (plane : Plane) (n : ℕ) (i : Image) → IsPlain i → IsPlain (quarters_image plane n i)
quarters-plain plane zero i h = h
quarters-plain plane (suc n) i h =
    let turned = quarters_image plane n i in
    quarter_cases plane turned (eqb turned.slot (first_axis plane)) (eqb turned.slot (second_axis plane)) (quarters-plain plane n i h)

module _ (chain : List Map) (old new : Frame) (plane : Plane) (angle : ℤ) (h : IsComposed chain old)
    (t : IsTurned old plane (quarters_in angle) new) where
  turned-image : (axis : ℕ) → axis < 3 → IsImage (axis_of new axis) (image_of (chain ++ turning plane angle ∷ []) axis)
  turned-image axis less =
      let i = quarters_image plane (quarters_in angle) (own_image axis) in
      let p = quarters-plain plane (quarters_in angle) (own_image axis) (record { bare = unmapped-alone axis; below = less }) in
      mirrored-image (axis_of old i.slot) (axis_of new axis) i.minus _
      (follows chain (turning plane angle ∷ []) axis i.slot (axis_of old i.slot) i.minus (pos 1000000) (pos 0)
      (composed-at chain old i.slot p.below h) p.bare)
      (t axis less)

  pub turn-extended : is_square_angle angle ≡ true → IsExtended chain (turning plane angle ∷ []) new
  turn-extended square =
      extended chain (turning plane angle ∷ []) new
      (ap (λ (b : Bool). or_else (cond b None (Some 12)) None) square)
      (turned-image 0 (omega arith)) (turned-image 1 (omega arith)) (turned-image 2 (omega arith))

-- an angle that is no multiple of 90
pub turn-fault : (chain : List Map) (plane : Plane) (angle : ℤ) → is_square_angle angle ≡ false
    → adding_fault chain (turning plane angle ∷ []) ≡ Some 12
turn-fault chain plane angle odd = at_some _ _ 12 (ap (λ (b : Bool). or_else (cond b None (Some 12)) None) odd)

-- no turn
pub nothing-extended : (chain : List Map) (frame : Frame) → IsComposed chain frame → IsExtended chain [] frame
nothing-extended chain frame h =
    let same : IsComposed (chain ++ []) frame = subst (λ (c : List Map). IsComposed c frame) (sym (append-nil chain)) h in
    extended chain [] frame refl same.x same.y same.z

-- ---- the pair of axes that is turned
kept : (old new : AxisMap) → new ≡ old → IsMirrored old false new
kept old new e = record { slot = ap (λ (a : AxisMap). a.slot) e; minus = ap (λ (a : AxisMap). a.minus) e; factor = ap (λ (a : AxisMap). a.factor) e; shift = ap (λ (a : AxisMap). a.shift) e }

module _ (old new : Frame) where
  pub turned-G17 : (n : ℕ) → n < 4 → IsTurnedFirst old.x old.y n new.x → IsTurnedSecond old.x old.y n new.y → new.z ≡ old.z → IsTurned old G17 n new
  turned-G17 zero less f s e zero below = f
  turned-G17 zero less f s e (suc zero) below = s
  turned-G17 zero less f s e (suc (suc zero)) below = kept old.z new.z e
  turned-G17 (suc zero) less f s e zero below = f
  turned-G17 (suc zero) less f s e (suc zero) below = s
  turned-G17 (suc zero) less f s e (suc (suc zero)) below = kept old.z new.z e
  turned-G17 (suc (suc zero)) less f s e zero below = f
  turned-G17 (suc (suc zero)) less f s e (suc zero) below = s
  turned-G17 (suc (suc zero)) less f s e (suc (suc zero)) below = kept old.z new.z e
  turned-G17 (suc (suc (suc zero))) less f s e zero below = f
  turned-G17 (suc (suc (suc zero))) less f s e (suc zero) below = s
  turned-G17 (suc (suc (suc zero))) less f s e (suc (suc zero)) below = kept old.z new.z e
  turned-G17 (suc (suc (suc (suc n)))) less f s e axis below = absurd (omega arith)
  turned-G17 n less f s e (suc (suc (suc axis))) below = absurd (omega arith)

  pub turned-G18 : (n : ℕ) → n < 4 → IsTurnedFirst old.z old.x n new.z → IsTurnedSecond old.z old.x n new.x → new.y ≡ old.y → IsTurned old G18 n new
  turned-G18 zero less f s e (suc (suc zero)) below = f
  turned-G18 zero less f s e zero below = s
  turned-G18 zero less f s e (suc zero) below = kept old.y new.y e
  turned-G18 (suc zero) less f s e (suc (suc zero)) below = f
  turned-G18 (suc zero) less f s e zero below = s
  turned-G18 (suc zero) less f s e (suc zero) below = kept old.y new.y e
  turned-G18 (suc (suc zero)) less f s e (suc (suc zero)) below = f
  turned-G18 (suc (suc zero)) less f s e zero below = s
  turned-G18 (suc (suc zero)) less f s e (suc zero) below = kept old.y new.y e
  turned-G18 (suc (suc (suc zero))) less f s e (suc (suc zero)) below = f
  turned-G18 (suc (suc (suc zero))) less f s e zero below = s
  turned-G18 (suc (suc (suc zero))) less f s e (suc zero) below = kept old.y new.y e
  turned-G18 (suc (suc (suc (suc n)))) less f s e axis below = absurd (omega arith)
  turned-G18 n less f s e (suc (suc (suc axis))) below = absurd (omega arith)

  pub turned-G19 : (n : ℕ) → n < 4 → IsTurnedFirst old.y old.z n new.y → IsTurnedSecond old.y old.z n new.z → new.x ≡ old.x → IsTurned old G19 n new
  turned-G19 zero less f s e (suc zero) below = f
  turned-G19 zero less f s e (suc (suc zero)) below = s
  turned-G19 zero less f s e zero below = kept old.x new.x e
  turned-G19 (suc zero) less f s e (suc zero) below = f
  turned-G19 (suc zero) less f s e (suc (suc zero)) below = s
  turned-G19 (suc zero) less f s e zero below = kept old.x new.x e
  turned-G19 (suc (suc zero)) less f s e (suc zero) below = f
  turned-G19 (suc (suc zero)) less f s e (suc (suc zero)) below = s
  turned-G19 (suc (suc zero)) less f s e zero below = kept old.x new.x e
  turned-G19 (suc (suc (suc zero))) less f s e (suc zero) below = f
  turned-G19 (suc (suc (suc zero))) less f s e (suc (suc zero)) below = s
  turned-G19 (suc (suc (suc zero))) less f s e zero below = kept old.x new.x e
  turned-G19 (suc (suc (suc (suc n)))) less f s e axis below = absurd (omega arith)
  turned-G19 n less f s e (suc (suc (suc axis))) below = absurd (omega arith)
