-- The code's greater and lesser bound are those of the definition.
use Rattle.std.proofs.Common.{◌≡◌, ℕ, Bool, true, false, arith, refl, sym}
use mathlib.Core.Logic.{◌↔◌}
use Rattle.std.proofs.lemmas.Bool.{cases_from_iff}
use Rattle.std.proofs.lemmas.Int.{to_z-of_z}
use Rattle.std.specs.Int.{int_max, int_min}
use Rattle.swept_boxes.proofs.Meeting.{test_is}
use Rattle.swept_boxes.proofs.MeetTests.{touch_of, touch_passes}
use Rattle.swept_boxes.specs.Boxes.{TouchIn, do_touch, high_of, low_of}
use Rattle.swept_boxes.specs.declared.Box3.{Box3}
use Rattle.box_tree.proofs.boxes.do_touch.Goals as goal

same : (left right : Box3) (direction : ℕ) (result : Bool) → ((result ≡ true) ↔ TouchIn left right direction) → result ≡ do_touch left right direction
same left right direction true h = sym (touch_passes left right direction (cases_from_iff h))
same left right direction false h = by_test (do_touch left right direction) refl
  where
    none : TouchIn left right direction → ⊥
    none = cases_from_iff h

    by_test : (b : Bool) → do_touch left right direction ≡ b → false ≡ b
    by_test true is = absurd (none (touch_of left right direction is))
    by_test false is = refl

pub returns : goal.returns
returns c =
    same c.args.left.now c.args.right.now c.args.direction _
    (test_is c.max-low.result c.min-high.result
    (int_max (low_of c.args.left.now c.args.direction) (low_of c.args.right.now c.args.direction))
    (int_min (high_of c.args.left.now c.args.direction) (high_of c.args.right.now c.args.direction))
    (grind (arith, to_z-of_z)) (grind (arith, to_z-of_z))
    (record { sfits = c.max-low.type_inv }) (record { sfits = c.min-high.type_inv }))
