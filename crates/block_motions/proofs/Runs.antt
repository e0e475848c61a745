-- What the test of the ends of an arc says.
use Rattle.std.proofs.Common.{◌≡◌, ℕ, ℤ, ◌==◌, ◌&&◌, not, Bool, true, false, cond, List, [], ◌∷◌, All, Result, Option, Err, refl, sym, ap, ◌∙◌}
use Rattle.std.proofs.lemmas.Bool.{and_parts, eq-eqb, leb-true, not-true}
use Rattle.std.proofs.lemmas.List.Elements.{All-nil, All-cons, All-weaker}
use Rattle.std.specs.List.{list_all}
use Rattle.block_motions.specs.declared.goals.Goal.{Goal}
use Rattle.block_motions.specs.Goals.{ConditionsView}
use Rattle.block_motions.specs.Motions.{are_in_reach, are_own, ends_from}
use Rattle.path_geometry.specs.Ends.{EndsView}
use Rattle.path_geometry.specs.Motions.{HavePlane}
use Rattle.micro_units.specs.Position.{IsPosition, is_position}
use Rattle.path_geometry.specs.declared.motion.Motion.{Motion}
use Rattle.block_motions.specs.Arcs.{run_in_range, is_moved, can_run, some_motion, arc_given, arc_to}
use Rattle.block_motions.specs.Sides.{SideView}
use Rattle.block_motions.specs.declared.words.ArcWords.{ArcWords}
use Rattle.fault_codes.specs.declared.alarms.TheConstants.{AXIS_NOT_OWNED, OUT_OF_RANGE}

all_true : {X : Type 0} (f : X → Bool) (xs : List X) → list_all f xs ≡ true → All (λ x. f x ≡ true) xs
all_true f [] is = All-nil (λ x. f x ≡ true)
all_true f (x ∷ xs) is = let parts = and_parts (f x) (list_all f xs) is in All-cons (λ x. f x ≡ true) x xs parts.0 (all_true f xs parts.1)

near_both : (e : ℕ × ℤ × ℤ) → (is_position e.1 && is_position e.2) ≡ true → IsPosition e.1 × IsPosition e.2
near_both e is = let parts = and_parts (is_position e.1) (is_position e.2) is in (leb-true _ _ parts.0, leb-true _ _ parts.1)

module _ (sides : SideView × SideView) (ends : EndsView) (can : can_run sides ends ≡ true) where
  pub in_range : All (λ e. IsPosition e.1 × IsPosition e.2) ends.axes
  in_range =
      let parts = and_parts (run_in_range ends) (is_moved ends sides.0 && (is_moved ends sides.1 && not (sides.0.moved == sides.1.moved))) can in
      All-weaker (λ e. (is_position e.1 && is_position e.2) ≡ true) (λ e. IsPosition e.1 × IsPosition e.2) near_both ends.axes
      (all_true (λ e. is_position e.1 && is_position e.2) ends.axes parts.0)

  pub have_plane : HavePlane ends sides.0.moved sides.1.moved
  have_plane =
      let parts = and_parts (run_in_range ends) (is_moved ends sides.0 && (is_moved ends sides.1 && not (sides.0.moved == sides.1.moved))) can in
      let first = and_parts (is_moved ends sides.0) (is_moved ends sides.1 && not (sides.0.moved == sides.1.moved)) parts.1 in
      let second = and_parts (is_moved ends sides.1) (not (sides.0.moved == sides.1.moved)) first.1 in
      let other : (sides.0.moved == sides.1.moved) ≡ false = not-true (sides.0.moved == sides.1.moved) second.1 in
      record {
        differ = λ same. let one : (sides.0.moved == sides.1.moved) ≡ true = eq-eqb sides.0.moved sides.1.moved same in absurd cc;
        has_first = first.0;
        has_second = second.0;
      }

-- where all tests hold, the arc is given
past : (a b c : Bool) (answer : Result (Option Motion) ℕ) → a ≡ true → b ≡ true → c ≡ true
    → cond (not a) (Err OUT_OF_RANGE) (cond (not b) (Err AXIS_NOT_OWNED) (cond (not c) (Err OUT_OF_RANGE) answer)) ≡ answer
past true true true answer x y z = refl
past true true false answer x y z = absurd cc
past true false c answer x y z = absurd cc
past false b c answer x y z = absurd cc

pub arc_gives : (owned : List Bool) (h : ConditionsView) (at : ℕ → ℤ) (words : ArcWords) (sides : SideView × SideView) (goals : List (Option Goal))
    → are_in_reach owned at goals ≡ true → are_own owned goals ≡ true → (ends : EndsView) → ends.axes ≡ ends_from at goals → can_run sides ends ≡ true
    → arc_to owned h at words sides goals ≡ some_motion (arc_given h at words words.radius sides ends)
unfolding arc_to
arc_gives owned h at words sides goals reach own ends is can =
    let made : EndsView = record { axes = ends_from at goals } in
    let with_axes : List (ℕ × ℤ × ℤ) → EndsView = λ axes. record { axes = axes } in
    let same : ends ≡ made = ap with_axes is in
    past (are_in_reach owned at goals) (are_own owned goals) (can_run sides made) (some_motion (arc_given h at words words.radius sides made)) reach own
    (ap (can_run sides) (sym same) ∙ can)
    ∙ ap (λ (e : EndsView). some_motion (arc_given h at words words.radius sides e)) (sym same)
