use Rattle.std.proofs.Common.{◌≡◌, ◌∙◌, ◌+ℤ◌, ℕ, ℤ, pos, Bool, true, false, cond, refl, sym, ap, subst, arith}
use Rattle.std.proofs.lemmas.Bool.{cond-true, cond-false}
use Rattle.std.proofs.lemmas.Int.{ints}
use Rattle.micro_units.specs.Position.{is_position}
use Rattle.block_motions.specs.Goals.{ConditionsView, goal_through, is_change, lengthened, place_of, position_at, slot_of, twice_of}
use Rattle.block_motions.specs.Lengths.{IsLonger, without_tool}
use Rattle.block_motions.specs.declared.goals.Goal.{Goal}
use Rattle.block_motions.specs.declared.goals.Goal.TheVariants.{To, By, TooFar}
use Rattle.block_motions.specs.declared.goals.Programmed.{Programmed}
use Rattle.block_motions.proofs.laws.absolute_ends_have_the_length_of_their_slot.Goals as goal

-- a position without a length, and with one
longer : (length place : ℤ) → IsLonger length (lengthened (pos 0) (position_at place)) (lengthened length (position_at place))
longer length place = by_range (is_position place) refl
  where
    same : place +ℤ pos 0 ≡ place
    same = omega (arith, ints)

    by_sum : (near : Bool) → is_position (place +ℤ length) ≡ near → IsLonger length (To (place +ℤ pos 0)) (cond near (To (place +ℤ length)) TooFar)
    by_sum true is = ap (λ (z : ℤ). z +ℤ length) (sym same)
    by_sum false is = ap (λ (z : ℤ). is_position (z +ℤ length)) same ∙ is

    by_range : (near : Bool) → is_position place ≡ near → IsLonger length (lengthened (pos 0) (cond near (To place) TooFar)) (lengthened length (cond near (To place) TooFar))
    by_range false is = tt
    by_range true is =
        let still : position_at (place +ℤ pos 0) ≡ To (place +ℤ pos 0) = cond-true (is_position (place +ℤ pos 0)) _ _ (ap is_position same ∙ is) in
        subst (λ (g : Goal). IsLonger length g (position_at (place +ℤ length))) (sym still) (by_sum (is_position (place +ℤ length)) refl)

-- a place, where a value is no change
is_place : (h : ConditionsView) (axis : ℕ) (p : Programmed) → is_change h p.measure ≡ false → goal_through h axis p ≡ lengthened (h.length (slot_of h axis)) (position_at (place_of h axis (twice_of h axis p)))
is_place h axis p not = cond-false (is_change h p.measure) _ _ not

pub returns-clause-ends : goal.returns-clause-ends
returns-clause-ends c h axis p not =
    let length : ℤ = h.length (slot_of h axis) in
    let place : ℤ = place_of h axis (twice_of h axis p) in
    subst (λ (g : Goal). IsLonger length g (goal_through h axis p)) (sym (is_place (without_tool h) axis p not))
    (subst (λ (g : Goal). IsLonger length (lengthened (pos 0) (position_at place)) g) (sym (is_place h axis p not)) (longer length place))

pub returns-clause-changes : goal.returns-clause-changes
returns-clause-changes c h axis p is = cond-true (is_change h p.measure) _ _ is ∙ sym (cond-true (is_change h p.measure) _ _ is)
