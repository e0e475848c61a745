use Rattle.std.proofs.Common.{rules, ◌≡◌, ◌∙◌, ℕ, ℤ, true, false, sym, ap, w64}
use Rattle.std.proofs.lemmas.Bool.{cond-true, cond-false}
use Rattle.std.proofs.lemmas.Int.{to_z-of_z}
use mir.Val.{SFits}
use Rattle.frames.specs.Images.{image_of}
use Rattle.frames.specs.Maps.{mapped_point}
use Rattle.frames.specs.Places.{programmed_point, end_at, change_of}
use Rattle.block_motions.specs.declared.goals.Programmed.{Programmed}
use Rattle.block_motions.specs.Goals as model
use Rattle.block_motions.specs.Goals.{ConditionsView}
use Rattle.block_motions.proofs.goals.goal_in.Goals as goal

through_change : (h : ConditionsView) (axis : ℕ) (p : Programmed) → model.is_change h p.measure ≡ true
    → model.goal_through h axis p ≡ model.change_by (change_of (image_of (model.chain_in h) axis) (model.twice_of h axis p))
through_change h axis p is = cond-true (model.is_change h p.measure) _ _ is

through_place : (h : ConditionsView) (axis : ℕ) (p : Programmed) → model.is_change h p.measure ≡ false
    → model.goal_through h axis p ≡ model.lengthened (h.length (model.slot_of h axis)) (model.position_at (model.place_of h axis (model.twice_of h axis p)))
through_place h axis p is = cond-false (model.is_change h p.measure) _ _ is

pub returns-then-change : goal.returns-then-change
returns-then-change c h are composed =
    let changes : model.is_change h c.args.programmed.measure ≡ true = sym (c.is_change-change.ensures h are) ∙ c.if-change.true in
    let fits : SFits w64 c.twice_of-twice.result = search rules in
    let same = to_z-of_z w64 c.twice_of-twice.result fits in
    c.change_through.ensures (model.chain_in h) composed
    ∙ ap (λ (twice : ℤ). model.change_by (change_of (image_of (model.chain_in h) c.args.axis) twice)) same
    ∙ ap (λ (twice : ℤ). model.change_by (change_of (image_of (model.chain_in h) c.args.axis) twice)) (c.twice_of-twice.ensures h are)
    ∙ sym (through_change h c.args.axis c.args.programmed changes)

pub returns-else-change : goal.returns-else-change
returns-else-change c h are composed =
    let stays : model.is_change h c.args.programmed.measure ≡ false = sym (c.is_change-change.ensures h are) ∙ c.if-change.false in
    let slot : c.slot_of-slot.result ≡ model.slot_of h c.args.axis = c.slot_of-slot.ensures.slot (model.chain_in h) composed in
    let offset : c.offset_in-offset.result ≡ model.offset_in h (model.slot_of h c.args.axis) =
    c.offset_in-offset.ensures h are ∙ ap (λ (slot : ℕ). model.offset_in h slot) slot in
    let length : c.length_in.result ≡ h.length (model.slot_of h c.args.axis) = c.length_in.ensures h are ∙ ap h.length slot in
    let fits : SFits w64 c.twice_of-twice.result = search rules in
    let same = to_z-of_z w64 c.twice_of-twice.result fits in
    let place : c.place_through-place.result ≡ model.position_at (model.place_of h c.args.axis (model.twice_of h c.args.axis c.args.programmed)) =
    c.place_through-place.ensures (model.chain_in h) composed
    ∙ ap (λ (twice : ℤ). model.position_at (end_at (mapped_point (model.chain_in h) (programmed_point (model.on_axis c.args.axis twice))) (model.slot_of h c.args.axis) c.offset_in-offset.result)) same
    ∙ ap (λ (o : ℤ). model.position_at (end_at (mapped_point (model.chain_in h) (programmed_point (model.on_axis c.args.axis c.twice_of-twice.result))) (model.slot_of h c.args.axis) o)) offset
    ∙ ap (λ (twice : ℤ). model.position_at (model.place_of h c.args.axis twice)) (c.twice_of-twice.ensures h are) in
    c.lengthened.ensures
    ∙ ap (λ (l : ℤ). model.lengthened l c.place_through-place.result) length
    ∙ ap (model.lengthened (h.length (model.slot_of h c.args.axis))) place
    ∙ sym (through_place h c.args.axis c.args.programmed stays)
