use Rattle.std.proofs.Common.{◌≡◌, ◌∙◌, ℕ, subst}
use Rattle.std.specs.Prelude.{pos, ◌*ℤ◌}
use Rattle.block_motions.specs.Goals.{chain_in}
use Rattle.frames.proofs.Chains.{image_of-positive}
use Rattle.frames.specs.Images.{image_of}
use Rattle.frames.specs.Maps.{first_axis, second_axis}
use Rattle.block_motions.proofs.Factors.{same_factor}
use Rattle.block_motions.specs.Arcs.{have_one_factor}
use Rattle.block_motions.proofs.sides.have_one_factor.Goals as goal

pub returns : goal.returns
unfolding have_one_factor
returns c h are =
    let chain = chain_in h in
    let composed = c.frame_in-frame.ensures h are in
    let first = image_of chain (first_axis c.args.plane) in
    let second = image_of chain (second_axis c.args.plane) in
    let of_first = subst (λ (axis : ℕ). c.image-first.result.2 *ℤ pos (image_of chain axis).under ≡ (image_of chain axis).factor *ℤ pos 1000000)
    c.first_axis.ensures.axis (c.image-first.ensures.factor chain composed) in
    let of_second = subst (λ (axis : ℕ). c.image-second.result.2 *ℤ pos (image_of chain axis).under ≡ (image_of chain axis).factor *ℤ pos 1000000)
    c.second_axis.ensures.axis (c.image-second.ensures.factor chain composed) in
    c.are_equal.ensures
    ∙ same_factor c.image-first.result.2 c.image-second.result.2 first.factor second.factor first.under second.under of_first of_second
    (image_of-positive chain (first_axis c.args.plane)) (image_of-positive chain (second_axis c.args.plane))
