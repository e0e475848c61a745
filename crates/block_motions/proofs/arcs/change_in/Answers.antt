use Rattle.std.proofs.Common.{rules, ◌∙◌, ℤ, ap, w64}
use Rattle.std.proofs.lemmas.Int.{to_z-of_z}
use mir.Val.{SFits}
use Rattle.block_motions.specs.Goals.{chain_in, change_by}
use Rattle.frames.specs.Images.{image_of}
use Rattle.frames.specs.Places.{change_of}
use Rattle.block_motions.proofs.arcs.change_in.Goals as goal

pub returns : goal.returns
returns c h are =
    let fits : SFits w64 c.args.twice = search rules in
    c.change_through.ensures (chain_in h) (c.frame_in.ensures h are)
    ∙ ap (λ (twice : ℤ). change_by (change_of (image_of (chain_in h) c.args.axis) twice)) (to_z-of_z w64 c.args.twice fits)
