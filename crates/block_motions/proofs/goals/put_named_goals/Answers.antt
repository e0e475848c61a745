use Rattle.axis_sets.specs.declared.limits.TheConstants.{AXIS_LIMIT}
use Rattle.std.proofs.Common.{◌≡◌, ◌∙◌, ◌<◌, length, None, map, Option, option_map, sym, arith}
use Rattle.std.proofs.lemmas.List.{ext_get_or, get_or-map, length-map}
use Rattle.block_motions.specs.declared.goals.Goal.{Goal}
use Rattle.block_motions.specs.declared.goals.Programmed.{Programmed}
use Rattle.block_motions.specs.Goals.{goal_by_name}
use Rattle.block_motions.proofs.goals.put_named_goals.Goals as goal

pub returns : goal.returns
returns c h are =
    let long : length c.args.axes.now ≡ AXIS_LIMIT = c.type_inv.axes in
    let all : c.loop-index.index ≡ AXIS_LIMIT = omega arith in
    let by_name : Option Programmed → Option Goal = λ value. option_map (goal_by_name h) value in
    let sizes : length c.loop-index.goals ≡ length (map by_name c.args.axes.now) = c.loop-index.invariant.long ∙ sym long ∙ sym (length-map c.args.axes.now by_name) in
    ext_get_or None c.loop-index.goals (map by_name c.args.axes.now) sizes
    (λ k below. let inside : k < AXIS_LIMIT = omega (arith, c.loop-index.invariant.long) in
    c.loop-index.invariant.named h are k (omega arith) ∙ sym (get_or-map by_name c.args.axes.now k None None (omega arith)))
