use Rattle.axis_sets.specs.declared.limits.TheConstants.{AXIS_LIMIT}
use Rattle.std.proofs.Common.{◌≡◌, ◌∙◌, false, length, get_or, None, sym, arith}
use Rattle.std.proofs.lemmas.List.{get_or_default}
use Rattle.axis_sets.specs.Sets.{has}
use Rattle.axis_sets.specs.Positions.{stands}
use Rattle.block_motions.specs.Motions as model
use Rattle.block_motions.proofs.Reaches.{reach_not}
use Rattle.block_motions.proofs.motions.are_in_reach.Goals as goal

pub returns-then-not-is_in_reach : goal.returns-then-not-is_in_reach
returns-then-not-is_in_reach c =
    let long : length c.args.goals.now ≡ AXIS_LIMIT = c.type_inv.goals in
    let here : get_or c.args.goals.now c.loop-index.index None ≡ c.index-goals-index.result =
    get_or_default c.args.goals.now c.loop-index.index None c.index-goals-index.result (omega arith) ∙ sym c.index-goals-index.is in
    let fails : model.is_in_reach (has c.args.owned c.loop-index.index) (stands c.args.at.now c.loop-index.index) (get_or c.args.goals.now c.loop-index.index None) ≡ false =
    cc in
    sym (reach_not c.args.owned (stands c.args.at.now) c.args.goals.now c.loop-index.index c.loop-index-test.true fails)
