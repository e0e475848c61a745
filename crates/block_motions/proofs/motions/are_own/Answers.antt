use Rattle.axis_sets.specs.declared.limits.TheConstants.{AXIS_LIMIT}
use Rattle.std.proofs.Common.{◌≡◌, ◌∙◌, Option, Bool, true, false, length, get_or, None, Some, is_some, sym, arith}
use Rattle.std.proofs.lemmas.List.{get_or_default}
use Rattle.axis_sets.specs.Sets.{has}
use Rattle.block_motions.specs.declared.goals.Goal.{Goal}
use Rattle.block_motions.specs.Motions as model
use Rattle.block_motions.proofs.Reaches.{own_not}
use Rattle.block_motions.proofs.motions.are_own.Goals as goal

not_own : (owned : Bool) (goal : Option Goal) → owned ≡ false → is_some goal ≡ true → model.is_own owned goal ≡ false
not_own owned None not some = absurd cc
not_own owned (Some goal) not some = not

pub returns-then-not-contains : goal.returns-then-not-contains
returns-then-not-contains c =
    let long : length c.args.goals.now ≡ AXIS_LIMIT = c.type_inv.goals in
    let here : get_or c.args.goals.now c.loop-index.index None ≡ c.index-goals-index.result =
    get_or_default c.args.goals.now c.loop-index.index None c.index-goals-index.result (omega arith) ∙ sym c.index-goals-index.is in
    let some : is_some (get_or c.args.goals.now c.loop-index.index None) ≡ true = cc in
    let not : has c.args.owned c.loop-index.index ≡ false = cc in
    sym (own_not c.args.owned c.args.goals.now c.loop-index.index c.loop-index-test.true (not_own _ _ not some))
