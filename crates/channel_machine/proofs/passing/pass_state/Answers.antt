use Rattle.std.proofs.Common.{◌∙◌, List, ap, subst}
use Rattle.std.specs.List.{list_any}
use Rattle.channel_machine.specs.Kept.{Advances, state_view}
use Rattle.sync_types.specs.declared.Item.{Item}
use Rattle.sync_types.specs.Items.{is_motion}
use Rattle.channel_machine.proofs.PassedBlocks.{passes}
use Rattle.channel_machine.proofs.passing.pass_state.Goals as goal

pub returns-clause-told : goal.returns-clause-told
returns-clause-told c s c' set keeps =
    passes s c' (state_view c.args.state.now) (state_view c.advance.new.state) c.advance.new.items.items c.advance.new.halt c.is_other-executed.result c.has_motion-moves.result c.has_ended-ends.result keeps
    (subst (λ (xs : List Item). Advances s c' xs c.advance.new.halt c.advance.new.items.items (state_view c.advance.new.state)) c.new-items.ensures.items (c.in_ok-advance.ensures.told s c' set keeps))
    c.is_other-executed.ensures (c.has_motion-moves.ensures ∙ ap (list_any is_motion) c.as_slice.ensures.value) c.has_ended-ends.ensures
