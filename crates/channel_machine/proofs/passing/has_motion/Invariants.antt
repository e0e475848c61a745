use Rattle.std.proofs.Common.{◌≡◌, drop}
use Rattle.std.specs.List.{list_any}
use Rattle.sync_types.specs.Items.{is_motion}
use Rattle.channel_machine.proofs.passing.has_motion.Given as goal

abbrev pub invariant-loop-item : goal.invariant-loop-item
invariant-loop-item l = list_any is_motion (drop l.item-index l.items) ≡ list_any is_motion l.items
