use Rattle.axis_sets.specs.declared.limits.TheConstants.{CHANNEL_PLACES}
use Rattle.std.proofs.Common.{◌≡◌, ℕ, ◌<◌, ◌≤◌, true, List, length}
use Rattle.std.specs.Prelude.{slice_index}
use Rattle.order_clocks.specs.Partners.{PairsAllPartners, AreAllLinked}
use Rattle.order_clocks.proofs.groups.groups_of.Given as goal
use Rattle.sync_types.specs.Events.{Pair}
use Rattle.step_deeds.specs.Holds.{are_partners}

abbrev pub invariant-loop-a : goal.invariant-loop-a
invariant-loop-a l = record {
  size : length l.group ≡ CHANNEL_PLACES;
  joined : (e f : ℕ) → 1 ≤ e → e < l.a → 1 ≤ f → f < CHANNEL_PLACES → are_partners l.goes e f ≡ true → slice_index l.group e ≡ slice_index l.group f;
  linked : (ps : List Pair) → PairsAllPartners ps l.goes → AreAllLinked ps l.group;
}
