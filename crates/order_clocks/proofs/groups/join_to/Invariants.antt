use Rattle.axis_sets.specs.declared.limits.TheConstants.{CHANNEL_PLACES}
use Rattle.std.proofs.Common.{◌≡◌, ℕ, ◌<◌, ◌≤◌, true, List, length}
use Rattle.std.specs.Prelude.{slice_index}
use Rattle.order_clocks.specs.Partners.{PairsAllPartners, AreAllLinked}
use Rattle.order_clocks.proofs.groups.join_to.Given as goal
use Rattle.sync_types.specs.Events.{Pair}
use Rattle.step_deeds.specs.Holds.{are_partners}

abbrev pub invariant-loop-b : goal.invariant-loop-b
invariant-loop-b l = record {
  size : length l.group ≡ CHANNEL_PLACES;
  kept : (c d : ℕ) → c < CHANNEL_PLACES → d < CHANNEL_PLACES → slice_index l.initial.group c ≡ slice_index l.initial.group d → slice_index l.group c ≡ slice_index l.group d;
  joined : (e : ℕ) → 1 ≤ e → e < l.b → are_partners l.goes l.a e ≡ true → slice_index l.group l.a ≡ slice_index l.group e;
  linked : (ps : List Pair) → PairsAllPartners ps l.goes → AreAllLinked ps l.initial.group → AreAllLinked ps l.group;
}
