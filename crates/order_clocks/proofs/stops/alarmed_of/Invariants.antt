use Rattle.axis_sets.specs.declared.limits.TheConstants.{CHANNEL_PLACES}
use Rattle.std.proofs.Common.{◌≡◌, ℕ, ◌-◌, ◌<◌, ◌≤◌, Bool, true, drop, filter, length, map}
use Rattle.std.specs.List.{range_with_len}
use Rattle.axis_sets.specs.Sets.{has}
use Rattle.order_clocks.specs.Stops.{alarms_in, are_acted}
use Rattle.sync_types.specs.Boards.{channel_numbers}
use Rattle.order_clocks.proofs.stops.alarmed_of.Given as goal

abbrev pub invariant-loop-c : goal.invariant-loop-c
invariant-loop-c l = record {
  size : length l.alarmed ≡ CHANNEL_PLACES;
  from : 1 ≤ l.c;
  within : l.next ≤ length l.ends;
  rest : (alarmed : ℕ → Bool) → alarms_in l.ends ≡ map alarmed (filter (are_acted l.last) channel_numbers) → alarms_in (drop l.next l.ends) ≡ map alarmed (filter (are_acted l.last) (range_with_len l.c (CHANNEL_PLACES - l.c)));
  done : (alarmed : ℕ → Bool) → alarms_in l.ends ≡ map alarmed (filter (are_acted l.last) channel_numbers) → (d : ℕ) → 1 ≤ d → d < l.c → are_acted l.last d ≡ true → has l.alarmed d ≡ alarmed d;
}
