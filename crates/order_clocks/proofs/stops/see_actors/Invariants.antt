use Rattle.axis_sets.specs.declared.limits.TheConstants.{CHANNEL_PLACES}
use Rattle.std.proofs.Common.{◌≡◌, ℕ, ◌<◌, ◌≤◌, map}
use Rattle.order_clocks.specs.Stops.{channel_at}
use Rattle.order_clocks.proofs.stops.see_actors.Given as goal

abbrev pub invariant-loop-i : goal.invariant-loop-i
invariant-loop-i l = (i : ℕ) → i < l.i → (1 ≤ channel_at (map (λ e. e.channel) l.entries) i) × (channel_at (map (λ e. e.channel) l.entries) i < CHANNEL_PLACES)
