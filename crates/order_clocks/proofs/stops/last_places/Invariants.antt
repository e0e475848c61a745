use Rattle.axis_sets.specs.declared.limits.TheConstants.{CHANNEL_PLACES}
use Rattle.std.proofs.Common.{◌≡◌, ℕ, ◌<◌, ◌≤◌, map, length}
use Rattle.order_clocks.specs.Stops.{AreLastPlaces, channel_at}
use Rattle.order_clocks.proofs.stops.last_places.Given as goal

abbrev pub invariant-loop-i : goal.invariant-loop-i
invariant-loop-i l = AreLastPlaces (map (λ e. e.channel) l.entries) l.i l.last × ((length l.last ≡ CHANNEL_PLACES) × ((i : ℕ) → i < l.i → (1 ≤ channel_at (map (λ e. e.channel) l.entries) i) × (channel_at (map (λ e. e.channel) l.entries) i < CHANNEL_PLACES)))
