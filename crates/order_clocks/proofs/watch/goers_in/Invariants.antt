use Rattle.axis_sets.specs.declared.limits.TheConstants.{CHANNEL_PLACES}
use Rattle.std.proofs.Common.{◌≡◌, ℕ, ◌==◌, false, take, length}
use Rattle.std.specs.List.{list_any}
use Rattle.axis_sets.specs.Sets.{has}
use Rattle.order_clocks.proofs.watch.goers_in.Given as goal

-- those of the first so many
abbrev pub invariant-loop-go : goal.invariant-loop-go
invariant-loop-go l = ((c : ℕ) → has l.goers c ≡ list_any (λ go. go.channel == c) (take l.go-index l.goes)) × ((has l.goers 0 ≡ false) × (length l.goers ≡ CHANNEL_PLACES))
