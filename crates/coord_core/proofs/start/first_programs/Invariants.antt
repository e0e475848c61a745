use Rattle.std.proofs.Common.{◌≡◌, ℕ, ◌<◌, ◌≤◌, ◌==◌, length, None, slice_index_or}
use Rattle.std.specs.Prelude.{find}
use Rattle.std.specs.Option.{option_map_or}
use Rattle.axis_sets.specs.declared.limits.TheConstants.{CHANNEL_PLACES}
use Rattle.coord_core.proofs.start.first_programs.Given as goal

abbrev pub invariant-loop-number : goal.invariant-loop-number
invariant-loop-number l =
    (length l.programs ≡ CHANNEL_PLACES)
    × ((c : ℕ) → 1 ≤ c → c < l.number → slice_index_or l.programs c None ≡ option_map_or (λ line. line.1) (find (λ line. line.0 == c) l.lines) None)
    × (slice_index_or l.programs 0 None ≡ None)
