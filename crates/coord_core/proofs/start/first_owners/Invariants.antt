use Rattle.std.proofs.Common.{◌≡◌, ℕ, ℤ, Option, ◌<◌, ◌==◌, length, None, slice_index_or}
use Rattle.std.specs.Prelude.{find, pos}
use Rattle.std.specs.Option.{option_map_or}
use Rattle.axis_sets.specs.declared.limits.TheConstants.{AXIS_LIMIT}
use Rattle.coord_core.proofs.start.first_owners.Given as goal

abbrev pub invariant-loop-index : goal.invariant-loop-index
invariant-loop-index l =
    (length l.all ≡ AXIS_LIMIT)
    × ((k : ℕ) (d : ℕ × Option ℕ × ℤ) → k < l.index → slice_index_or l.all k d ≡ (k, option_map_or (λ line. line.1) (find (λ line. line.0 == k) l.lines) None, option_map_or (λ line. line.2) (find (λ line. line.0 == k) l.lines) (pos 0)))
