-- Steps. A zone goes with the axes that carry it.
use Rattle.std.specs.Prelude.{◌≡◌, ℕ, true, None}
use Rattle.axis_sets.specs.Sets.{has, members_of}
use Rattle.sync_types.specs.Boards.{Board, among, owner_of}
use Rattle.sync_types.specs.GoingOn.{first_of, axes_asked}
use Rattle.sync_types.specs.Starts.{axes_of_zone, first_holder}

-- Its holder owns all its axes, or nobody holds it and all are free; where it has none it keeps its first holder. Who waits for
-- one axis of a zone waits for all.
pub record Zones (b : Board) : Type 0 where
  pub owner : (z x : ℕ) → has (axes_of_zone b.start z) x ≡ true → owner_of (b.axis x) ≡ b.holder z
  pub bare : (z : ℕ) → first_of (members_of (axes_of_zone b.start z)) ≡ None → b.holder z ≡ first_holder b.start z
  pub asks : (c z x y : ℕ) → has (axes_of_zone b.start z) x ≡ true → has (axes_of_zone b.start z) y ≡ true
      → among (axes_asked (b.state c)) x ≡ among (axes_asked (b.state c)) y
