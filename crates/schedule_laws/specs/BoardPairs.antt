-- Meaning. What a contract sees of two boards that have made two steps in either order.
use Rattle.std.specs.Prelude.{◌≡◌, ℕ, suc, ◌≤◌}
use Rattle.coord_core.specs.Boards.{BoardView, replayed, HaveSameEntries}
use Rattle.order_clocks.specs.Clocked.{moves_in}
use Rattle.schedule_laws.specs.EventPlaces.{HaveSameOrder}
use Rattle.schedule_laws.specs.Swaps.{HasNoRaceAt}
use Rattle.sync_types.specs.Boards.{first_board}

-- no race belongs to the step of this place, nor to the next
pub record ShowsNoRace (view : BoardView) (place : ℕ) : Type 0 where
  pub first : HasNoRaceAt (first_board view.start) (moves_in view.entries) place
  pub second : HasNoRaceAt (first_board view.start) (moves_in view.entries) (suc place)

-- the boards are the same, with the same events in the same order, and the other shows no race either
pub record TellTheSame (one other : BoardView) (place : ℕ) : Type 0 where
  pub board : replayed one ≡ replayed other
  pub order : HaveSameOrder (first_board one.start) (moves_in one.entries) (moves_in other.entries)
  pub quiet : ShowsNoRace other place

-- where the one shows no race in its last two steps, which are those from this place on
abbrev pub TellTheSameWithoutRaces : BoardView → BoardView → ℕ → Type 0
TellTheSameWithoutRaces one other place = ShowsNoRace one place → TellTheSame one other place

-- both have the entries that they had; the one has no less room, and the other is as it was
pub record BothStay (one one_old other other_old : BoardView) : Type 0 where
  pub first : HaveSameEntries one one_old
  pub room : one_old.spare ≤ one.spare
  pub second : other ≡ other_old
