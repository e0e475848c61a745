-- Law. Two steps in either order.
use Rattle.std.specs.Prelude.{◌≡◌, ℕ, suc, ◌==◌, true, false, List, [], ◌∷◌, ◌++◌, length}
use Rattle.order_clocks.specs.Races.{IsRace}
use Rattle.schedule_laws.specs.EventPlaces.{HaveSameOrder}
use Rattle.sync_types.specs.Boards.{Board, is_running, first_board}
use Rattle.sync_types.specs.Starts.{IsSound}
use Rattle.sync_types.specs.Turns.{Move, after_moves, AreOfRunning}
use Rattle.sync_types.specs.Views.{StartView}
use Rattle.sync_types.specs.declared.runs.Race.{Race}

-- no race belongs to the step of this place
abbrev pub HasNoRaceAt : Board → List Move → ℕ → Type 0
HasNoRaceAt b moves i = (race : Race) → IsRace b moves i race → ⊥

-- nor to one of two steps after these
pub record HaveNoRace (b : Board) (ms : List Move) (one other : Move) : Type 0 where
  pub first : HasNoRaceAt b (ms ++ one ∷ other ∷ []) (length ms)
  pub second : HasNoRaceAt b (ms ++ one ∷ other ∷ []) (suc (length ms))

-- the two orders lead to the same board, with the same events in the same order, and the other shows no race either
pub record EitherWay (b : Board) (ms : List Move) (one other : Move) : Type 0 where
  pub board : after_moves b (ms ++ one ∷ other ∷ []) ≡ after_moves b (ms ++ other ∷ one ∷ [])
  pub order : HaveSameOrder b (ms ++ one ∷ other ∷ []) (ms ++ other ∷ one ∷ [])
  pub quiet : HaveNoRace b ms other one

-- two channels run after these steps of a run from this start, and a step of the one and then one of the other show no race
pub record MaySwap (start : StartView) (ms : List Move) (one other : Move) : Type 0 where
  pub sound : IsSound start
  pub run : AreOfRunning (first_board start) ms
  pub one_runs : is_running ((after_moves (first_board start) ms).state one.channel) ≡ true
  pub other_runs : is_running ((after_moves (first_board start) ms).state other.channel) ≡ true
  pub differ : (one.channel == other.channel) ≡ false
  pub quiet : HaveNoRace (first_board start) ms one other

abbrev pub StepsMaySwap : StartView → List Move → Move → Move → Type 0
StepsMaySwap start ms one other = MaySwap start ms one other → EitherWay (first_board start) ms one other
