-- What is so of each board of a run: a zone goes with the axes that carry it, and nobody takes axes from channels that stand.
use Rattle.std.proofs.Common.{ℕ, zero, suc, List, [], ◌∷◌}
use Rattle.board_laws.proofs.Zones.{zones_first, zones_goes, zones_part, zones_step, zones_taking, zones_takings}
use Rattle.board_laws.specs.Zones.{Zones}
use Rattle.order_clocks.specs.Happenings.{board_at}
use Rattle.sync_types.proofs.FreeTakings.{NobodyRobs, first_robs_nobody, goes_rob_nobody, own_part_robs_nobody, step_robs_nobody, taking_robs_nobody, takings_rob_nobody}
use Rattle.sync_types.specs.BoardActions.{after_own_part}
use Rattle.sync_types.specs.Boards.{Board, first_board}
use Rattle.sync_types.specs.GoingOn.{after_goes, after_taking, takings}
use Rattle.sync_types.specs.Starts.{IsSound}
use Rattle.sync_types.specs.Turns.{Move, after_step}
use Rattle.sync_types.specs.Views.{StartView}
use Rattle.sync_types.specs.declared.Step.{Step}

pub record IsRunBoard (b : Board) : Type 0 where
  pub zones : Zones b
  pub robs_nobody : NobodyRobs b

pub run_board_first : (start : StartView) → IsSound start → IsRunBoard (first_board start)
run_board_first start sound = record { zones = zones_first start sound; robs_nobody = first_robs_nobody start }

pub run_board_part : (b : Board) (c : ℕ) (step : Step) → IsRunBoard b → IsRunBoard (after_own_part b c step)
run_board_part b c step is = record { zones = zones_part b c step is.zones; robs_nobody = own_part_robs_nobody b c step is.robs_nobody }

pub run_board_goes : (b : Board) → IsRunBoard b → IsRunBoard (after_goes b)
run_board_goes b is = record { zones = zones_goes b is.zones; robs_nobody = goes_rob_nobody b is.robs_nobody }

pub run_board_taking : (b : Board) (c : ℕ) → IsRunBoard b → IsRunBoard (after_taking b c)
run_board_taking b c is = record { zones = zones_taking b c is.zones; robs_nobody = taking_robs_nobody b c is.robs_nobody }

pub run_board_takings : (n : ℕ) (b : Board) → IsRunBoard b → IsRunBoard (takings n b).board
run_board_takings n b is = record { zones = zones_takings n b is.zones; robs_nobody = takings_rob_nobody n b is.robs_nobody }

pub run_board_step : (b : Board) (c : ℕ) (step : Step) → IsRunBoard b → IsRunBoard (after_step b c step)
run_board_step b c step is = record { zones = zones_step b c step is.zones; robs_nobody = step_robs_nobody b c step is.robs_nobody }

pub run_board_at : (b : Board) (ms : List Move) (i : ℕ) → IsRunBoard b → IsRunBoard (board_at b ms i)
run_board_at b [] i is = is
run_board_at b (m ∷ ms) zero is = is
run_board_at b (m ∷ ms) (suc i) is = run_board_at (after_step b m.channel m.step) ms i (run_board_step b m.channel m.step is)
