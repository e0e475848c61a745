-- Meaning. The next block.
use Rattle.std.specs.Prelude.{◌≡◌, ℕ, ◌==◌, nat_lt, List, ◌∷◌, length, filter, Result, Ok, Err, if◌then◌else◌}
use Rattle.nc_blocks.specs.Statement.{BlockView}
use Rattle.nc_control_flow.specs.declared.flow.Move.{Move}
use Rattle.nc_control_flow.specs.declared.flow.Move.TheVariants.{Onward, Leap, Start}
use Rattle.nc_control_flow.specs.declared.flow.Next.{Next}
use Rattle.nc_control_flow.specs.declared.flow.Next.TheVariants.{At, Past}
use Rattle.nc_control_flow.specs.declared.repeats.Running.{Running}
use Rattle.nc_control_flow.specs.declared.repeats.Control.TheVariants.{Done, Comes}
use Rattle.nc_control_flow.specs.Parts.{statement_at}
use Rattle.nc_control_flow.specs.Repetitions.{Going, is_within, going_after_passes}
use Rattle.nc_control_flow.specs.Moves.{OutcomeView, move_of}
use Rattle.fault_codes.specs.declared.alarms.TheConstants.{TOO_MANY_REPETITIONS}
use Rattle.nc_control_flow.specs.declared.limits.TheConstants.{REPETITION_LIMIT}

-- a leap ends the repetitions whose blocks it leaves; one too many is an alarm
unfoldable pub going_by_move : ℕ → List Running → Move → Result Going ℕ
going_by_move pc running Onward = Ok (going_after_passes (Done pc) running)
going_by_move pc running (Leap place) = Ok (going_after_passes (Comes place) (filter (is_within place) running))
going_by_move pc running (Start r) = if length running == REPETITION_LIMIT then Err TOO_MANY_REPETITIONS else Ok (going_after_passes (Comes r.first) (r ∷ running))

abbrev pub going_or_alarm : ℕ → List Running → Result Move ℕ → Result Going ℕ
going_or_alarm pc running (Ok move) = going_by_move pc running move
going_or_alarm pc running (Err code) = Err code

-- where the block at a place goes on, with this outcome and while these repetitions run
unfoldable pub next_block : ℕ → List BlockView → List Running → OutcomeView → Result Going ℕ
next_block pc blocks running outcome = going_or_alarm pc running (move_of pc blocks (statement_at pc blocks) outcome)

abbrev pub next_at : List BlockView → ℕ → Next
next_at blocks place = if nat_lt place (length blocks) then At place else Past

-- after a fault the repetitions are unchanged
abbrev pub Leads : List BlockView → Result Going ℕ → Result Next ℕ → List Running → List Running → Type 0
Leads blocks (Ok going_by_move) result old new = (result ≡ Ok (next_at blocks going_by_move.place)) × (new ≡ going_by_move.running)
Leads blocks (Err code) result old new = (result ≡ Err code) × (new ≡ old)
