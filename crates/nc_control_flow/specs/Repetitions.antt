-- Meaning. The repetitions that run, the innermost first.
use Rattle.std.specs.Prelude.{◌≡◌, ℕ, zero, suc, ◌+◌, ◌-◌, ◌^◌, ◌<◌, ◌==◌, ◌&&◌, not, nat_le, Bool, List, sum_by, position, slice_get, slice_set, remove, Option, Some, None, option_map, option_and_then, if◌then◌else◌}
use Rattle.std.specs.Option.{option_or}
use Rattle.nc_control_flow.specs.declared.repeats.Running.{Running}
use Rattle.nc_control_flow.specs.declared.repeats.Control.{Control}
use Rattle.nc_control_flow.specs.declared.repeats.Control.TheVariants.{Done, Comes}

-- where control stands, and what runs
pub record Level : Type 0 where
  pub control : Control
  pub running : List Running

-- the place of the next block, and what runs then
pub record Going : Type 0 where
  pub place : ℕ
  pub running : List Running

abbrev pub is_within : ℕ → Running → Bool
is_within place r = nat_le r.first place && nat_le place r.last

-- whether a pass of a repetition is over: one of REPEAT where control comes to its own block, one of REPEATB where its block is done
abbrev pub is_over : Control → Running → Bool
is_over (Comes pc) r = not r.single && (r.own == pc)
is_over (Done pc) r = r.single && (r.first == pc)

-- its blocks begin once more, or it ends and its own block is done
abbrev pub turned_at : List Running → ℕ → Running → Level
turned_at running at r =
    if r.left == 0
    then record { control = Done r.own; running = remove running at }
    else record { control = Comes r.first; running = slice_set running at (record r { left = r.left - 1 }) }

-- what becomes of the innermost repetition whose pass is over, if there is one
abbrev pub turn : Control → List Running → Option Level
turn control running =
    option_and_then (λ at. option_map (turned_at running at) (slice_get running at)) (position (is_over control) running)

-- one step of control between two blocks
unfoldable pub hop : Control → List Running → Option Level
hop (Comes pc) running = turn (Comes pc) running
hop (Done pc) running = option_or (turn (Done pc) running) (turn (Comes (pc + 1)) running)

abbrev pub place_past : Control → ℕ
place_past (Comes pc) = pc
place_past (Done pc) = pc + 1

abbrev pub after_hop : Control → List Running → Option Level → (Control → List Running → Going) → Going
after_hop control running None onward = record { place = place_past control; running = running }
after_hop control running (Some level) onward = onward level.control level.running

abbrev pub hops : ℕ → Control → List Running → Going
hops zero control running = record { place = place_past control; running = running }
hops (suc n) control running = after_hop control running (hop control running) (λ c r. hops n c r)

-- how many passes are left to begin or to end: each step takes one
abbrev pub times : List Running → ℕ
times running = sum_by (λ r. r.left + 1) running

-- control goes on until no pass is over
unfoldable pub going_after_passes : Control → List Running → Going
going_after_passes control running = hops (times running) control running

abbrev pub TurnsTo : Option Level → Option Control → List Running → List Running → Type 0
TurnsTo (Some level) result old new = (result ≡ Some level.control) × (new ≡ level.running)
TurnsTo None result old new = (result ≡ None) × (new ≡ old)

-- the place after a block is a number of 32 bits too
abbrev pub Fits : Control → Type 0
Fits (Comes pc) = Unit {0}
Fits (Done pc) = pc + 1 < 2 ^ 32

abbrev pub OwnFits : Running → Type 0
OwnFits r = r.own + 1 < 2 ^ 32

-- where control goes on after a block that has done all that it asks for
abbrev pub after_block : ℕ → List Running → Going
after_block pc running = going_after_passes (Done pc) running
