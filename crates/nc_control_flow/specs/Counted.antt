-- Meaning. Blocks that count: where those with `/` are passed over, the others.
use Rattle.std.specs.Prelude.{◌≡◌, ℕ, zero, suc, ◌+◌, ◌-◌, ◌*◌, ◌<◌, ◌&&◌, not, Bool, true, false, if◌then◌else◌, List, [], length, drop, slice_get, All, Option, Some, None, Result, Ok, Err}
use Rattle.std.specs.List.{list_any, prefix_len}
use Rattle.std.specs.Option.{option_map_or}
use Rattle.nc_blocks.specs.Statement.{BlockView}
use Rattle.nc_control_flow.specs.declared.repeats.Running.{Running}
use Rattle.nc_control_flow.specs.declared.flow.Move.{Move}
use Rattle.nc_control_flow.specs.declared.flow.Move.TheVariants.{Start}
use Rattle.nc_control_flow.specs.Flow.{next_block}
use Rattle.nc_control_flow.specs.Moves.{OutcomeView}
use Rattle.nc_control_flow.specs.Repetitions.{Going, times, after_block}

-- whether a block counts
abbrev pub counts : Bool → BlockView → Bool
counts skip block = not (skip && block.skip)

-- whether some block of a program counts
abbrev pub has_counting : Bool → List BlockView → Bool
has_counting skip blocks = list_any (counts skip) blocks

-- whether a block that counts stands at a place
abbrev pub counts_at : Bool → List BlockView → ℕ → Bool
counts_at skip blocks place = option_map_or (counts skip) (slice_get blocks place) false

-- whether it is a block with `/`
abbrev pub is_skipped : Option BlockView → Bool
is_skipped (Some block) = block.skip
is_skipped None = false

-- a block with `/` starts nothing, and control goes on after it
abbrev pub going_past_skipped : List BlockView → Going → Option Going
going_past_skipped blocks going = if is_skipped (slice_get blocks going.place) then Some (after_block going.place going.running) else None

abbrev pub after_over : Going → Option Going → (Going → Going) → Going
after_over going None onward = going
after_over going (Some next) onward = onward next

abbrev pub going_after : ℕ → List BlockView → Going → Going
going_after zero blocks going = going
going_after (suc n) blocks going = after_over going (going_past_skipped blocks going) (λ next. going_after n blocks next)

-- each block that is passed over takes one of the passes that are left, or leads one block on
abbrev pub skipped_bound : List BlockView → Going → ℕ
skipped_bound blocks going = times going.running * (length blocks + 1) + (length blocks - going.place)

-- control goes on to the next block that counts
unfoldable pub going_to_counted : Bool → List BlockView → Going → Going
going_to_counted false blocks going = going
going_to_counted true blocks going = going_after (skipped_bound blocks going) blocks going

-- the first block that counts, where no repetition runs
abbrev pub first_going : Bool → List BlockView → Going
first_going skip blocks = going_to_counted skip blocks (record { place = 0; running = [] })

-- the same, unless it alarms
abbrev pub up_to_counting : Bool → List BlockView → Result Going ℕ → Result Going ℕ
up_to_counting skip blocks (Ok going) = Ok (going_to_counted skip blocks going)
up_to_counting skip blocks (Err code) = Err code

-- where the block at a place goes on, up to a block that counts
abbrev pub next_going : Bool → ℕ → List BlockView → List Running → OutcomeView → Result Going ℕ
next_going skip pc blocks running outcome = up_to_counting skip blocks (next_block pc blocks running outcome)

-- ---- at once

-- the place of the nearest block without `/` at or after a place; without one that after the last block
unfoldable pub plain_from : List BlockView → ℕ → ℕ
plain_from blocks place = place + prefix_len (λ block. block.skip) (drop place blocks)

-- the place after the blocks that a repetition repeats
abbrev pub end_of : Running → ℕ
end_of r = if r.single then r.first + 1 else r.own

-- a repetition whose REPEAT or REPEATB has no `/`, nor one of the blocks that it repeats
pub record RepeatCounts (blocks : List BlockView) (r : Running) : Type 0 where
  pub own : is_skipped (slice_get blocks r.own) ≡ false
  pub some : plain_from blocks r.first < end_of r

-- where blocks with `/` are passed over, each repetition that runs repeats a block that counts
abbrev pub CountRepeats : Bool → List BlockView → List Running → Type 0
CountRepeats false blocks running = Unit {0}
CountRepeats true blocks running = All (RepeatCounts blocks) running

-- a repetition that the block at a place asks for is that block's, and repeats some blocks
abbrev pub MoveStarts : ℕ → Move → Type 0
MoveStarts pc (Start r) = (r.own ≡ pc) × (r.first < end_of r)
MoveStarts pc other = Unit {0}
