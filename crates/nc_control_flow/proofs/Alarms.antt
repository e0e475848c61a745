-- The alarms of going on: 5 and 32.
use Rattle.std.proofs.Common.{◌≡◌, ◌⊎◌, ℕ, ◌-◌, ◌==◌, Bool, true, false, cond, List, ◌∷◌, length, Option, Some, None, Result, Ok, Err, inl, inr, refl}
use Rattle.nc_blocks.specs.declared.blocks.Way.{Way}
use Rattle.nc_blocks.specs.declared.blocks.Way.TheVariants.{Optional}
use Rattle.nc_blocks.specs.Statement.{BlockView, Statement, RepeatFrom, RepeatBlock}
use Rattle.nc_control_flow.specs.declared.flow.Move.{Move}
use Rattle.nc_control_flow.specs.declared.flow.Move.TheVariants.{Onward, Leap, Start}
use Rattle.nc_control_flow.specs.declared.repeats.Running.{Running}
use Rattle.nc_control_flow.specs.declared.repeats.Control.TheVariants.{Comes}
use Rattle.nc_control_flow.specs.Counted.{up_to_counting, next_going}
use Rattle.nc_control_flow.specs.Flow.{going_by_move, going_or_alarm, next_block}
use Rattle.nc_control_flow.specs.Moves.{OutcomeView, Plain, Truth, Jump, Again, Skipped, jump, range, single, repetition, move_of}
use Rattle.nc_control_flow.specs.Parts.{statement_at}
use Rattle.nc_control_flow.specs.Repetitions.{Going, going_after_passes}
use Rattle.nc_control_flow.specs.Targets.{target_of, first_of_range, single_block}

-- an alarm, where one comes, is 5 or 32
abbrev pub Alarms : {A : Type 0} → Result A ℕ → Type 0
Alarms (Ok x) = Unit {0}
Alarms (Err code) = (code ≡ 5) ⊎ (code ≡ 32)

jump_alarms : (way : Way) (o : Option ℕ) → Alarms (jump way o)
jump_alarms way (Some place) = tt
jump_alarms Optional None = tt
jump_alarms way None = inl refl

range_alarms : (pc times : ℕ) (o : Option ℕ) → Alarms (range pc times o)
range_alarms pc times None = inl refl
range_alarms pc times (Some first) = by_times (times == 0)
  where
    by_times : (b : Bool) → Alarms (cond b (Ok Onward) (Ok (Start (record { single = false; first = first; last = pc; own = pc; left = times - 1 }))))
    by_times true = tt
    by_times false = tt

single_alarms : (pc times : ℕ) (o : Option ℕ) → Alarms (single pc times o)
single_alarms pc times None = inl refl
single_alarms pc times (Some first) = by_times (times == 0)
  where
    by_times : (b : Bool) → Alarms (cond b (Ok Onward) (Ok (Start (record { single = true; first = first; last = first; own = pc; left = times - 1 }))))
    by_times true = tt
    by_times false = tt

repetition_alarms : (pc : ℕ) (blocks : List BlockView) (statement : Statement) (times : ℕ) → Alarms (repetition pc blocks statement times)
unfolding repetition
repetition_alarms pc blocks (RepeatFrom name count) times = range_alarms pc times (first_of_range name pc blocks)
repetition_alarms pc blocks (RepeatBlock name count) times = single_alarms pc times (single_block name pc blocks)
repetition_alarms pc blocks other times = tt

move_alarms : (pc : ℕ) (blocks : List BlockView) (statement : Statement) (outcome : OutcomeView) → Alarms (move_of pc blocks statement outcome)
unfolding move_of
move_alarms pc blocks statement Plain = tt
move_alarms pc blocks statement (Truth holds) = tt
move_alarms pc blocks statement (Jump way target) = jump_alarms way (target_of way target pc blocks)
move_alarms pc blocks statement (Again times) = repetition_alarms pc blocks statement times
move_alarms pc blocks statement Skipped = tt

move_going_alarms : (pc : ℕ) (running : List Running) (move : Move) → Alarms (going_by_move pc running move)
unfolding going_by_move
move_going_alarms pc running Onward = tt
move_going_alarms pc running (Leap place) = tt
move_going_alarms pc running (Start r) = by_room (length running == 16)
  where
    by_room : (b : Bool) → Alarms (cond b (Err 32) (Ok (going_after_passes (Comes r.first) (r ∷ running))))
    by_room true = inr refl
    by_room false = tt

gone_alarms : (pc : ℕ) (running : List Running) (r : Result Move ℕ) → Alarms r → Alarms (going_or_alarm pc running r)
gone_alarms pc running (Ok move) alarms = move_going_alarms pc running move
gone_alarms pc running (Err code) alarms = alarms

next_alarms : (pc : ℕ) (blocks : List BlockView) (running : List Running) (outcome : OutcomeView) → Alarms (next_block pc blocks running outcome)
unfolding next_block
next_alarms pc blocks running outcome = gone_alarms pc running (move_of pc blocks (statement_at pc blocks) outcome) (move_alarms pc blocks (statement_at pc blocks) outcome)

counted_alarms : (skip : Bool) (blocks : List BlockView) (r : Result Going ℕ) → Alarms r → Alarms (up_to_counting skip blocks r)
counted_alarms skip blocks (Ok going_by_move) alarms = tt
counted_alarms skip blocks (Err code) alarms = alarms

-- up to a block that counts too
pub going_alarms : (skip : Bool) (pc : ℕ) (blocks : List BlockView) (running : List Running) (outcome : OutcomeView) → Alarms (next_going skip pc blocks running outcome)
going_alarms skip pc blocks running outcome = counted_alarms skip blocks (next_block pc blocks running outcome) (next_alarms pc blocks running outcome)
