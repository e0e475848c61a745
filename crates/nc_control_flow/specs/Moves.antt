-- Meaning. What a block asks for, by what it says and its outcome.
use Rattle.std.specs.Prelude.{ℕ, ◌+◌, ◌-◌, ◌==◌, Bool, true, false, List, Option, Some, None, Result, Ok, Err, if◌then◌else◌}
use Rattle.nc_blocks.specs.declared.blocks.Way.{Way}
use Rattle.nc_blocks.specs.declared.blocks.Way.TheVariants.{Optional}
use Rattle.nc_blocks.specs.declared.blocks.Target.{Target}
use Rattle.nc_blocks.specs.Statement.{BlockView, Statement, If, Else, While, EndWhile, Until, EndLoop, For, EndFor, RepeatFrom, RepeatBlock}
use Rattle.nc_control_flow.specs.declared.flow.Outcome.{Outcome}
use Rattle.nc_control_flow.specs.declared.flow.Outcome.TheVariants as outcome
use Rattle.nc_control_flow.specs.declared.flow.Move.{Move}
use Rattle.nc_control_flow.specs.declared.flow.Move.TheVariants.{Onward, Leap, Start}
use Rattle.nc_control_flow.specs.Repetitions.{OwnFits}
use Rattle.nc_control_flow.specs.Structures.{closing, branching, opening}
use Rattle.nc_control_flow.specs.Targets.{target_of, first_of_range, single_block}
use Rattle.fault_codes.specs.declared.alarms.TheConstants.{JUMP_TARGET_MISSING}

-- what came of a block, with the target of a jump in it
pub data OutcomeView : Type 0 where
  Plain : OutcomeView
  Truth : Bool → OutcomeView
  Jump : Way → Target → OutcomeView
  Again : ℕ → OutcomeView
  Skipped : OutcomeView

abbrev pub outcome_view : Outcome → OutcomeView
outcome_view outcome.Plain = Plain
outcome_view (outcome.Truth holds) = Truth holds
outcome_view (outcome.Jump way target) = Jump way target.now
outcome_view (outcome.Again times) = Again times
outcome_view outcome.Skipped = Skipped

-- ELSE that is reached from above goes after ENDIF; ENDWHILE and ENDLOOP go to the beginning
unfoldable pub plain_move : ℕ → List BlockView → Statement → Move
plain_move pc blocks Else = Leap (closing pc blocks + 1)
plain_move pc blocks EndWhile = Leap (opening pc blocks)
plain_move pc blocks EndLoop = Leap (opening pc blocks)
plain_move pc blocks other = Onward

abbrev pub onward_if : Bool → ℕ → Move
onward_if true place = Onward
onward_if false place = Leap place

abbrev pub leap_if : Bool → ℕ → Move
leap_if true place = Leap place
leap_if false place = Onward

-- by a condition: of FOR that its bound is not passed, of ENDFOR that it goes round once more
unfoldable pub choice : ℕ → List BlockView → Statement → Bool → Move
choice pc blocks (If c) holds = onward_if holds (branching pc blocks + 1)
choice pc blocks (While c) holds = onward_if holds (closing pc blocks + 1)
choice pc blocks (For i a b) holds = onward_if holds (closing pc blocks + 1)
choice pc blocks (Until c) holds = onward_if holds (opening pc blocks + 1)
choice pc blocks EndFor holds = leap_if holds (opening pc blocks + 1)
choice pc blocks other holds = Onward

-- a missing target is an alarm, but not of GOTOC
abbrev pub jump : Way → Option ℕ → Result Move ℕ
jump way (Some place) = Ok (Leap place)
jump Optional None = Ok Onward
jump way None = Err JUMP_TARGET_MISSING

-- the range of a REPEAT from its label, which stands once in the text and is repeated so many times
abbrev pub range : ℕ → ℕ → Option ℕ → Result Move ℕ
range pc times None = Err JUMP_TARGET_MISSING
range pc times (Some first) =
    if times == 0 then Ok Onward else Ok (Start (record { single = false; first = first; last = pc; own = pc; left = times - 1 }))

-- the one block of a REPEATB
abbrev pub single : ℕ → ℕ → Option ℕ → Result Move ℕ
single pc times None = Err JUMP_TARGET_MISSING
single pc times (Some first) =
    if times == 0 then Ok Onward else Ok (Start (record { single = true; first = first; last = first; own = pc; left = times - 1 }))

unfoldable pub repetition : ℕ → List BlockView → Statement → ℕ → Result Move ℕ
repetition pc blocks (RepeatFrom name count) times = range pc times (first_of_range name pc blocks)
repetition pc blocks (RepeatBlock name count) times = single pc times (single_block name pc blocks)
repetition pc blocks other times = Ok Onward

unfoldable pub move_of : ℕ → List BlockView → Statement → OutcomeView → Result Move ℕ
move_of pc blocks statement Plain = Ok (plain_move pc blocks statement)
move_of pc blocks statement (Truth holds) = Ok (choice pc blocks statement holds)
move_of pc blocks statement (Jump way target) = jump way (target_of way target pc blocks)
move_of pc blocks statement (Again times) = repetition pc blocks statement times
move_of pc blocks statement Skipped = Ok Onward

-- a repetition that is asked for can run
abbrev pub MoveFits : Move → Type 0
MoveFits (Start r) = OwnFits r
MoveFits other = Unit {0}
