-- Where control alarms after a block, the block jumps, repeats or calls.
use Rattle.std.proofs.Common.{◌≡◌, ℕ, ◌+◌, Bool, true, false, List, Result, Ok, Err, refl}
use Rattle.block_effects.specs.Effects.{Course, Goes, Ends, Calls, searches}
use Rattle.nc_blocks.specs.Statement.{BlockView, Statement, If, Else, While, EndWhile, Until, EndLoop, For, EndFor}
use Rattle.nc_control_flow.specs.declared.repeats.Running.{Running}
use Rattle.nc_control_flow.specs.Counted.{up_to_counting}
use Rattle.nc_control_flow.specs.Flow.{going_by_move, next_block}
use Rattle.nc_control_flow.specs.Moves.{OutcomeView, Plain, Truth, Jump, Again, Skipped, onward_if, leap_if, plain_move, choice, move_of}
use Rattle.nc_control_flow.specs.Parts.{statement_at}
use Rattle.nc_control_flow.specs.Repetitions.{Going}
use Rattle.nc_control_flow.specs.Structures.{closing, branching, opening}
use Rattle.nc_expressions.specs.Value.{◌>>=◌}
use Rattle.job_types.specs.Job.{ProgramView}
use Rattle.channel_machine.specs.declared.levels.Levels.{Levels}
use Rattle.channel_machine.specs.Levels.{program_blocks, gone_on, levels_from, levels_after}

-- no alarm comes
abbrev Comes : Result Going ℕ → Type 0
Comes (Ok to) = Unit {0}
Comes (Err code) = ⊥

module _ (pc : ℕ) (blocks : List BlockView) (running : List Running) where
  onward_comes : (holds : Bool) (place : ℕ) → Comes (going_by_move pc running (onward_if holds place))
  unfolding going_by_move
  onward_comes true place = tt
  onward_comes false place = tt

  leap_comes : (holds : Bool) (place : ℕ) → Comes (going_by_move pc running (leap_if holds place))
  unfolding going_by_move
  leap_comes true place = tt
  leap_comes false place = tt

  plain_comes : (statement : Statement) → Comes (going_by_move pc running (plain_move pc blocks statement))
  unfolding going_by_move plain_move
  plain_comes Else = tt
  plain_comes EndWhile = tt
  plain_comes EndLoop = tt
  plain_comes other = tt

  choice_comes : (statement : Statement) (holds : Bool) → Comes (going_by_move pc running (choice pc blocks statement holds))
  unfolding going_by_move choice
  choice_comes (If c) holds = onward_comes holds (branching pc blocks + 1)
  choice_comes (While c) holds = onward_comes holds (closing pc blocks + 1)
  choice_comes (For i a b) holds = onward_comes holds (closing pc blocks + 1)
  choice_comes (Until c) holds = onward_comes holds (opening pc blocks + 1)
  choice_comes EndFor holds = leap_comes holds (opening pc blocks + 1)
  choice_comes other holds = tt

-- without a jump or a repetition none comes
abbrev is_search : OutcomeView → Bool
is_search outcome = searches (Goes outcome)

next_comes : (pc : ℕ) (blocks : List BlockView) (running : List Running) (outcome : OutcomeView) → is_search outcome ≡ false → Comes (next_block pc blocks running outcome)
unfolding next_block move_of going_by_move
next_comes pc blocks running Plain not = plain_comes pc blocks running (statement_at pc blocks)
next_comes pc blocks running (Truth holds) not = choice_comes pc blocks running (statement_at pc blocks) holds
next_comes pc blocks running (Jump way target) not = absurd cc
next_comes pc blocks running (Again times) not = absurd cc
next_comes pc blocks running Skipped not = tt

module _ (skip : Bool) (programs : List (List ℕ × ProgramView)) (levels : Levels) where
  alarms_not : (r : Result Going ℕ) (code : ℕ) → Comes r
      → (up_to_counting skip (program_blocks programs levels.here.program) r >>= λ to. Ok (levels_from skip programs (gone_on levels.here to) levels.returns)) ≡ Err code → ⊥
  alarms_not (Ok to) code comes is = absurd cc
  alarms_not (Err other) code comes is = comes

  -- an alarm of where control comes is one of a search
  pub alarms_by_search : (course : Course) (code : ℕ) → levels_after skip programs levels course ≡ Err code → searches course ≡ true
  unfolding levels_after
  alarms_by_search (Goes outcome) code is = by_search (is_search outcome) refl
    where
      by_search : (b : Bool) → is_search outcome ≡ b → b ≡ true
      by_search true e = refl
      by_search false e =
          absurd (alarms_not (next_block levels.here.pc (program_blocks programs levels.here.program) levels.here.repeats outcome) code
          (next_comes levels.here.pc (program_blocks programs levels.here.program) levels.here.repeats outcome e) is)
  alarms_by_search Ends code is = absurd cc
  alarms_by_search (Calls number passes) code is = refl
