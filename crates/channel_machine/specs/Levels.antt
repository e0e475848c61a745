-- Meaning. Where control stands on the levels of calls.
use Rattle.std.specs.Prelude.{◌≡◌, ℕ, zero, suc, nat_lt, true, false, Bool, if◌then◌else◌, List, [], ◌∷◌, length, map, slice_get, All, Option, Some, None, Result, Ok, Err}
use Rattle.std.specs.Option.{option_map_or}
use Rattle.block_effects.specs.Effects.{Course, Goes, Ends, Calls}
use Rattle.nc_blocks.specs.declared.blocks.Block.{Block}
use Rattle.nc_blocks.specs.Statement.{BlockView}
use Rattle.nc_control_flow.specs.declared.flow.Next.{Next}
use Rattle.nc_control_flow.specs.declared.flow.Next.TheVariants.{At, Past}
use Rattle.nc_control_flow.specs.Moves.{OutcomeView}
use Rattle.nc_control_flow.specs.Counted.{going_to_counted, counts_at, has_counting, first_going, next_going, CountRepeats}
use Rattle.nc_control_flow.specs.Nested.{blocks_of}
use Rattle.nc_control_flow.specs.Repetitions.{Going, after_block}
use Rattle.nc_expressions.specs.Value.{◌>>=◌}
use Rattle.nc_subprograms.specs.declared.Place.{Place}
use Rattle.nc_subprograms.specs.Stack.{stack_after_call}
use Rattle.job_types.specs.Job.{ProgramView, block_entry}
use Rattle.channel_machine.specs.declared.levels.Levels.{Levels}

-- the lines of a program by its number, and its blocks
abbrev pub lines_of : List (List ℕ × ProgramView) → ℕ → List (ℕ × BlockView)
lines_of programs number = option_map_or (λ p. p.1.blocks) (slice_get programs number) []

abbrev pub program_blocks : List (List ℕ × ProgramView) → ℕ → List BlockView
program_blocks programs number = blocks_of (lines_of programs number)

-- a level goes on there
abbrev pub gone_on : Place → Going → Place
gone_on place going = record place { pc = going.place; repeats = going.running }

-- a program at its first block that counts, with so many passes still to begin after this one
abbrev pub first_place : Bool → List (List ℕ × ProgramView) → ℕ → ℕ → Place
first_place skip programs number passes = gone_on (record { program = number; pc = 0; passes = passes; repeats = [] }) (first_going skip (program_blocks programs number))

-- a call is done, and control goes on after it
abbrev pub after_call : Bool → List (List ℕ × ProgramView) → Place → Place
after_call skip programs place = gone_on place (going_to_counted skip (program_blocks programs place.program) (after_block place.pc place.repeats))

-- whether a block stands there
abbrev pub has_block : List (List ℕ × ProgramView) → Place → Bool
has_block programs place = nat_lt place.pc (length (lines_of programs place.program))

-- at a level, where a block stands there
abbrev pub levels_at : List (List ℕ × ProgramView) → Place → List Place → Option Levels → Option Levels
levels_at programs here returns past = if has_block programs here then Some (record { here = here; returns = returns }) else past

-- the next of so many passes that a program has still to begin; one of a program in which no block counts is done at once
abbrev pub next_pass : Bool → List (List ℕ × ProgramView) → ℕ → ℕ → Option Place
next_pass skip programs number zero = None
next_pass skip programs number (suc passes) = if has_counting skip (program_blocks programs number) then Some (first_place skip programs number passes) else None

-- at the next pass, if there is one
abbrev pub begun_or : Option Place → List Place → Option Levels → Option Levels
begun_or (Some here) returns past = Some (record { here = here; returns = returns })
begun_or None returns past = past

-- where control is past the end of a program with so many passes still to begin: at the next pass; or else after the call on the level below; and past the end of the main program nowhere
abbrev pub past_end : Bool → List (List ℕ × ProgramView) → ℕ → ℕ → List Place → Option Levels
past_end skip programs number passes [] = begun_or (next_pass skip programs number passes) [] None
past_end skip programs number passes (place ∷ places) =
    begun_or (next_pass skip programs number passes) (place ∷ places)
    (levels_at programs (after_call skip programs place) places (past_end skip programs place.program place.passes places))

-- where control is when the level that runs has come so far
abbrev pub levels_from : Bool → List (List ℕ × ProgramView) → Place → List Place → Option Levels
levels_from skip programs here returns = levels_at programs here returns (past_end skip programs here.program here.passes returns)

-- where control is after a block that goes on in its program by this outcome, or an alarm
abbrev pub going_on : Bool → List (List ℕ × ProgramView) → Levels → OutcomeView → Result (Option Levels) ℕ
going_on skip programs levels outcome =
    next_going skip levels.here.pc (program_blocks programs levels.here.program) levels.here.repeats outcome >>= λ going.
    Ok (levels_from skip programs (gone_on levels.here going) levels.returns)

-- where control is after a call of a program so many times: all its passes are still to begin; alarm 6
abbrev pub levels_in_call : Bool → List (List ℕ × ProgramView) → Levels → ℕ → ℕ → Result (Option Levels) ℕ
levels_in_call skip programs levels number passes = stack_after_call levels.returns levels.here >>= λ returns. Ok (past_end skip programs number passes returns)

-- where control is after a block with this course: by its outcome in its program, past the end of its program, or in the program that it calls; whether blocks with `/` are passed over comes first
unfoldable pub levels_after : Bool → List (List ℕ × ProgramView) → Levels → Course → Result (Option Levels) ℕ
levels_after skip programs levels (Goes outcome) = going_on skip programs levels outcome
levels_after skip programs levels Ends = Ok (past_end skip programs levels.here.program levels.here.passes levels.returns)
levels_after skip programs levels (Calls number passes) = levels_in_call skip programs levels number passes

-- a level stands at a block that counts
pub record Stands (skip : Bool) (programs : List (List ℕ × ProgramView)) (place : Place) : Type 0 where
  pub counts : counts_at skip (program_blocks programs place.program) place.pc ≡ true
  pub repeat : CountRepeats skip (program_blocks programs place.program) place.repeats

-- each level does
pub record LevelsFit (skip : Bool) (programs : List (List ℕ × ProgramView)) (levels : Levels) : Type 0 where
  pub here : Stands skip programs levels.here
  pub returns : All (Stands skip programs) levels.returns

-- ---- answers

-- control comes there, or nowhere
abbrev pub came : Bool → Levels → Option Levels
came true there = Some there
came false there = None

-- the same, or an alarm
abbrev pub came_ok : Result Bool ℕ → Levels → Result (Option Levels) ℕ
came_ok (Ok comes) there = Ok (came comes there)
came_ok (Err code) there = Err code

-- where control is after a block with this course, from where it is; nowhere where it is nowhere
abbrev pub followed_from : Bool → List (List ℕ × ProgramView) → Option Levels → Course → Result (Option Levels) ℕ
followed_from skip programs None course = Ok None
followed_from skip programs (Some levels) course = levels_after skip programs levels course

-- the program of a number, or none where there is no such program
abbrev pub IsFlowOf : List (List ℕ × ProgramView) → ℕ → Option (List (ℕ × Block)) → Type 0
IsFlowOf programs number (Some flow) = lines_of programs number ≡ map block_entry flow
IsFlowOf programs number None = lines_of programs number ≡ []

-- the program at its first block that counts, or none
abbrev pub IsFirstPlace : Bool → List (List ℕ × ProgramView) → ℕ → ℕ → Option Place → Type 0
IsFirstPlace skip programs number passes (Some place) = (has_counting skip (program_blocks programs number) ≡ true) × (place ≡ first_place skip programs number passes)
IsFirstPlace skip programs number passes None = has_counting skip (program_blocks programs number) ≡ false

-- a level that stands there, or none
abbrev pub stood : Bool → Place → Option Place
stood true here = Some here
stood false here = None

-- the level stands at the next block, or there is none
abbrev pub Lands : Next → Place → Bool → Place → Type 0
Lands (At pc) old result new = (result ≡ true) × (new ≡ record old { pc = pc })
Lands Past old result new = (result ≡ false) × (new ≡ old)

-- the level is where it has gone, if a block stands there; else it is that of the same program and passes
pub record GoesAfter (programs : List (List ℕ × ProgramView)) (there : Place) (result : Bool) (new : Place) : Type 0 where
  pub comes : result ≡ has_block programs there
  pub arrives : result ≡ true → new ≡ there
  pub program : new.program ≡ there.program
  pub passes : new.passes ≡ there.passes

-- the same, or an alarm
abbrev pub GoesOn : List (List ℕ × ProgramView) → Result Going ℕ → Place → Result Bool ℕ → Place → Type 0
GoesOn programs (Ok going) old (Ok result) new = GoesAfter programs (gone_on old going) result new
GoesOn programs (Ok going) old (Err code) new = ⊥
GoesOn programs (Err code) old result new = result ≡ Err code
