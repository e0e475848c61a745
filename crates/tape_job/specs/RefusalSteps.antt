-- Steps. How lines are read one after the other, whichever of them are refused.
use Rattle.std.specs.Prelude.{ℕ, Bool, ◌||◌, List, [], ◌∷◌, Result, Option}
use Rattle.tape_job.specs.LineRefusals.{code_of}
use Rattle.tape_job.specs.Lines.{Line, has_token, begins_with_percent}
use Rattle.tape_job.specs.Reading.{ReadingView, reading_of}
use Rattle.tape_job.specs.Told.{Told, facts_of, says_compensation}
use Rattle.tape_job.specs.declared.refusals.ReadingState.{ReadingState}

-- what is kept of what lines told
abbrev pub state_in : Told → ReadingState
state_in told = record { seen = told.seen; in_programs = told.in_programs; compensation = told.job.compensation }

abbrev pub state_of : List Line → ReadingState
state_of lines = state_in (facts_of lines)

abbrev pub reading_in : ReadingState → List ℕ → Result ReadingView ℕ
reading_in state raw = reading_of state.seen state.in_programs state.compensation raw

-- what is kept after one line more, which accepts tool radius compensation or does not
abbrev pub state_with : ReadingState → List ℕ → Bool → ReadingState
state_with state raw compensation = record {
  seen = state.seen || has_token raw;
  in_programs = state.in_programs || begins_with_percent raw;
  compensation = compensation || state.compensation;
}

abbrev pub state_after : ReadingState → List ℕ → ReadingState
state_after state raw = state_with state raw (says_compensation (reading_in state raw))

-- the codes of these lines, where this is kept of those before them
abbrev pub codes_from : ReadingState → List (List ℕ) → List (Option ℕ)
codes_from state [] = []
codes_from state (raw ∷ raws) = code_of (reading_in state raw) ∷ codes_from (state_after state raw) raws
