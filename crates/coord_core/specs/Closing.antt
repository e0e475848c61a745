-- Law. A board that is closed stays closed.
use Rattle.std.specs.Prelude.{◌≡◌, ℕ, true, List, [], ◌∷◌, Option, Some, All}
use Rattle.coord_core.specs.BoardTurns.{Brings, closed_after}
use Rattle.coord_core.specs.Histories.{History, answer_of}
use Rattle.coord_core.specs.declared.outcome.Outcome.{Outcome}
use Rattle.coord_core.specs.declared.outcome.Outcome.TheVariants.{Closed}
use Rattle.sync_types.specs.Views.{StartView}
use Rattle.sync_types.specs.declared.Step.{Step}

-- a turn at a board: a channel brings a step and is answered, or looks and is answered, or somebody closes the board
pub data Turn : Type 0 where
  Bringing : (channel : ℕ) → (step : Step) → (answer : Option Outcome) → Turn
  Looking : (channel : ℕ) → (answer : Option Outcome) → Turn
  Closing : Turn

-- a turn leads from one history to another
abbrev pub Leads : StartView → History → Turn → History → Type 0
Leads start before (Bringing c step answer) after = Brings start c step before answer after
Leads start before (Looking c answer) after = (after ≡ before) × (answer ≡ answer_of start before c)
Leads start before Closing after = after ≡ closed_after before

-- turns one after another do
abbrev pub LeadOn : StartView → History → List Turn → History → Type 0
LeadOn start before [] after = after ≡ before
LeadOn start before (turn ∷ turns) after = (between : History) × Leads start before turn between × LeadOn start between turns after

abbrev pub AnswersClosed : Turn → Type 0
AnswersClosed (Bringing c step answer) = answer ≡ Some Closed
AnswersClosed (Looking c answer) = answer ≡ Some Closed
AnswersClosed Closing = Unit {0}

-- whatever turns come after a board is closed: its history stays, and each of them answers Closed
abbrev pub StaysClosed : StartView → History → Type 0
StaysClosed start history = history.closed ≡ true → (turns : List Turn) (after : History) → LeadOn start history turns after
    → (after ≡ history) × All AnswersClosed turns
