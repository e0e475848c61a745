-- Turns at a board that is closed.
use Rattle.std.proofs.Common.{◌≡◌, ℕ, zero, suc, true, List, [], ◌∷◌, All, Option, Some, sym, ap, ◌∙◌, arith}
use Rattle.coord_core.proofs.Outcomes.{at_closed}
use Rattle.coord_core.specs.BoardTurns.{Brings, ToClosed, ToLook, ToAct, ToNoMemory, closed_after}
use Rattle.coord_core.specs.Closing.{Turn, Bringing, Looking, Closing, Leads, AnswersClosed, StaysClosed}
use Rattle.coord_core.specs.Histories.{History}
use Rattle.coord_core.specs.declared.outcome.Outcome.{Outcome}
use Rattle.coord_core.specs.declared.outcome.Outcome.TheVariants.{Closed}
use Rattle.sync_types.proofs.BoardTests.{no_truth}
use Rattle.sync_types.specs.Views.{StartView}
use Rattle.sync_types.specs.declared.Step.{Step}

brought : (start : StartView) (c : ℕ) (step : Step) (before after : History) (answer : Option Outcome) → before.closed ≡ true → Brings start c step before answer after
    → (after ≡ before) × (answer ≡ Some Closed)
brought start c step before after answer on (ToClosed is same said) = (same, said)
brought start c step before after answer on (ToLook off same said) = (same, said ∙ at_closed start after c (ap (λ (h : History). h.closed) same ∙ on))
brought start c step before after answer on (ToAct off runs made said) = no_truth before.closed on off
brought start c step before after answer on (ToNoMemory off runs made said) = no_truth before.closed on off

shut : (history : History) → history.closed ≡ true → closed_after history ≡ history
shut history on = ap (λ b. record { entries = history.entries; closed = b }) (sym on)

led : (start : StartView) (before after : History) (turn : Turn) → before.closed ≡ true → Leads start before turn after → (after ≡ before) × AnswersClosed turn
led start before after (Bringing c step answer) on leads = brought start c step before after answer on leads
led start before after (Looking c answer) on leads = (leads.0, leads.1 ∙ at_closed start before c on)
led start before after Closing on leads = (leads ∙ shut before on, tt)

and_all : (turn : Turn) (turns : List Turn) → AnswersClosed turn → All AnswersClosed turns → All AnswersClosed (turn ∷ turns)
and_all turn turns first rest zero d within = first
and_all turn turns first rest (suc k) d within = rest k d (omega (arith, within))

pub stays_closed : (start : StartView) (history : History) → StaysClosed start history
stays_closed start history on [] after same = (same, λ k d within. absurd (omega (arith, within)))
stays_closed start history on (turn ∷ turns) after leads =
    let first = led start history leads.0 turn on leads.1 in
    let rest = stays_closed start leads.0 (ap (λ (h : History). h.closed) first.0 ∙ on) turns after leads.2 in
    (rest.0 ∙ first.0, and_all turn turns first.1 rest.1)
