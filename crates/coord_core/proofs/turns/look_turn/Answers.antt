use Rattle.std.proofs.Common.{Bool, sym, ap, ◌∙◌, inl, inr, Some, None, if◌then◌else◌}
use Rattle.coord_core.proofs.Outcomes.{of_granted, of_ended, of_alarmed, of_others, at_closed, at_open}
use Rattle.coord_core.specs.Histories.{history_of}
use Rattle.coord_core.specs.declared.outcome.Outcome.TheVariants.{Over}
use Rattle.coord_core.proofs.turns.look_turn.Goals as goal

pub returns-then-locked-clause-answer : goal.returns-then-locked-clause-answer
returns-then-locked-clause-answer c = sym (at_closed c.args.locked.now.board.start (history_of c.args.locked.now) c.args.channel c.if-locked.true)

pub returns-in-Some-clause-answer : goal.returns-in-Some-clause-answer
returns-in-Some-clause-answer c = sym (at_open c.args.locked.now.board.start (history_of c.args.locked.now) c.args.channel c.if-locked.false
    ∙ of_granted _ _ c.in-Some.grant (sym c.grant_of.ensures ∙ c.in-Some.is))

pub returns-in-Ended-clause-answer : goal.returns-in-Ended-clause-answer
returns-in-Ended-clause-answer c = sym (at_open c.args.locked.now.board.start (history_of c.args.locked.now) c.args.channel c.if-locked.false
    ∙ elim c.in-Ended.is [
      | inl ended ↦ of_ended _ _ ended.0 (sym c.state_of.ensures ∙ ended.1)
      | inr alarmed ↦ of_alarmed _ _ alarmed.0 (sym c.state_of.ensures ∙ alarmed.1)
    ])

pub returns-in_default-state_of-clause-answer : goal.returns-in_default-state_of-clause-answer
returns-in_default-state_of-clause-answer c = sym (at_open c.args.locked.now.board.start (history_of c.args.locked.now) c.args.channel c.if-locked.false
    ∙ of_others _ _ (sym c.grant_of.ensures ∙ c.in_default.is) (λ line is. c.in_default-state_of.not-Ended line (c.state_of.ensures ∙ is))
    (λ alarm is. c.in_default-state_of.not-Alarmed alarm (c.state_of.ensures ∙ is))
    ∙ ap (λ (over : Bool). if over then Some Over else None) (sym c.is_over.ensures ∙ c.if-is_over.true))

pub returns-in_default-2-clause-answer : goal.returns-in_default-2-clause-answer
returns-in_default-2-clause-answer c = sym (at_open c.args.locked.now.board.start (history_of c.args.locked.now) c.args.channel c.if-locked.false
    ∙ of_others _ _ (sym c.grant_of.ensures ∙ c.in_default.is) (λ line is. c.in_default-2.not-Ended line (c.state_of.ensures ∙ is))
    (λ alarm is. c.in_default-2.not-Alarmed alarm (c.state_of.ensures ∙ is))
    ∙ ap (λ (over : Bool). if over then Some Over else None) (sym c.is_over.ensures ∙ c.if-is_over.false))
