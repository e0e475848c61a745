use Rattle.std.proofs.Common.{true, not, List, is_some, sym, ap, ◌∙◌, refl}
use Rattle.coord_core.proofs.Outcomes.{at_closed, has_grant}
use Rattle.coord_core.proofs.RunTurns.{is_turn_of_run}
use Rattle.coord_core.proofs.turns.act_turn.Goals.{then-locked-via-then-locked, then-locked-via-else-locked+then-is_none}
use Rattle.coord_core.specs.Boards.{BoardView}
use Rattle.coord_core.specs.BoardTurns.{ToClosed, ToLook, ToAct, ToNoMemory}
use Rattle.coord_core.specs.Histories.{History, history_of, board_of, answer_of}
use Rattle.sync_types.specs.Views.{StartView, EntryView}
use Rattle.coord_core.proofs.turns.act_turn.Goals as goal

pub returns-then-locked-clause-turn : goal.returns-then-locked-clause-turn
returns-then-locked-clause-turn c = elim c.then-locked.branch [
  | then-locked-via-then-locked w ↦ ToClosed w.if-locked.true refl
      (c.look_turn.ensures.answer ∙ at_closed c.args.locked.now.board.start (history_of c.args.locked.now) c.args.channel w.if-locked.true)
  | then-locked-via-else-locked+then-is_none w ↦ ToLook
      (has_grant ((board_of c.args.locked.now.board.start (history_of c.args.locked.now)).state c.args.channel) ∙ ap is_some (sym w.grant_of.ensures) ∙ w.is_none.ensures ∙ ap not w.if-is_none.true)
      refl c.look_turn.ensures.answer
]

pub returns-in-Ok-clause-turn : goal.returns-in-Ok-clause-turn
returns-in-Ok-clause-turn c = ToAct c.if-locked.false
    (has_grant ((board_of c.args.locked.now.board.start (history_of c.args.locked.now)).state c.args.channel) ∙ ap is_some (sym c.grant_of.ensures) ∙ c.is_none.ensures ∙ ap not c.if-is_none.false)
    (ap (λ (es : List EntryView). let h : History = record { entries = es; closed = c.args.locked.now.closed } in h) c.in-Ok.ensures.ok.entries)
    (c.look_turn-in-Ok.ensures.answer ∙ ap (λ (s : StartView). answer_of s (record { entries = c.act.new.self.entries; closed = c.args.locked.now.closed }) c.args.channel) c.in-Ok.ensures.ok.start)

pub returns-in-Ok-clause-run : goal.returns-in-Ok-clause-run
returns-in-Ok-clause-run c = is_turn_of_run c.args.locked.now.board.start c.args.channel c.args.step (history_of c.args.locked.now) (record { entries = c.act.new.self.entries; closed = c.args.locked.now.closed })

pub returns-in-Err-clause-turn : goal.returns-in-Err-clause-turn
returns-in-Err-clause-turn c = ToNoMemory c.if-locked.false
    (has_grant ((board_of c.args.locked.now.board.start (history_of c.args.locked.now)).state c.args.channel) ∙ ap is_some (sym c.grant_of.ensures) ∙ c.is_none.ensures ∙ ap not c.if-is_none.false)
    (c.close_turn.ensures.turn ∙ ap (λ (v : BoardView). let h : History = record { entries = v.entries; closed = true } in h) c.in-Err.ensures.err)
    refl
