use Rattle.axis_sets.specs.declared.limits.TheConstants.{CHANNEL_LIMIT}
use Rattle.std.proofs.Common.{◌≡◌, ℕ, List, ◌++◌, map, length, length-append, sym, ap, ◌∙◌, arith}
use Rattle.coord_core.specs.Tables.{board_in}
use Rattle.std.proofs.Common.{◌-◌}
use Rattle.coord_core.proofs.Takes.{taking_goes, taking_board, taking_room, no_more_takings, nothing_more}
use Rattle.sync_types.proofs.BoardTests.{first_passes}
use Rattle.sync_types.specs.Boards.{channel_numbers}
use Rattle.sync_types.specs.GoingOn.{can_take, go_of, Takings, takings}
use Rattle.sync_types.specs.declared.runs.Go.{Go}
use Rattle.coord_core.proofs.state.State.hand_out_axes.Goals as goal

pub take-requires-clause-can_take : goal.take-requires-clause-can_take
take-requires-clause-can_take c = first_passes (can_take (board_in c.loop-turn.self.table c.loop-turn.self.channels)) channel_numbers c.in-Some.channel (sym c.next_taker.ensures ∙ c.in-Some.is)

pub returns-in-None-clause-goes : goal.returns-in-None-clause-goes
returns-in-None-clause-goes c =
    sym (c.loop-turn.invariant.1
    ∙ ap (λ (tk : Takings). c.loop-turn.goes.items ++ map go_of tk.goings) (no_more_takings (CHANNEL_LIMIT - c.loop-turn._turn) (board_in c.loop-turn.self.table c.loop-turn.self.channels) (sym c.next_taker.ensures ∙ c.in-None.is))
    ∙ nothing_more c.loop-turn.goes.items)

pub loop-turn-preserved : goal.loop-turn-preserved
loop-turn-preserved c =
    let is = sym c.next_taker.ensures ∙ c.in-Some.is in (
      c.take.ensures.kept,
      taking_goes c.loop-turn._turn c.in-Some.channel (board_in c.loop-turn.self.table c.loop-turn.self.channels) _ _ c.loop-turn.goes.items c.take.new.goes.items c.loop-turn-test.true is c.take.ensures.board c.take.ensures.goes c.loop-turn.invariant.1,
      taking_board c.loop-turn._turn c.in-Some.channel (board_in c.loop-turn.self.table c.loop-turn.self.channels) _ _ c.loop-turn-test.true is c.take.ensures.board c.loop-turn.invariant.2,
      omega (
        arith,
        taking_room c.loop-turn._turn c.in-Some.channel (board_in c.loop-turn.self.table c.loop-turn.self.channels) (board_in c.take.new.self.table c.take.new.self.channels) c.loop-turn-test.true is c.take.ensures.board,
        simp length-append at (ap (λ (gs : List Go). length gs) c.take.ensures.goes),
        c.loop-turn.invariant.3,
      ),
    )

pub returns-clause-goes : goal.returns-clause-goes
returns-clause-goes c =
    let over : CHANNEL_LIMIT - c.loop-turn._turn ≡ 0 = omega arith in
    sym (c.loop-turn.invariant.1
    ∙ ap (λ (k : ℕ). c.loop-turn.goes.items ++ map go_of (takings k (board_in c.loop-turn.self.table c.loop-turn.self.channels)).goings) over
    ∙ nothing_more c.loop-turn.goes.items)
