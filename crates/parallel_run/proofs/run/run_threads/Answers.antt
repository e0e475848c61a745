use denote.Param.Send.{sendable}
use Rattle.std.proofs.Common.{◌≡◌, All, List, map, ap, subst, sym, ◌∙◌}
use Rattle.job_types.proofs.Crosses.{job_sync}
use Rattle.parallel_run.proofs.Returning.{all_made, all_own, first_passes, fresh_channels, not_there, same_channels}
use Rattle.parallel_run.proofs.run.run_threads.Goals as goal
use Rattle.parallel_run.specs.Returns.{IsFirstPass}
use Rattle.parallel_run.specs.Workers.{WorkedView}
use Rattle.ticket_board.specs.Passes.{EndsFor, IsPassOf, TicketBoardView, TicketPassView, channels_of, fresh_pass}

pub work_all-requires-sync-J : goal.work_all-requires-sync-J
work_all-requires-sync-J g c κs within = search (sendable, job_sync) depth 40

pub work_all-requires-clause-passes : goal.work_all-requires-clause-passes
work_all-requires-clause-passes g c κs within =
    let board : TicketBoardView = c.in_ok-board.board in
    subst (All (IsFirstPass board)) (sym c.in_ok-board.ensures.passes) (first_passes board (channels_of board.start))

pub finish-board-requires-clause-own : goal.finish-board-requires-clause-own
finish-board-requires-clause-own g c =
    let board : TicketBoardView = c.in_ok-board.board in
    subst (All (IsPassOf board)) (sym c.in_ok-passes.ensures.passes)
    (all_own c.args.job.now board c.in_ok-board.passes.items c.in_ok-back.back.items c.in_ok-back.ensures.len c.in_ok-back.ensures.back)

pub join_workers-requires-clause-made : goal.join_workers-requires-clause-made
join_workers-requires-clause-made g c =
    let board : TicketBoardView = c.in_ok-board.board in
    let end = c.finish-board.ensures.history in
    all_made c.args.job.now board c.in_ok-board.passes.items c.in_ok-back.back.items c.in_ok-back.ensures.len c.in_ok-back.ensures.back
    c.in_ok-passes.workers.items c.in_ok-passes.ensures.workers (fresh_pass board 0) end.history c.start_state-start.result c.finish-board.result.entries c.in_ok-board.ensures.start end.entries
    (subst (All (EndsFor end.history)) c.in_ok-passes.ensures.passes end.each)

pub join_workers-requires-clause-all : goal.join_workers-requires-clause-all
join_workers-requires-clause-all g c = λ k off.
    let board : TicketBoardView = c.in_ok-board.board in
    let workers : List WorkedView = c.in_ok-passes.workers.items in
    let are : map (λ (w : WorkedView). w.channel) workers ≡ channels_of c.start_state-start.result =
    same_channels c.args.job.now board c.in_ok-board.passes.items c.in_ok-back.back.items c.in_ok-back.ensures.len c.in_ok-back.ensures.back workers c.in_ok-passes.ensures.workers (fresh_pass board 0)
    ∙ ap (map (λ (p : TicketPassView). p.channel)) c.in_ok-board.ensures.passes
    ∙ fresh_channels board
    ∙ ap channels_of c.in_ok-board.ensures.start in
    not_there c.args.job.now c.start_state-start.result (map (λ (w : WorkedView). w.channel) workers) k c.start_state-start.ensures.exact are off
