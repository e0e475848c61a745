-- A step, and one of another channel.
use Rattle.schedule_laws.proofs.SwapBoards.{second_runs, two_steps}
use Rattle.coord_core.specs.Boards.{BoardView, replayed}
use Rattle.std.proofs.Common.{ap, ◌∙◌}
use Rattle.sync_types.specs.Boards.{is_running}
use Rattle.schedule_laws.proofs.swaps.act_twice.Goals as goal

pub act_reserved-requires-2-clause-runs : goal.act_reserved-requires-2-clause-runs
act_reserved-requires-2-clause-runs c =
    ap (λ (v : BoardView). is_running ((replayed v).state c.args.second)) c.act_reserved.ensures.step
    ∙ second_runs c.args.board.now c.args.first c.args.second c.args.first_step.now (record { sound = c.entries.ensures.sound; lawful = c.entries.ensures.lawful }) c.requires.first_runs c.requires.second_runs c.requires.differ

pub returns-clause-steps : goal.returns-clause-steps
returns-clause-steps c = two_steps c.args.board.now c.act_reserved.new.self c.act_reserved-2.new.self c.args.first c.args.second c.args.first_step.now c.args.second_step.now c.act_reserved.ensures.step c.act_reserved-2.ensures.step
