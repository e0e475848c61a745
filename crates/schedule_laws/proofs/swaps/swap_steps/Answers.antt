-- Two steps on two boards.
use Rattle.schedule_laws.proofs.SwapBoards.{same_two, swap_law_from}
use Rattle.schedule_laws.proofs.swaps.swap_steps.Goals as goal

pub returns-clause-left : goal.returns-clause-left
returns-clause-left c = same_two c.reserve.new.self c.args.left.now c.act_twice.new.board c.args.p c.args.q c.args.p_step c.args.q_step c.reserve.ensures.same c.act_twice.ensures.steps

pub returns-clause-right : goal.returns-clause-right
returns-clause-right c = same_two c.reserve-2.new.self c.args.right.now c.act_twice-2.new.board c.args.q c.args.p c.args.q_step c.args.p_step c.reserve-2.ensures.same c.act_twice-2.ensures.steps

pub returns-clause-law : goal.returns-clause-law
returns-clause-law c = swap_law_from c.args.left.now c.args.right.now c.reserve.new.self c.reserve-2.new.self c.act_twice.new.board c.act_twice-2.new.board c.args.p c.args.q c.args.p_step c.args.q_step
    c.requires.same c.reserve.ensures.same c.reserve-2.ensures.same (record { sound = c.act_twice.ensures.sound; lawful = c.act_twice.ensures.lawful }) c.requires.p_runs c.requires.q_runs c.requires.differ
    c.act_twice.ensures.steps c.act_twice-2.ensures.steps
