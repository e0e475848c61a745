use Rattle.arc_quadrants.specs.Bounds.{length_square}
use Rattle.arc_quadrants.proofs.ReachLaws.{down_from_value, up_from_value}
use Rattle.arc_quadrants.proofs.bounds.quarter_box.Goals as goal

pub returns-clause-u_low : goal.returns-clause-u_low
returns-clause-u_low c =
    down_from_value c.reach_down.result c.args.inner c.args.to.0 (length_square c.args.to) c.length_square-to_square.result c.reach_down.ensures.value
    c.length_square-to_square.ensures.value c.length_square-to_square.ensures.some

pub returns-clause-u_high : goal.returns-clause-u_high
returns-clause-u_high c =
    up_from_value c.reach_up.result c.args.outer c.args.from.0 (length_square c.args.from) c.length_square-from_square.result c.reach_up.ensures.value
    c.length_square-from_square.ensures.value c.length_square-from_square.ensures.some

pub returns-clause-v_low : goal.returns-clause-v_low
returns-clause-v_low c =
    down_from_value c.reach_down-2.result c.args.inner c.args.from.1 (length_square c.args.from) c.length_square-from_square.result c.reach_down-2.ensures.value
    c.length_square-from_square.ensures.value c.length_square-from_square.ensures.some

pub returns-clause-v_high : goal.returns-clause-v_high
returns-clause-v_high c =
    up_from_value c.reach_up-2.result c.args.outer c.args.to.1 (length_square c.args.to) c.length_square-to_square.result c.reach_up-2.ensures.value
    c.length_square-to_square.ensures.value c.length_square-to_square.ensures.some
