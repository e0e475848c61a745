use Rattle.std.proofs.Common.{arith}
use Rattle.arc_quadrants.proofs.ReachLaws.{root_up_within}
use Rattle.arc_quadrants.proofs.bounds.reach_up.Goals as goal

pub overflow_cast-result : goal.overflow_cast-result
overflow_cast-result c =
    omega (
      arith,
      root_up_within c.root_up.result c.args.radius c.args.part c.args.square c.squared.result c.quotient_up.result c.root_up.ensures.least c.quotient_up.ensures.value c.squared.ensures.value
          c.requires.some c.requires.short,
    )

pub returns-clause-within : goal.returns-clause-within
returns-clause-within c =
    root_up_within c.root_up.result c.args.radius c.args.part c.args.square c.squared.result c.quotient_up.result c.root_up.ensures.least c.quotient_up.ensures.value c.squared.ensures.value
    c.requires.some c.requires.short
