use Rattle.std.proofs.Common.{true, false, arith}
use Rattle.order_clocks.specs.Tells.{is_before_in}
use Rattle.zone_stretches.proofs.ChainLaws.{leading_within}
use Rattle.zone_stretches.proofs.WalkLaws.{not_not}
use Rattle.zone_stretches.specs.Ascents.{passes}
use Rattle.zone_stretches.proofs.ascents.range_of.Goals as goal

pub returns-then-not-walk-clause-within_from : goal.returns-then-not-walk-clause-within_from
returns-then-not-walk-clause-within_from c =
    let is = c.range_by_halves.ensures.from in
    let within = leading_within (passes (is_before_in c.args.clocks.now.rows) true c.args.own.now) c.args.others.now in
    omega (arith, is, within)

pub returns-then-not-walk-clause-within : goal.returns-then-not-walk-clause-within
returns-then-not-walk-clause-within c =
    let is = c.range_by_halves.ensures.upto in
    let within = leading_within (passes (is_before_in c.args.clocks.now.rows) false c.args.own.now) c.args.others.now in
    omega (arith, is, within)

pub count_between-requires-clause-low : goal.count_between-requires-clause-low
count_between-requires-clause-low c = let known = c.requires.known (not_not c.args.walk.ascends c.if-not-walk.false) in known.least true

pub count_between-requires-clause-high : goal.count_between-requires-clause-high
count_between-requires-clause-high c = let known = c.requires.known (not_not c.args.walk.ascends c.if-not-walk.false) in known.most true

pub count_between-requires-2-clause-low : goal.count_between-requires-2-clause-low
count_between-requires-2-clause-low c = let known = c.requires.known (not_not c.args.walk.ascends c.if-not-walk.false) in known.least false

pub count_between-requires-2-clause-high : goal.count_between-requires-2-clause-high
count_between-requires-2-clause-high c = let known = c.requires.known (not_not c.args.walk.ascends c.if-not-walk.false) in known.most false

pub count_between-requires-clause-within : goal.count_between-requires-clause-within
count_between-requires-clause-within c = let known = c.requires.known (not_not c.args.walk.ascends c.if-not-walk.false) in known.within true

pub count_between-requires-2-clause-within : goal.count_between-requires-2-clause-within
count_between-requires-2-clause-within c = let known = c.requires.known (not_not c.args.walk.ascends c.if-not-walk.false) in known.within false

pub returns-clause-within_from : goal.returns-clause-within_from
returns-clause-within_from c =
    let is = c.count_between.ensures in
    let within = leading_within (passes (is_before_in c.args.clocks.now.rows) true c.args.own.now) c.args.others.now in
    omega (arith, is, within)

pub returns-clause-within : goal.returns-clause-within
returns-clause-within c =
    let is = c.count_between-2.ensures in
    let within = leading_within (passes (is_before_in c.args.clocks.now.rows) false c.args.own.now) c.args.others.now in
    omega (arith, is, within)
