use Rattle.std.proofs.Common.{◌-◌, ◌<◌, Bool, length, get_or, sym, subst, rules}
use Rattle.order_clocks.specs.Tells.{is_before_in}
use Rattle.zone_stretches.proofs.ChainLaws.{passing_at}
use Rattle.zone_stretches.proofs.WalkLaws.{places_of, walk_started}
use Rattle.zone_stretches.specs.Ascents.{PassFirst, passes}
use Rattle.zone_stretches.specs.Stretches.{StretchView}
use Rattle.zone_stretches.proofs.ascents.start_walk.Goals as goal

pub range_by_halves-requires : goal.range_by_halves-requires
range_by_halves-requires c =
    let some : 0 < length c.args.own.now = search rules in
    subst (λ (x : StretchView). (ended : Bool) → PassFirst (passes (is_before_in c.args.clocks.now.rows) ended x) c.args.others.now) (sym c.index-own-0.is)
    (passing_at (is_before_in c.args.clocks.now.rows) c.args.own.now c.args.others.now 0 c.index-own-0.result c.requires.timed c.requires.others some)

pub range_by_halves-requires-2 : goal.range_by_halves-requires-2
range_by_halves-requires-2 c =
    let some : length c.args.own.now - 1 < length c.args.own.now = search rules in
    subst (λ (x : StretchView). (ended : Bool) → PassFirst (passes (is_before_in c.args.clocks.now.rows) ended x) c.args.others.now) (sym c.index-own-own.is)
    (passing_at (is_before_in c.args.clocks.now.rows) c.args.own.now c.args.others.now (length c.args.own.now - 1) c.index-own-own.result c.requires.timed c.requires.others some)

pub returns : goal.returns
returns c ascends =
    walk_started (is_before_in c.args.clocks.now.rows) c.args.own.now c.args.others.now c.requires.timed _ c.index-own-0.result c.index-own-own.result (c.requires.ascend ascends)
    (places_of (is_before_in c.args.clocks.now.rows) c.args.own.now c.args.others.now c.requires.timed c.index-own-0.result (get_or c.args.own.now 0 c.index-own-0.result) c.range_by_halves.result c.index-own-0.is
    c.range_by_halves.ensures.from c.range_by_halves.ensures.upto)
    (places_of (is_before_in c.args.clocks.now.rows) c.args.own.now c.args.others.now c.requires.timed c.index-own-own.result (get_or c.args.own.now (length c.args.own.now - 1) c.index-own-own.result)
    c.range_by_halves-2.result c.index-own-own.is c.range_by_halves-2.ensures.from c.range_by_halves-2.ensures.upto) ascends
