use Rattle.std.proofs.Common.{◌==◌, ℕ, ℤ, find, List, ◌∙◌, sym, ap}
use Rattle.swept_boxes.specs.Boxes.{low_of, high_of}
use Rattle.swept_boxes.specs.Ranges.{RangesView}
use Rattle.zone_stretches.proofs.Directions.{low_within, high_within}
use Rattle.zone_stretches.proofs.pieces.piece_bounds.Goals as goal

pub returns-in-Some-range_of-clause-low : goal.returns-in-Some-range_of-clause-low
returns-in-Some-range_of-clause-low c =
    low_within c.args.margin c.args.ranges.now c.args.side.now (low_of c.args.cover.now c.args.direction) c.in-Some.axis c.in-Some.minus c.in-Some-range_of.range.0 c.in-Some-range_of.range.1 c.in-Some-range_of.range.2
    c.bounds_between.result.0 c.in-Some.is
    (sym c.in-Some-range_of.is ∙ c.range_of.ensures
    ∙ ap (λ (axes : List (ℕ × ℤ × ℤ)). find (λ r. r.0 == c.in-Some.axis) axes) (c.deref.ensures.0 ∙ ap (λ (r : RangesView). r.axes) c.ranges-2.view_is))
    c.bounds_between.ensures.low

pub returns-in-Some-range_of-clause-high : goal.returns-in-Some-range_of-clause-high
returns-in-Some-range_of-clause-high c =
    high_within c.args.margin c.args.ranges.now c.args.side.now (high_of c.args.cover.now c.args.direction) c.in-Some.axis c.in-Some.minus c.in-Some-range_of.range.0 c.in-Some-range_of.range.1 c.in-Some-range_of.range.2
    c.bounds_between.result.1 c.in-Some.is
    (sym c.in-Some-range_of.is ∙ c.range_of.ensures
    ∙ ap (λ (axes : List (ℕ × ℤ × ℤ)). find (λ r. r.0 == c.in-Some.axis) axes) (c.deref.ensures.0 ∙ ap (λ (r : RangesView). r.axes) c.ranges-2.view_is))
    c.bounds_between.ensures.high
