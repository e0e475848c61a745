use Rattle.std.proofs.Common.{◌≡◌, ◌<◌, List, length, subst, sym, arith}
use Rattle.std.specs.List.{All, Any}
use Rattle.path_geometry.specs.Path.{point_seen}
use Rattle.arc_quadrants.specs.Bounds.{bounds_between, IsBound}
use Rattle.arc_quadrants.specs.Quadrants.{turned_back}
use Rattle.arc_quadrants.specs.Quarters.{quarter_at, quarters_of, IsFit}
use Rattle.arc_quadrants.specs.declared.walk.Quarter.{Quarter}
use Rattle.arc_quadrants.proofs.ArcLaws.{quarters_cover, quarters_fit, quarters_some, one_more}
use Rattle.arc_quadrants.proofs.walk.quarters.Goals as goal

pub loop-place-preserved : goal.loop-place-preserved
loop-place-preserved c = (
  one_more (quarter_at c.args.arc.now.outer c.seen_ends-start.result.0 c.seen_ends-start.result.1) c.loop-place.quarters.items c.push.new.self.items
      c.quarter_at.result c.loop-place.place c.push.ensures.items c.quarter_at.ensures c.loop-place.invariant.0,
  omega (arith, c.push.ensures.len, c.loop-place.invariant.1),
)

pub returns-clause-covers : goal.returns-clause-covers
returns-clause-covers c = λ point on.
    let arc = c.args.arc.now in
    let is : c.loop-place.quarters.items ≡ quarters_of arc = grind arith in
    subst (λ (qs : List Quarter). Any (λ q. IsBound (bounds_between arc.inner arc.outer q.from q.to) (turned_back q.turn (point_seen arc point)) point.under) qs) (sym is)
    (quarters_cover arc point c.requires on)

pub returns-clause-fit : goal.returns-clause-fit
returns-clause-fit c =
    let is : c.loop-place.quarters.items ≡ quarters_of c.args.arc.now = grind arith in
    subst (λ (qs : List Quarter). All IsFit qs) (sym is) (quarters_fit c.args.arc.now c.requires)

pub returns-clause-some : goal.returns-clause-some
returns-clause-some c =
    let is : c.loop-place.quarters.items ≡ quarters_of c.args.arc.now = grind arith in
    subst (λ (qs : List Quarter). 0 < length qs) (sym is) (quarters_some c.args.arc.now)
