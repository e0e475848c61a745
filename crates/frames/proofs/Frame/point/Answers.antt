use Rattle.std.proofs.Common.{ℤ, subst, w64}
use Rattle.std.proofs.lemmas.Int.{to_z-of_z}
use Rattle.micro_units.specs.Rounding.{half_away}
use Rattle.frames.specs.Counts.{place_sum, change_sum}
use Rattle.frames.specs.Places.{GivesPlace}
use Rattle.frames.proofs.PlaceLaws.{change-answer, end-answer}
use Rattle.frames.proofs.Frame.point.Goals as goal

pub returns-then-incremental-clause-change : goal.returns-then-incremental-clause-change
returns-then-incremental-clause-change c chain h is =
    let map = c.axis-map.result.now in
    change-answer chain c.args.self.now c.args.axis map c.args.twice _ c.requires h c.axis-map.ensures
    (subst (λ (twice : ℤ). GivesPlace map.slot (half_away (change_sum map twice) 2000000000) 20000000 c.change.result)
    (to_z-of_z w64 c.args.twice c.ranges.twice) c.change.ensures)

pub returns-else-incremental-clause-absolute : goal.returns-else-incremental-clause-absolute
returns-else-incremental-clause-absolute c chain values h is same =
    let map = c.axis-map.result.now in
    end-answer chain c.args.self.now c.args.axis map c.args.twice _ c.requires h c.axis-map.ensures values c.args.offset same
    (subst (λ (twice : ℤ). GivesPlace map.slot (half_away (place_sum map twice c.args.offset) 2000000000) 10000000 c.end.result)
    (to_z-of_z w64 c.args.twice c.ranges.twice) c.end.ensures)
