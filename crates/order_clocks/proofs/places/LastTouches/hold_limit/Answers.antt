use Rattle.std.proofs.Common.{ℕ, refl, sym, ap, ◌∙◌}
use Rattle.counter_rows.specs.Rows.{count_of}
use Rattle.order_clocks.specs.TracedRaces.{Lowered, Took}
use Rattle.order_clocks.specs.LastPlaces.{spot_at}
use Rattle.step_deeds.specs.declared.deed.Hold.TheVariants.{Marks}
use Rattle.order_clocks.proofs.StepLaws.{most_is}
use Rattle.order_clocks.proofs.PlaceLaws.{hold_marks, hold_axes, from_zero}
use Rattle.order_clocks.proofs.places.LastTouches.hold_limit.Goals as goal

pub returns-in-Marks : goal.returns-in-Marks
returns-in-Marks c = λ x.
    rw c.row.ensures at (c.most_chosen.ensures.counts x)
    ∙ (most_is (λ t. count_of (spot_at c.args.self.now t) x) (λ d. Lowered d c.from.result) c.channel_flags.result c.in-Marks.named _ _ _ c.channel_flags.ensures.members (c.zero-in-Marks.ensures.counts x)
    (hold_marks c.args.begins.now c.in-Some.hold c.from.result c.in-Marks.named c.in-Some.is (c.in-Marks.is ∙ ap (λ (m : ℕ). Marks m c.in-Marks.named) (sym c.from.ensures)))
    ∙ from_zero _ 0 refl)

pub returns-in-Axes : goal.returns-in-Axes
returns-in-Axes c = λ x.
    c.most_chosen-in-Axes.ensures.counts x
    ∙ (most_is (λ t. count_of (spot_at c.args.self.now t) x) Took c.axis_flags.result c.in-Axes.axes _ _ _ c.axis_flags.ensures.members (c.zero-in-Axes.ensures.counts x)
    (hold_axes c.args.begins.now c.in-Some.hold c.in-Axes.axes c.in-Some.is c.in-Axes.is)
    ∙ from_zero _ 0 refl)
