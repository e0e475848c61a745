use Rattle.std.proofs.Common.{ℕ, List, sym, ap, ◌∙◌}
use Rattle.order_clocks.specs.Happenings.{Raised, Freed, Ended}
use Rattle.counter_rows.specs.Rows.{count_of}
use Rattle.step_deeds.specs.declared.deed.Hold.TheVariants.{Marks}
use Rattle.order_clocks.specs.Steps.{row_at}
use Rattle.order_clocks.proofs.StepLaws.{most_is, asked_marks, asked_ends, asked_axes}
use Rattle.order_clocks.proofs.times.LastClocks.own_row.Goals as goal

pub returns-in-Marks : goal.returns-in-Marks
returns-in-Marks c = λ x.
    rw c.row.ensures at (c.most_chosen.ensures.counts x)
    ∙ most_is (λ k. count_of (row_at c.args.self.now k) x) (λ d. Raised d c.from.result) c.channel_flags.result c.in-Marks.named _ _ _ c.channel_flags.ensures.members (ap (λ (r : List ℕ). count_of r x) c.at_channel-past.ensures)
    (asked_marks c.args.c c.args.gone.now c.in-Some.gone c.in-Some-held.held c.from.result c.in-Marks.named c.in-Some.is c.in-Some-held.is (c.in-Marks.is ∙ ap (λ (m : ℕ). Marks m c.in-Marks.named) (sym c.from.ensures)))

pub returns-in-Ends : goal.returns-in-Ends
returns-in-Ends c = λ x.
    c.most_chosen-in-Ends.ensures.counts x
    ∙ most_is (λ k. count_of (row_at c.args.self.now k) x) Ended c.channel_flags-in-Ends.result c.in-Ends.named _ _ _ c.channel_flags-in-Ends.ensures.members (ap (λ (r : List ℕ). count_of r x) c.at_channel-past.ensures)
    (asked_ends c.args.c c.args.gone.now c.in-Some.gone c.in-Some-held.held c.in-Ends.named c.in-Some.is c.in-Some-held.is c.in-Ends.is)

pub returns-in-Axes : goal.returns-in-Axes
returns-in-Axes c = λ x.
    c.most_chosen-in-Axes.ensures.counts x
    ∙ most_is (λ k. count_of (row_at c.args.self.now k) x) Freed c.axis_flags.result c.in-Some.gone.took _ _ _ c.axis_flags.ensures.members (ap (λ (r : List ℕ). count_of r x) c.at_channel-past.ensures)
    (asked_axes c.args.c c.args.gone.now c.in-Some.gone c.in-Some-held.held c.in-Axes.field-0 c.in-Some.is c.in-Some-held.is c.in-Axes.is)
