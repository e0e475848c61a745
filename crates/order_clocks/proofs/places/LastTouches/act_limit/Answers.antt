use Rattle.std.proofs.Common.{ℕ, map, refl, sym, ap, ◌∙◌}
use Rattle.axis_sets.specs.Sets.{members_of}
use Rattle.counter_rows.specs.Rows.{count_of}
use Rattle.order_clocks.specs.TracedRaces.{Needed, Touched}
use Rattle.order_clocks.specs.LastPlaces.{spot_at, hold_minds}
use Rattle.order_clocks.proofs.StepLaws.{most_is}
use Rattle.order_clocks.proofs.PlaceLaws.{three_tops}
use Rattle.order_clocks.proofs.places.LastTouches.act_limit.Goals as goal

pub returns : goal.returns
returns c = λ x.
    let deed = c.args.deed.now in
    let touched = c.most_chosen-touched.ensures.counts x ∙ most_is (λ t. count_of (spot_at c.args.self.now t) x) Touched c.channel_flags.result deed.touches _ _ _ c.channel_flags.ensures.members refl refl in
    c.most_of_marks.ensures.counts x
    ∙ (most_is (λ t. count_of (spot_at c.args.self.now t) x) (λ m. Needed c.actor-c.result m) deed.lowers deed.lowers _ _ (map (λ m. Needed deed.channel m) (members_of deed.lowers)) refl refl (ap (λ (d : ℕ). map (λ m. Needed d m) (members_of deed.lowers)) (sym c.actor-c.ensures.channel))
    ∙ three_tops (λ t. count_of (spot_at c.args.self.now t) x) (hold_minds deed.begins) (map Touched (members_of deed.touches)) (map (λ m. Needed deed.channel m) (members_of deed.lowers)) _ _ (c.hold_limit-hold.ensures x) touched)
