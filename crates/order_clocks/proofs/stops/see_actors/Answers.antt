use Rattle.std.proofs.Common.{◌≡◌, inl, inr, map, sym, ap, ◌∙◌, arith}
use Rattle.std.proofs.lemmas.Bool.{cases_lt}
use Rattle.order_clocks.specs.Stops.{channel_at}
use Rattle.order_clocks.proofs.StopLaws.{entry_channel}
use Rattle.sync_types.specs.Views.{EntryView}
use Rattle.order_clocks.proofs.stops.see_actors.Goals as goal

pub loop-i-preserved : goal.loop-i-preserved
loop-i-preserved c =
    let within = c.loop-i-test.true in
    let at : c.actor_of-number.result ≡ channel_at (map (λ e. e.channel) c.args.entries.now) c.loop-i.i =
    c.actor_of-number.ensures.channel ∙ (ap (λ (e : EntryView). e.channel) c.index-entries-i.is ∙ sym (entry_channel c.args.entries.now c.loop-i.i c.index-entries-i.result within)) in
    λ k low. elim (cases_lt k c.loop-i.i) [
      | inl earlier ↦ c.loop-i.invariant k earlier
      | inr late ↦
          let e : k ≡ c.loop-i.i = omega arith in
          rw (e, sym at) (c.actor_of-number.ensures.from, c.actor_of-number.ensures.below)
    ]
