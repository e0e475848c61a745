use Rattle.std.proofs.Common.{rules, ◌≡◌, inl, inr, map, sym, ap, ◌∙◌, arith}
use Rattle.std.proofs.lemmas.Bool.{cases_lt}
use Rattle.order_clocks.specs.Stops.{channel_at}
use Rattle.order_clocks.proofs.StopLaws.{last_more, entry_channel}
use Rattle.sync_types.specs.Views.{EntryView}
use Rattle.order_clocks.proofs.stops.last_places.Goals as goal

pub loop-i-preserved : goal.loop-i-preserved
loop-i-preserved c =
    let within = c.loop-i-test.true in
    let at : c.actor_of-c.result ≡ channel_at (map (λ e. e.channel) c.args.entries.now) c.loop-i.i =
    c.actor_of-c.ensures.channel ∙ (ap (λ (e : EntryView). e.channel) c.index-entries-i.is ∙ sym (entry_channel c.args.entries.now c.loop-i.i c.index-entries-i.result within)) in (
      rw at (last_more (map (λ e. e.channel) c.args.entries.now) c.loop-i.i c.loop-i.last c.loop-i.invariant.1.0 (rw (sym at) c.actor_of-c.ensures.below) c.loop-i.invariant.0),
      (
        search rules,
        λ k low. elim (cases_lt k c.loop-i.i) [
          | inl earlier ↦ c.loop-i.invariant.1.1 k earlier
          | inr late ↦
              let e : k ≡ c.loop-i.i = omega arith in
              rw (e, sym at) (c.actor_of-c.ensures.from, c.actor_of-c.ensures.below)
        ],
      ),
    )
