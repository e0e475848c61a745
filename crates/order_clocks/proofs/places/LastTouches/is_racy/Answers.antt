use Rattle.std.proofs.Common.{inl, inr, sym, ◌∙◌}
use Rattle.std.proofs.lemmas.Bool.{true≢false}
use Rattle.order_clocks.proofs.PlaceLaws.{racy_from_act, racy_from_go, racy_back}
use Rattle.order_clocks.proofs.places.LastTouches.is_racy.Goals as goal

pub returns-then-misses : goal.returns-then-misses
returns-then-misses c = λ run tracks i is tracked are last. (
  (λ t. racy_from_act run tracks i c.args.deed.now c.args.rows.now c.args.self.now c.act_limit-limit.result is tracked are last c.act_limit-limit.ensures
      (let m = c.misses.ensures.0 t in rw c.actor-c.ensures.channel at m)),
  (λ racy. c.if-misses.true),
)

pub returns-else-misses : goal.returns-else-misses
returns-else-misses c = λ run tracks i is tracked are last. (
  (λ t. racy_from_go run tracks i c.args.deed.now c.args.rows.now c.args.self.now is tracked are last (c.has_racy_go.ensures.0 t)),
  (λ racy. elim (racy_back run tracks i c.args.deed.now c.args.rows.now c.args.self.now c.act_limit-limit.result is tracked are last c.act_limit-limit.ensures racy) [
    | inl missed ↦ absurd (true≢false (sym (c.misses.ensures.1 (rw (sym c.actor-c.ensures.channel) at missed)) ∙ c.if-misses.false))
    | inr found ↦ c.has_racy_go.ensures.1 found
  ]),
)
