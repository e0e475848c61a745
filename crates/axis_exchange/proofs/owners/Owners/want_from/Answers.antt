use Rattle.std.proofs.Common.{◌≡◌, Bool, true, false, refl, sym, ap, ◌∙◌, arith}
use Rattle.axis_exchange.proofs.owners.Owners.want_from.Goals as goal
use Rattle.axis_exchange.specs.Owners.{axis_state, may_take_from}
use Rattle.set_laws.proofs.MemberLaws.{has-below, list_all-members_of, list_all-at_member}

pub returns : goal.returns
returns c =
    sym (list_all-members_of c.args.axes (λ x. may_take_from (axis_state c.args.self.now x) c.args.channel c.args.standing)
    (λ m member. c.loop-index.invariant.0 m (omega (arith, has-below c.args.axes m member, c.loop-index.invariant.1 (omega arith))) member))

-- where the channel may take all, it may take this one
pub returns-then-not-may_take_from : goal.returns-then-not-may_take_from
returns-then-not-may_take_from c =
    sym (never_true _ (λ all. apart (may_take_from (axis_state c.args.self.now c.loop-index.index) c.args.channel c.args.standing)
    (list_all-at_member c.args.axes (λ x. may_take_from (axis_state c.args.self.now x) c.args.channel c.args.standing) c.loop-index.index all
    (sym c.contains.ensures.member ∙ c.if-contains.true))
    (ap (λ s. may_take_from s c.args.channel c.args.standing) (sym c.state.ensures.state) ∙ sym c.may_take_from.ensures ∙ c.if-not-may_take_from.true)))
  where
    never_true : (b : Bool) → (b ≡ true → ⊥) → b ≡ false
    never_true true h = absurd (h refl)
    never_true false h = refl

    apart : (b : Bool) → b ≡ true → b ≡ false → ⊥
    apart b e h = cc
