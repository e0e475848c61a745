use Rattle.std.proofs.Common.{◌≡◌, ℕ, true, None, refl, sym, ap, ◌∙◌, if◌then◌else◌}
use Rattle.axis_exchange.proofs.OwnerSteps.{known_where_free, taken_from_nobody, states_taken}
use Rattle.axis_exchange.proofs.owners.Owners.take.Goals as goal
use Rattle.axis_exchange.specs.Owners.{axis_state, is_known, may_take, position_when_taken}
use Rattle.axis_sets.specs.Positions.{position_of}
use Rattle.axis_sets.specs.Sets.{has}
use Rattle.set_laws.proofs.MemberLaws.{list_all-at_member}

pub take_from-requires : goal.take_from-requires
take_from-requires c = record {
  known = λ x member.
      known_where_free (axis_state c.args.self.now x) c.args.channel (position_of c.empty.result x)
      (list_all-at_member c.args.axes (λ y. may_take (axis_state c.args.self.now y) c.args.channel) x c.requires member);
}

pub returns-clause-own : goal.returns-clause-own
returns-clause-own c = λ x member. c.take_from.ensures.states x ∙ rw member refl

pub returns-clause-states : goal.returns-clause-states
returns-clause-states c = λ x. c.take_from.ensures.states x ∙ states_taken c.args.self.now c.args.channel c.args.axes c.requires x

pub returns-clause-positions : goal.returns-clause-positions
returns-clause-positions c = λ x.
    c.take_from.ensures.positions x
    ∙ ap (λ (place : _). if has c.args.axes x then position_when_taken (axis_state c.args.self.now x) c.args.channel place else None) (c.empty.ensures.none x)
    ∙ ap (λ (place : _). if has c.args.axes x then place else None) (taken_from_nobody (axis_state c.args.self.now x) c.args.channel)
