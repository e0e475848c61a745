use Rattle.std.proofs.Common.{◌≡◌, ◌≤◌, ◌∙◌, ◌∷◌, [], arith, length-append, inl, inr, refl}
use Rattle.std.proofs.lemmas.Bool.{cases_lt}
use Rattle.axis_sets.specs.declared.limits.TheConstants.{CHANNEL_PLACES}
use Rattle.protection_zones.proofs.TimeLaws.{outsets_before, outsets_last}
use Rattle.protection_zones.proofs.spans.first_outsets.Goals as goal

pub loop-number-init : goal.loop-number-init
loop-number-init c = record {
  from = omega arith;
  size = rw (c.in_ok-push.ensures.items, c.new-outsets.ensures.items) refl;
  own = λ d from below. absurd (omega arith);
}

pub loop-number-preserved : goal.loop-number-preserved
loop-number-preserved c = record {
  from = omega arith;
  size = rw c.in_ok-push-2.ensures.items (omega (arith, length-append c.loop-number.outsets.items (c.in_ok-own.own ∷ []), c.loop-number.invariant.size));
  own = λ d from below. rw c.in_ok-push-2.ensures.items (elim (cases_lt d c.loop-number.number) [
    | inl earlier ↦ outsets_before c.loop-number.outsets.items c.in_ok-own.own d (rw c.loop-number.invariant.size earlier) ∙ c.loop-number.invariant.own d from earlier
    | inr late ↦
        let e : d ≡ c.loop-number.number = omega arith in
        rw e (outsets_last c.loop-number.outsets.items c.in_ok-own.own c.loop-number.number c.loop-number.invariant.size ∙ c.in_ok-own.ensures)
  ]);
}

pub returns-clause-outsets : goal.returns-clause-outsets
returns-clause-outsets c = record { own = λ d from below. c.loop-number.invariant.own d from (let done : CHANNEL_PLACES ≤ c.loop-number.number = omega arith in omega arith) }
