use Rattle.std.proofs.Common.{◌≡◌, length, false, inl, inr, sym, ◌∙◌, arith}
use Rattle.std.proofs.lemmas.Bool.{cases_lt}
use Rattle.std.proofs.Math.ListN.{get_or-eq_default}
use Rattle.axis_sets.specs.declared.limits.TheConstants.{CHANNEL_PLACES}
use Rattle.counter_rows.proofs.flags.channel_flags.Goals as goal

pub returns-clause-members : goal.returns-clause-members
returns-clause-members c =
    let low = c.loop-number-test.false in
    let size : length c.args.set.now ≡ CHANNEL_PLACES = c.is_empty.ensures.size in
    let same = c.loop-number.invariant.size in
    c.sets_are_known_by_their_members.ensures.same c.loop-number.flags c.args.set.now same (λ k. elim (cases_lt k c.loop-number.number) [
      | inl below ↦ elim (cases_lt 0 k) [
        | inl later ↦ c.loop-number.invariant.done k (omega (arith, later)) below
        | inr first ↦ let here : k ≡ 0 = omega (arith, first) in
            rw here (c.loop-number.invariant.none ∙ sym (c.loop-number.invariant.zero (omega (arith, low))))
      ]
      | inr past ↦ get_or-eq_default c.loop-number.flags false (omega arith) ∙ sym (get_or-eq_default c.args.set.now false (omega arith))
    ])
