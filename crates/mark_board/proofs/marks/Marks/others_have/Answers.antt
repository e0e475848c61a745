use Rattle.std.proofs.Common.{◌≡◌, ◌==◌, ◌&&◌, not, Bool, true, false, refl, sym, ◌∙◌, arith}
use Rattle.set_laws.proofs.MemberLaws.{has-below, list_all-others, list_all-at_other}
use Rattle.axis_sets.specs.Sets.{has}
use Rattle.mark_board.specs.Marks.{has_mark}
use Rattle.mark_board.proofs.marks.Marks.others_have.Goals as goal

pub returns : goal.returns
returns c =
    sym (list_all-others c.args.named (λ d. has_mark c.args.self.now d c.args.mark) c.args.channel
    (λ m member other.
    let one_of : has c.without-others.result m ≡ true = c.without-others.ensures.members m ∙ rw (member, other) refl in
    c.loop-number.invariant m (omega (arith, has-below c.without-others.result m one_of, c.without-others.ensures.size)) one_of))

-- where all have it, the one that has it not is none of the others
pub returns-then-not-stands : goal.returns-then-not-stands
returns-then-not-stands c =
    sym (never_true _ (λ all.
    let one_of : (has c.args.named c.loop-number.number && not (c.loop-number.number == c.args.channel)) ≡ true =
    sym (c.without-others.ensures.members c.loop-number.number) ∙ sym c.contains.ensures.member ∙ c.if-contains.true in
    let parts = both (has c.args.named c.loop-number.number) (c.loop-number.number == c.args.channel) one_of in
    apart (has_mark c.args.self.now c.loop-number.number c.args.mark)
    (list_all-at_other c.args.named (λ d. has_mark c.args.self.now d c.args.mark) c.args.channel c.loop-number.number all parts.0 parts.1)
    (sym c.stands.ensures.stands ∙ c.if-not-stands.true)))
  where
    never_true : (b : Bool) → (b ≡ true → ⊥) → b ≡ false
    never_true true h = absurd (h refl)
    never_true false h = refl

    apart : (b : Bool) → b ≡ true → b ≡ false → ⊥
    apart b e h = cc

    both : (b d : Bool) → (b && not d) ≡ true → (b ≡ true) × (d ≡ false)
    both true false h = (refl, refl)
    both true true h = (refl, cc)
    both false d h = (h, absurd (apart false h refl))
