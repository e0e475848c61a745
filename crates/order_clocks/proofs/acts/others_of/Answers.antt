use Rattle.std.proofs.Common.{rules, ◌≡◌, ◌==◌, ◌&&◌, not, Bool, true, false, inl, inr, sym, ◌∙◌, refl}
use Rattle.std.proofs.lemmas.Bool.{cases_Bool, eqb-true}
use Rattle.axis_sets.specs.Sets.{has}
use Rattle.order_clocks.proofs.ActLaws.{without_members}
use Rattle.order_clocks.proofs.acts.others_of.Goals as goal

pub returns-then-contains : goal.returns-then-contains
returns-then-contains c = without_members c.without.result c.args.named.now c.args.channel (c.without.ensures.size ∙ sym c.contains.ensures.size) c.without.ensures.members

pub returns-else-contains : goal.returns-else-contains
returns-else-contains c = without_members c.args.named.now c.args.named.now c.args.channel refl (λ m. elim (cases_Bool (m == c.args.channel)) [
  | inl same ↦
      let e : m ≡ c.args.channel = eqb-true m c.args.channel same in
      let out : has c.args.named.now c.args.channel ≡ false = search rules in
      rw (same, e, out) refl
  | inr other ↦ rw other (sym (kept (has c.args.named.now m)))
])
  where
    kept : (b : Bool) → (b && not false) ≡ b
    kept true = refl
    kept false = refl
