use Rattle.std.proofs.Common.{◌≡◌, ℕ, ◌<◌, ◌≤◌, ◌⊎◌, inl, inr, Some, if◌then◌else◌, sym, ap, ◌∙◌, arith, get_or-set_other, length-set, refl}
use Rattle.axis_sets.proofs.SetLaws.{has-past}
use Rattle.axis_sets.specs.Sets.{has}
use Rattle.axis_exchange.proofs.OwnerSteps.{named_more, unnamed_more}
use Rattle.axis_exchange.specs.Owners.{axis_state}
use Rattle.axis_exchange.specs.declared.AxisState.TheVariants.{Owned}
use Rattle.axis_exchange.proofs.owners.Owners.take_from.Goals as goal
use Rattle.axis_exchange.proofs.owners.Owners.take_from.Goals.{then-contains, else-contains}

pub loop-index-preserved : goal.loop-index-preserved
loop-index-preserved c = elim c.if-contains.branch [
  | then-contains w ↦ rw w.self-inside-is (
    length-set c.loop-index.self-inside.states c.loop-index.index (Some (Owned c.args.channel)) ∙ c.loop-index.invariant.0,
    named_more c.self.inside.states c.loop-index.self-inside.states c.args.axes (Some (Owned c.args.channel)) c.loop-index.index
        (omega (arith, c.loop-index.invariant.0)) (sym c.contains.ensures.member ∙ w.if-contains.true) c.loop-index.invariant.1,
    λ x above. get_or-set_other c.loop-index.self-inside.states c.loop-index.index x (Some (Owned c.args.channel)) _ (omega arith) ∙ c.loop-index.invariant.2 x (omega arith),
    λ _. c.contains.ensures.size,
  )
  | else-contains w ↦ rw w.self-inside-is (
    c.loop-index.invariant.0,
    unnamed_more c.self.inside.states c.loop-index.self-inside.states c.args.axes (Some (Owned c.args.channel)) c.loop-index.index
        (sym c.contains.ensures.member ∙ w.if-contains.false) c.loop-index.invariant.1 (c.loop-index.invariant.2 c.loop-index.index (omega arith)),
    λ x above. c.loop-index.invariant.2 x (omega arith),
    λ _. c.contains.ensures.size,
  )
]

below_or_past : (a b : ℕ) → (a < b) ⊎ (b ≤ a)
below_or_past a b = grind arith

-- each named axis is the channel's, the others are as they were
all_named : (c : goal.After-loop-index) (x : ℕ) → axis_state c.loop-index.self-inside.states x ≡ (if has c.args.axes x then Some (Owned c.args.channel) else axis_state c.args.self.now x)
all_named c x = elim (below_or_past x c.loop-index.index) [
  | inl below ↦ c.loop-index.invariant.1 x below ∙ ap (λ s. if has c.args.axes x then Some (Owned c.args.channel) else axis_state s x) c.self.view_is
  | inr past ↦ c.loop-index.invariant.2 x past ∙ ap (λ s. axis_state s x) c.self.view_is
      ∙ sym (rw (has-past c.args.axes x (omega (arith, c.loop-index.invariant.3 (omega arith)))) refl)
]

pub returns-clause-states : goal.returns-clause-states
returns-clause-states c = λ x. all_named c x
