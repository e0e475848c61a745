use Rattle.std.proofs.Common.{get_or, refl, ap, ◌∙◌}
use Rattle.std.proofs.lemmas.Bool.{ne_eqb}
use Rattle.std.specs.Prelude.{remove}
use Rattle.nc_control_flow.proofs.Repeating.{over_is, within_over, turns_end, turns_again, back_again, own_removed, own_kept}
use Rattle.nc_control_flow.proofs.repeats.Repeats.turn.Goals as goal

pub invariant_of-self : goal.invariant_of-self
invariant_of-self c = own_removed c.self.inside.running.items _ c.in-Some.at c.remove-one.ensures.items c.self.invariant

pub returns-then-one-eq0-clause-step : goal.returns-then-one-eq0-clause-step
returns-then-one-eq0-clause-step c =
    let seen = c.as_slice.ensures.value ∙ c.self.view_is in
    turns_end c.args.control c.args.self.now _ c.in-Some.at c.remove-one.result
    (over_is c.args.control c.args.self.now c.as_slice.result.now c.over_at.result c.in-Some.at seen c.over_at.ensures c.in-Some.is)
    (c.remove-one.ensures.value ∙ ap (λ xs. get_or xs c.in-Some.at c.remove-one.result) c.self.view_is)
    c.if-one-eq0.true
    (c.remove-one.ensures.items ∙ ap (λ xs. remove xs c.in-Some.at) c.self.view_is)

pub invariant_of-self-in-Some : goal.invariant_of-self-in-Some
invariant_of-self-in-Some c =
    let found = over_is c.args.control c.self.inside.running.items c.as_slice.result.now c.over_at.result c.in-Some.at c.as_slice.ensures.value c.over_at.ensures c.in-Some.is in
    let within = within_over c.args.control c.self.inside.running.items c.in-Some.at c.remove-one.result found in
    own_kept c.self.inside.running.items _ c.in-Some.at c.remove-one.result _ c.remove-one.ensures.value within refl
    (back_again c.self.inside.running.items _ _ c.in-Some.at _ c.remove-one.ensures.items c.insert.ensures.items within) c.self.invariant

pub returns-else-one-eq0-clause-step : goal.returns-else-one-eq0-clause-step
returns-else-one-eq0-clause-step c =
    let found = over_is c.args.control c.args.self.now c.as_slice.result.now c.over_at.result c.in-Some.at (c.as_slice.ensures.value ∙ c.self.view_is) c.over_at.ensures c.in-Some.is in
    let within = within_over c.args.control c.args.self.now c.in-Some.at c.remove-one.result found in
    turns_again c.args.control c.args.self.now _ c.in-Some.at c.remove-one.result found
    (c.remove-one.ensures.value ∙ ap (λ xs. get_or xs c.in-Some.at c.remove-one.result) c.self.view_is)
    (ne_eqb c.remove-one.result.left 0 c.if-one-eq0.false)
    (back_again c.args.self.now _ _ c.in-Some.at _ (c.remove-one.ensures.items ∙ ap (λ xs. remove xs c.in-Some.at) c.self.view_is) c.insert.ensures.items within)
