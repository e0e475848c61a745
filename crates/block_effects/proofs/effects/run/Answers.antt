use Rattle.std.proofs.Common.{◌∙◌, ℕ, List, Err, ap, sym, subst}
use Rattle.std.specs.Prelude.{IsTrue}
use Rattle.g_groups.specs.declared.GWord.{GWord}
use Rattle.g_groups.specs.Modal.{has_group_twice}
use Rattle.nc_blocks.specs.Statement.{statement_view}
use Rattle.block_effects.specs.Courses.{equipment_of, found_in}
use Rattle.block_effects.specs.Effects.{effect_of}
use Rattle.block_effects.specs.Words.{edges_of}
use Rattle.block_effects.proofs.EffectSteps.{twice_alarms, fails_with}
use Rattle.block_effects.proofs.effects.run.Goals as goal

pub returns-in_err-modal-clause-runs : goal.returns-in_err-modal-clause-runs
returns-in_err-modal-clause-runs g c = λ blocks chain choices after composed tool.
    let equipment = equipment_of (g.S.Setup.names c.args.setup.now) (g.S.Setup.axis_named c.args.setup.now) (g.S.Setup.offset c.args.setup.now) (g.S.Setup.tools c.args.setup.now) c.args.axes.now in
    let found = found_in blocks chain choices c.args.situation.now in
    let opener = statement_view c.args.opener.now in
    let statement = statement_view c.args.stmt.now in
    let twice = c.in_err-modal.ensures.twice in
    let says = c.from_residual.ensures in
    let here = subst (λ (words : List GWord). IsTrue (has_group_twice words)) c.requires.groups twice.1 in
    let is = twice_alarms equipment found c.args.line opener statement here in
    fails_with (edges_of equipment) (effect_of equipment found c.args.line opener statement) _ _ _ _ says.1 (is ∙ ap (λ (k : ℕ). Err k) (sym twice.0))
