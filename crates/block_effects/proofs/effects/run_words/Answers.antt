use Rattle.std.proofs.Common.{◌∙◌, ◌++◌, [], ◌∷◌, map, Err, refl, ap, sym, subst}
use Rattle.axis_sets.specs.Positions.{stands}
use Rattle.nc_blocks.specs.Statement.{word_view}
use Rattle.block_effects.specs.Courses.{TellsAll, equipment_of, found_in}
use Rattle.block_effects.specs.Effects.{words_then_motion, held_after, words_run}
use Rattle.block_effects.specs.Words.{Progress, edges_of}
use Rattle.block_effects.proofs.EffectSteps.{begun_is, words_end, does_left, fails_with}
use Rattle.block_effects.proofs.effects.run_words.Goals as goal

pub returns-in_err-run_from-clause-runs : goal.returns-in_err-run_from-clause-runs
returns-in_err-run_from-clause-runs g c = λ blocks chain choices after composed tool.
    let equipment = equipment_of (g.S.Setup.names c.args.setup.now) (g.S.Setup.axis_named c.args.setup.now) (g.S.Setup.offset c.args.setup.now) (g.S.Setup.tools c.args.setup.now) c.args.axes.now in
    let situation = c.args.situation.now in
    let found = found_in blocks chain choices situation in
    let words = map word_view c.args.words.now in
    let held = held_after equipment.offset (blocks ++ c.args.groups.now ∷ []) chain in
    let nothing = c.nothing-done.ensures in
    let begins = begun_is situation.parameters choices c.nothing-done.result nothing.targets nothing.arc nothing.ends in
    let code = c.in_err-run_from.field-0.0 in
    let is = words_end equipment found c.args.line c.args.groups.now words (Err code)
    (ap (λ (p : Progress). words_then_motion equipment held (stands situation.at) c.args.groups.now p words) (sym begins)
    ∙ c.in_err-run_from.ensures.acts (blocks ++ c.args.groups.now ∷ []) chain choices after composed (nothing.tool ∙ tool)) in
    let says = c.from_residual.ensures in
    fails_with (edges_of equipment) (words_run equipment found c.args.line c.args.groups.now words) _ _ _ code says.1 is

pub returns-clause-runs : goal.returns-clause-runs
returns-clause-runs g c = λ blocks chain choices after composed tool.
    let equipment = equipment_of (g.S.Setup.names c.args.setup.now) (g.S.Setup.axis_named c.args.setup.now) (g.S.Setup.offset c.args.setup.now) (g.S.Setup.tools c.args.setup.now) c.args.axes.now in
    let situation = c.args.situation.now in
    let found = found_in blocks chain choices situation in
    let words = map word_view c.args.words.now in
    let held = held_after equipment.offset (blocks ++ c.args.groups.now ∷ []) chain in
    let nothing = c.nothing-done.ensures in
    let begins = begun_is situation.parameters choices c.nothing-done.result nothing.targets nothing.arc nothing.ends in
    let acted = λ (p : Progress). words_then_motion equipment held (stands situation.at) c.args.groups.now p words in
    let told = subst (λ (p : Progress). TellsAll (edges_of equipment) (words_then_motion equipment held (stands situation.at) c.args.groups.now p words) c.run_from.new.parameters c.run_from.new.done) begins
    (c.in_ok-run_from.ensures.acts (blocks ++ c.args.groups.now ∷ []) chain choices after composed (nothing.tool ∙ tool)) in
    does_left (edges_of equipment) c.args.line found _ c.run_from.new.parameters c.run_from.new.done (words_run equipment found c.args.line c.args.groups.now words) _ _
    (words_end equipment found c.args.line c.args.groups.now words _ refl) told refl composed refl (sym c.put_motion.ensures) (sym c.course_of.ensures)
