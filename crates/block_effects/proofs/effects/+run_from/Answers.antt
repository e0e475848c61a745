use Rattle.std.proofs.Common.{rules, ◌≡◌, [], length, refl, arith, unwrap_or}
use Rattle.std.proofs.lemmas.List.{nil_from_length}
use Rattle.axis_sets.specs.Positions.{stands}
use Rattle.block_effects.specs.Effects.{held_after}
use Rattle.tool_offsets.specs.Choices.{lengths_after}
use Rattle.nc_blocks.specs.Indices.{WordFits}
use Rattle.nc_blocks.specs.Statement.{word_view}
use Rattle.block_effects.proofs.Steps.{holds_at, rest_fits}
use Rattle.block_effects.proofs.Unmoved.{nothing_moves, nothing_programmed_moves_nothing}
use Rattle.block_effects.proofs.effects.+run_from.Goals as goal

pub act-requires-clause-fits : goal.act-requires-clause-fits
act-requires-clause-fits g t c = holds_at WordFits word_view c.args.words.now 0 c.word-item.result c.requires.fits c.in-len1-up.len_at_least c.word-item.is

pub run_from-requires : goal.run_from-requires
run_from-requires g t c κs within = (search rules, (search rules, (rest_fits WordFits word_view c.args.words.now c.requires.fits, c.act.ensures.told)))

pub returns-else-done-clause-acts : goal.returns-else-done-clause-acts
returns-else-done-clause-acts g t c = λ blocks chain choices after composed tool.
    let few = c.in_default.len_below in
    let size : length c.args.words.now ≡ 0 = omega arith in
    let none : c.args.words.now ≡ [] = nil_from_length c.args.words.now size in
    let edges = unwrap_or (g.S.Setup.tools c.args.setup.now) [] in
    rw (
      none,
      nothing_moves c.args.axes.now.slots c.args.axes.now.owned (held_after (g.S.Setup.offset c.args.setup.now) blocks chain (lengths_after edges choices)) (stands c.args.at.now) c.args.groups.now c.args.done.now.targets c.args.done.now.arc
          (nothing_programmed_moves_nothing c.args.done.now c.requires.told c.if-done.false),
    ) (record { same = refl; tool = tool }, refl)
