use Rattle.std.proofs.Common.{◌∙◌, ℤ, List, ap}
use Rattle.block_effects.specs.Words.{values_in}
use Rattle.nc_blocks.specs.Statement.{statement_view, view_of}
use Rattle.explain_assumptions.proofs.WalkLaws.{coming_none, coming_there, fits}
use Rattle.explain_assumptions.specs.Remarks.{block_says}
use Rattle.explain_assumptions.proofs.walks.coming_of.Goals as goal

pub said_by-requires-clause-opener : goal.said_by-requires-clause-opener
said_by-requires-clause-opener c =
    let next = c.in-Some.next in
    (fits c.args.job.now.programs c.args.local.now.levels next.line (view_of next.block.now) (statement_view next.opener.now) c.in-Some.ensures).0

pub said_by-requires-clause-fits : goal.said_by-requires-clause-fits
said_by-requires-clause-fits c =
    let next = c.in-Some.next in
    (fits c.args.job.now.programs c.args.local.now.levels next.line (view_of next.block.now) (statement_view next.opener.now) c.in-Some.ensures).1

pub returns-in_ok-remarks-in-Some : goal.returns-in_ok-remarks-in-Some
returns-in_ok-remarks-in-Some c levels line block at found =
    let next = c.in-Some.next in
    coming_there c.args.job.now.programs c.args.local.now next.line (view_of next.block.now) (statement_view next.opener.now) c.in_ok-remarks-in-Some.remarks.items c.in-Some.ensures
    (c.in_ok-remarks-in-Some.ensures ∙ ap (λ (ps : List ℤ). block_says (values_in ps) next.line (statement_view next.opener.now) (statement_view next.block.now.stmt)) c.parameters.ensures)
    levels line block at found

pub returns-in-None : goal.returns-in-None
returns-in-None c levels line block at found = absurd (coming_none c.args.job.now.programs c.args.local.now c.in-None.ensures levels line block at found)
