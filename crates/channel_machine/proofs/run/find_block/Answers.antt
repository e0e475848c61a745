use Rattle.std.proofs.Common.{◌∙◌, ℕ, List, map, slice_get, option_copied, ap, sym, subst}
use Rattle.nc_blocks.specs.Indices.{StatementFits}
use Rattle.nc_blocks.specs.Statement.{BlockView}
use Rattle.nc_control_flow.specs.Parts.{statement_at, views}
use Rattle.nc_control_flow.specs.Structures.{opening}
use Rattle.job_types.specs.Job.{block_entry, names_of}
use Rattle.channel_machine.proofs.Fitting.{block_fits, statement_fits}
use Rattle.channel_machine.proofs.Going.{views_are}
use Rattle.channel_machine.proofs.Placed.{viewed, viewed_none}
use Rattle.channel_machine.proofs.run.find_block.Goals as goal

pub returns-in-Some-block : goal.returns-in-Some-block
returns-in-Some-block c =
    let job = c.args.job.now in
    let here = c.args.here.now in
    let flow = c.in-Some.flow.now in
    let e = c.in-Some-block.field-0.now in
    record {
      found = ap (λ (ls : List (ℕ × BlockView)). slice_get ls here.pc) c.in-Some.ensures ∙ viewed block_entry flow here.pc e (sym c.in-Some-block.ensures.block);
      opens = c.opener_of.ensures ∙ ap (λ (bs : List BlockView). statement_at (opening here.pc bs) bs) (sym (views_are job.programs here.program flow c.in-Some.ensures));
      fits = block_fits job c.requires here.program flow c.in-Some.ensures here.pc e (sym c.in-Some-block.ensures.block);
      opener_fits = subst (StatementFits (names_of (map block_entry flow))) (sym c.opener_of.ensures) (statement_fits job c.requires here.program flow c.in-Some.ensures (opening here.pc (views flow)));
    }

pub returns-in-None : goal.returns-in-None
returns-in-None c =
    let here = c.args.here.now in
    let flow = c.in-Some.flow.now in
    ap (λ (ls : List (ℕ × BlockView)). slice_get ls here.pc) c.in-Some.ensures ∙ viewed_none block_entry flow here.pc (sym c.block.ensures.block ∙ ap option_copied c.in-None.is)
