use Rattle.nc_blocks.specs.Statement.{statement_view, view_of}
use Rattle.channel_machine.proofs.PassedBlocks.{comes_at, match_option, none_at, nowhere_at}
use Rattle.channel_machine.proofs.passing.next_block.Goals as goal

pub returns-in-Some : goal.returns-in-Some
returns-in-Some c =
    match_option c.find_block.result (none_at c.args.job.now.programs c.args.local.now.levels c.in-Some.here.now c.in-Some.ensures)
    (λ next is. comes_at c.args.job.now.programs c.args.local.now.levels c.in-Some.here.now next.line (view_of next.block.now) (statement_view next.opener.now) c.in-Some.ensures is) c.find_block.ensures

pub returns-in-None : goal.returns-in-None
returns-in-None c = nowhere_at c.args.job.now.programs c.args.local.now.levels c.in-None.ensures
