-- Steps. What a worker brings back from its thread.
use Rattle.std.specs.Prelude.{◌≡◌, IfOk, Result}
use Rattle.job_types.specs.Job.{JobView}
use Rattle.out_of_memory.specs.declared.NoMemory.{NoMemory}
use Rattle.parallel_run.specs.Workers.{WorkedView, HasMade}
use Rattle.ticket_board.specs.Passes.{TicketBoardView, TicketPassView, IsPassOf, no_history}

-- a pass of the board with which nothing was done yet
pub record IsFirstPass (board : TicketBoardView) (pass : TicketPassView) : Type 0 where
  pub own : IsPassOf board pass
  pub nothing : pass.seen ≡ no_history

-- what a worker brings back: its pass, and what it has made
abbrev pub BackView : Type 0
BackView = TicketPassView × Result WorkedView NoMemory

-- of the channel of this pass: the same pass, and where there was no error the worker has made what the pass has seen of its channel
pub record IsBack (job : JobView) (board : TicketBoardView) (pass : TicketPassView) (back : BackView) : Type 0 where
  pub own : IsPassOf board back.0
  pub channel : back.0.channel ≡ pass.channel
  pub worker : IfOk back.1 (λ w. w.channel ≡ pass.channel)
  pub made : IfOk back.1 (HasMade job back.0.start back.0.seen.entries)
