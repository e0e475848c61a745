use Rattle.std.proofs.Common.{◌≡◌}
use Rattle.ticket_board.proofs.Waits.{LooksOn}
use Rattle.ticket_board.specs.Passes.{IsPassOf, told_of}
use Rattle.ticket_board.proofs.board.look_until.Given as goal

abbrev pub invariant-loop : goal.invariant-loop
invariant-loop g l = IsPassOf l.fn.board l.pass × (l.pass.mine ≡ l.initial.pass.mine) × (l.pass.shut ≡ l.initial.pass.shut) × LooksOn (told_of l.initial.pass) (told_of l.pass)
