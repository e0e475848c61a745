use Rattle.std.proofs.Common.{Some, refl}
use Rattle.ticket_board.proofs.Turning.{look_wants_none}
use Rattle.ticket_board.proofs.Waits.{looks_refl}
use Rattle.ticket_board.specs.Passes.{told_of}
use Rattle.ticket_board.proofs.board.look_until.Goals as goal

pub loop-init : goal.loop-init
loop-init g c = (c.requires, refl, refl, looks_refl (told_of c.args.pass.now))

pub returns-in-Some-look_once-clause-memory : goal.returns-in-Some-look_once-clause-memory
returns-in-Some-look_once-clause-memory g c = let q = c.look_once.new.self in look_wants_none q.start q.seen q.channel (Some c.in-Some-look_once.outcome) c.in-Some-look_once.ensures.looked.told
