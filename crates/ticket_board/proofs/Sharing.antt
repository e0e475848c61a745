-- A seat may be shared by threads, and so may a pass: it has no bytes, and what it owns names no thread.
use denote.Param.Send.{IsSend, IsSync, sendable, whole-keyless}
use denote.RattleType.{RattleType}
use Rattle.atomic_table.proofs.shared.Seat.TheSendSync.{the_send}
use Rattle.atomic_table.specs.contracts.shared.Seat.{the_row}
use Rattle.axis_sets.proofs.ids.ChannelId.TheSendSync as channel
use Rattle.std.proofs.Crossing.{crosses}
use Rattle.ticket_board.proofs.held.HeldBoard.TheSendSync as held
use Rattle.ticket_board.specs.contracts.pass.TicketPass as TicketPass

seat_sync : (S V : RattleType) → IsSend S → IsSync (the_row S V)
seat_sync S V s = record { shared = λ d b o κ q. whole-keyless _ _ (the_send S V s).owned q d b o }

pub pass_sync : IsSync TicketPass.the_field.row
pass_sync = search (sendable, crosses, seat_sync, held.the_send, channel.the_sync) depth 40 fits 20000
