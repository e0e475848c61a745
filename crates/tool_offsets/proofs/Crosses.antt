-- The tools of a channel may go to another thread (send) and be shared by threads (sync).
use denote.Param.Send.{IsSend, IsSync, sendable}
use Rattle.std.proofs.Crossing.{crosses}
use Rattle.tool_offsets.specs.contracts.tools.Tools as Tools

pub tools_send : IsSend Tools.the_field.row
tools_send = search (sendable, crosses) depth 40

pub tools_sync : IsSync Tools.the_field.row
tools_sync = search (sendable, crosses) depth 40
