-- A table of variables may go to another thread (send) and be shared by threads (sync).
use denote.Param.Send.{IsSend, IsSync, sendable}
use Rattle.std.proofs.Crossing.{crosses}
use Rattle.nc_variables.specs.contracts.table.VarTable as VarTable

pub table_send : IsSend VarTable.the_field.row
table_send = search (sendable, crosses) depth 40

pub table_sync : IsSync VarTable.the_field.row
table_sync = search (sendable, crosses) depth 40
