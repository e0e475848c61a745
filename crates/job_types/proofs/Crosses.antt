-- A job and its programs may go to another thread (send) and be shared by threads (sync), since resolved programs, variables and tools may.
use denote.Param.Send.{AllSend, AllSync, IsSend, IsSync, recorded_send, recorded_sync, sendable, struct_send, struct_sync, view_send, view_sync}
use denote.Struct.Declared.{fields, shape}
use Rattle.std.proofs.Crossing.{crosses}
use Rattle.std.proofs.MapsCrossing as maps
use Rattle.nc_control_flow.proofs.Crosses.{flow_send, flow_sync}
use Rattle.nc_variables.proofs.Crosses.{table_send, table_sync}
use Rattle.tool_offsets.proofs.Crosses.{tools_send, tools_sync}
use Rattle.job_types.specs.contracts.job.ChannelLine as ChannelLine
use Rattle.job_types.specs.contracts.job.Job as Job
use Rattle.job_types.specs.contracts.job.Job.TheInside as inside
use Rattle.job_types.specs.contracts.job.Program as Program
use Rattle.job_types.specs.contracts.job.ZoneLine as ZoneLine

pub program_send : IsSend Program.the_field.row
program_send = search (sendable, flow_send, table_send) depth 40

pub program_sync : IsSync Program.the_field.row
program_sync = search (sendable, flow_sync, table_sync) depth 40

channel_send : IsSend ChannelLine.the_field.row
channel_send = search (sendable, crosses) depth 40

channel_sync : IsSync ChannelLine.the_field.row
channel_sync = search (sendable, crosses) depth 40

zone_send : IsSend ZoneLine.the_field.row
zone_send = search (sendable, crosses) depth 40

zone_sync : IsSync ZoneLine.the_field.row
zone_sync = search (sendable, crosses) depth 40

ruleset sent = (sendable, crosses, maps.crosses, program_send, channel_send, zone_send, tools_send)

ruleset shared = (sendable, crosses, maps.crosses, program_sync, channel_sync, zone_sync, tools_sync)

-- one for each field
fields_send : AllSend (fields inside.the_type)
fields_send = (
  search sent depth 40 fits 20000,
  (
    search sent depth 40 fits 20000,
    (
      search sent depth 40 fits 20000,
      (
        search sent depth 40 fits 20000,
        (
          search sent depth 40 fits 20000,
          (
            search sent depth 40 fits 20000,
            (
              search sent depth 40 fits 20000,
              (
                search sent depth 40 fits 20000,
                (
                  search sent depth 40 fits 20000,
                  (
                    search sent depth 40 fits 20000,
                    (
                      search sent depth 40 fits 20000,
                      (
                        search sent depth 40 fits 20000,
                        (
                          search sent depth 40 fits 20000,
                          (
                            search sent depth 40 fits 20000,
                            (
                              search sent depth 40 fits 20000,
                              (
                                search sent depth 40 fits 20000,
                                (
                                  search sent depth 40 fits 20000,
                                  (
                                    search sent depth 40 fits 20000,
                                    tt,
                                  ),
                                ),
                              ),
                            ),
                          ),
                        ),
                      ),
                    ),
                  ),
                ),
              ),
            ),
          ),
        ),
      ),
    ),
  ),
)

fields_sync : AllSync (fields inside.the_type)
fields_sync = (
  search shared depth 40 fits 20000,
  (
    search shared depth 40 fits 20000,
    (
      search shared depth 40 fits 20000,
      (
        search shared depth 40 fits 20000,
        (
          search shared depth 40 fits 20000,
          (
            search shared depth 40 fits 20000,
            (
              search shared depth 40 fits 20000,
              (
                search shared depth 40 fits 20000,
                (
                  search shared depth 40 fits 20000,
                  (
                    search shared depth 40 fits 20000,
                    (
                      search shared depth 40 fits 20000,
                      (
                        search shared depth 40 fits 20000,
                        (
                          search shared depth 40 fits 20000,
                          (
                            search shared depth 40 fits 20000,
                            (
                              search shared depth 40 fits 20000,
                              (
                                search shared depth 40 fits 20000,
                                (
                                  search shared depth 40 fits 20000,
                                  (
                                    search shared depth 40 fits 20000,
                                    tt,
                                  ),
                                ),
                              ),
                            ),
                          ),
                        ),
                      ),
                    ),
                  ),
                ),
              ),
            ),
          ),
        ),
      ),
    ),
  ),
)

pub job_send : IsSend Job.the_field.row
job_send = view_send inside.the_row _ _ _ _ (recorded_send _ _ (inside.the_type).to (inside.the_type).to_one (struct_send (shape inside.the_type) fields_send))

pub job_sync : IsSync Job.the_field.row
job_sync = view_sync inside.the_row _ _ _ _ (recorded_sync _ _ (inside.the_type).to (inside.the_type).to_one (struct_sync (shape inside.the_type) fields_sync))
