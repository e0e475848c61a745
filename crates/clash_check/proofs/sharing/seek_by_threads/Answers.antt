-- The first answer of the chunks is that of all pairs.
use denote.Param.Send.{IsSync, sendable}
use Rattle.std.proofs.Common.{◌∙◌, ◌<◌, List, length, ap, le_trans}
use Rattle.std.proofs.Crossing.{crosses}
use Rattle.std.specs.Prelude.{Option}
use Rattle.clash_check.proofs.ChunkLaws.{first_of_chunks, room_of_few}
use Rattle.clash_check.specs.Chunks.{chunk_count}
use Rattle.clash_check.specs.FirstAnswer.{first_some}
use Rattle.clash_check.specs.Meetings.{Names}
use Rattle.zone_stretches.specs.Cases.{Case}
use Rattle.zone_stretches.specs.Times.{lists_in}
use Rattle.clash_check.specs.ZonePairs.{first_of_pair}
use Rattle.job_types.proofs.Crosses.{job_sync}
use Rattle.order_clocks.specs.Tells.{is_before_in}
use Rattle.zone_stretches.specs.Stretches.{StretchView}
use Rattle.order_clocks.specs.contracts.clocks.Clocks as Clocks
use Rattle.zone_stretches.specs.contracts.stretches.Stretch as Stretch
use Rattle.sync_types.specs.contracts.runs.Entry as Entry
use Rattle.sync_types.specs.contracts.runs.Run as Run
use Rattle.sync_types.specs.contracts.Item as Item
use Rattle.sync_types.specs.contracts.ChannelEnd as ChannelEnd
use Rattle.clash_check.proofs.sharing.seek_by_threads.Goals as goal

item_sync : IsSync Item.the_field.row
item_sync = search (sendable, crosses) depth 40 fits 20000

entry_sync : IsSync Entry.the_field.row
entry_sync = search (sendable, crosses) depth 40 fits 20000

end_sync : IsSync ChannelEnd.the_field.row
end_sync = search (sendable, crosses) depth 40 fits 20000

run_sync : IsSync Run.the_field.row
run_sync = search (sendable, crosses, item_sync, entry_sync, end_sync) depth 40 fits 20000

clocks_sync : IsSync Clocks.the_field.row
clocks_sync = search (sendable, crosses) depth 40 fits 20000

stretch_sync : IsSync Stretch.the_field.row
stretch_sync = search (sendable, crosses) depth 40 fits 20000

pub seek_in_chunks-requires-sync-S : goal.seek_in_chunks-requires-sync-S
seek_in_chunks-requires-sync-S g c κs within = search (sendable, crosses, job_sync, run_sync, clocks_sync, stretch_sync) depth 40 fits 20000

pub seek_in_chunks-requires-clause-few : goal.seek_in_chunks-requires-clause-few
seek_in_chunks-requires-clause-few g c κs within = le_trans c.chunk_size-size.ensures.few c.chunks_of-chunks.ensures.few

pub seek_in_chunks-requires-clause-room : goal.seek_in_chunks-requires-clause-room
seek_in_chunks-requires-clause-room g c κs within =
    le_trans
    (room_of_few c.room_for.result (chunk_count (length c.args.pairs.now) c.chunk_size-size.result) c.chunks_of-chunks.result c.args.scene.now.room c.chunk_size-size.ensures.few c.room_for.ensures)
    c.requires.room

pub returns : goal.returns
returns g c =
    let case : Case = record { job = c.args.scene.now.job.now; run = c.args.scene.now.run.now; before = is_before_in c.args.scene.now.clocks.now.rows } in
    let lists : List (List StretchView) = lists_in c.args.lists.now in
    let some : 0 < c.chunk_size-size.result = c.chunk_size-size.ensures.some in
    c.first_answer.ensures ∙ ap (λ (answers : List (Option Names)). first_some (λ answer. answer) answers) c.deref.ensures.value
    ∙ first_of_chunks (first_of_pair case lists) c.chunk_size-size.result c.args.pairs.now c.in_ok-answers.answers.items some c.in_ok-answers.ensures.chunks
