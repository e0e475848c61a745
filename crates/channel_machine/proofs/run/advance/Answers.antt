use Rattle.std.proofs.Common.{◌∙◌, ◌-◌, None, Some, ap, sym}
use Rattle.nc_blocks.specs.Statement.{statement_view, view_of}
use Rattle.sync_types.specs.declared.Action.TheVariants.{Alarm}
use Rattle.channel_machine.specs.Kept.{state_view}
use Rattle.channel_machine.proofs.Placed.{block_there, request_there, room}
use Rattle.channel_machine.proofs.Segments.{if_ok}
use Rattle.channel_machine.proofs.Steps.{halts_at, nowhere, no_block, over_keeps, refuses, spent}
use Rattle.channel_machine.proofs.run.advance.Goals as goal

pub returns-in_default-clause-told : goal.returns-in_default-clause-told
returns-in_default-clause-told c s c' set keeps =
    let k = state_view c.args.state.now in
    let items = c.args.items.now.items in
    halts_at s c' items k _ k.last (Alarm 9) _ (nowhere s c' k keeps items c.in_default.is) c.stop.ensures.step (over_keeps s c' k keeps items _ (ap state_view c.stop.ensures.nowhere))

pub returns-in_default-find_block-clause-told : goal.returns-in_default-find_block-clause-told
returns-in_default-find_block-clause-told c s c' set keeps =
    let k = state_view c.args.state.now in
    let items = c.args.items.now.items in
    halts_at s c' items k _ k.last (Alarm 9) _
    (no_block s c' k keeps items c.in-Some.levels c.in-Some.is
    (block_there s c.args.job.now.programs set.programs c.in-Some.levels.here None c.in_default-find_block.ensures)) c.stop-in_default-find_block.ensures.step (over_keeps s c' k keeps items _ (ap state_view c.stop-in_default-find_block.ensures.nowhere))

pub returns-then-state-eq-BLOCK_LIMIT-clause-told : goal.returns-then-state-eq-BLOCK_LIMIT-clause-told
returns-then-state-eq-BLOCK_LIMIT-clause-told c s c' set keeps =
    let k = state_view c.args.state.now in
    let items = c.args.items.now.items in
    let next = c.in-Some-find_block.next in
    halts_at s c' items k _ next.line (Alarm 8) _
    (spent s c' k keeps items c.in-Some.levels c.in-Some.is next.line (view_of next.block.now)
    (block_there s c.args.job.now.programs set.programs c.in-Some.levels.here (Some (next.line, view_of next.block.now)) c.in-Some-find_block.ensures.found) c.if-state-eq-BLOCK_LIMIT.true)
    c.stop-then-state-eq-BLOCK_LIMIT.ensures.step (over_keeps s c' k keeps items _ (ap state_view c.stop-then-state-eq-BLOCK_LIMIT.ensures.nowhere))

pub returns-in-Err-clause-told : goal.returns-in-Err-clause-told
returns-in-Err-clause-told c s c' set keeps =
    let k = state_view c.args.state.now in
    let items = c.args.items.now.items in
    let next = c.in-Some-find_block.next in
    let job = c.args.job.now in
    halts_at s c' items k _ next.line (Alarm c.in-Err.code) _
    (refuses s c' k keeps items c.in-Some.levels c.in-Some.is next.line (view_of next.block.now)
    (block_there s job.programs set.programs c.in-Some.levels.here (Some (next.line, view_of next.block.now)) c.in-Some-find_block.ensures.found)
    (99999 - k.count) c.in-Err.code (room k.count c.requires.few c.if-state-eq-BLOCK_LIMIT.false)
    (sym (request_there job s c' k set keeps (statement_view next.block.now.stmt)) ∙ sym c.request_in.ensures ∙ c.in-Err.is))
    c.stop-in-Err.ensures.step (over_keeps s c' k keeps items _ (ap state_view c.stop-in-Err.ensures.nowhere))

pub returns-clause-told : goal.returns-clause-told
returns-clause-told c =
    if_ok c.perform.result (λ _. λ advances. λ s. λ c'. λ set. λ keeps. advances s c' c.in-Some.levels set keeps c.in-Some.is c.in-Some-find_block.ensures (sym c.request_in.ensures ∙ c.in-Ok.is)) c.perform.ensures.told
