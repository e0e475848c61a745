use Rattle.std.proofs.Common.{◌∙◌, ◌-◌, ℕ, ℤ, List, Option, None, Some, Result, ap, subst, sym, refl}
use Rattle.axis_sets.specs.Positions.{stands}
use Rattle.block_effects.specs.Courses.{Does, course_view}
use Rattle.block_effects.specs.Effects.{Effect, effect_of}
use Rattle.block_effects.specs.Words.{edges_of}
use Rattle.tool_offsets.specs.declared.tools.ToolEdge.{ToolEdge}
use Rattle.block_effects.specs.declared.course.Done.{Done}
use Rattle.block_effects.specs.declared.situation.Situation.{Situation}
use Rattle.nc_blocks.specs.Statement.{statement_view, view_of}
use Rattle.sync_types.specs.declared.Action.TheVariants.{Alarm}
use Rattle.channel_machine.specs.Kept.{IsFollowing, state_view}
use Rattle.channel_machine.specs.declared.levels.Levels.{Levels}
use Rattle.channel_machine.specs.Run.{chain_after, choices_after, ends_main, found_after, opener_at, setup_after, step_at, words_after}
use Rattle.channel_machine.proofs.Placed.{block_there, opener_there, edges_there, effect_there, equipment_in, followed_there, request_there, room_below, tool_there}
use Rattle.channel_machine.proofs.Segments.{if_ok}
use Rattle.channel_machine.proofs.Steps.{halts_at, in_situation, over_keeps, performed, stops}
use Rattle.channel_machine.proofs.run.perform.Goals as goal

pub returns-in-Ok-clause-told : goal.returns-in-Ok-clause-told
returns-in-Ok-clause-told c =
    if_ok c.leave.result (λ _. λ following. λ s. λ c'. λ levels. λ set. λ keeps. λ is. λ there. λ asks.
    let k = state_view c.args.state.now in
    let next = c.args.next in
    let here = levels.here in
    let job = c.args.job.now in
    let done : Done = record { item = c.execute_to.new.item; course = c.in-Ok.course } in
    performed s c' k keeps c.args.items.now.items levels is next.line (view_of next.block.now)
    (block_there s job.programs set.programs here (Some (next.line, view_of next.block.now)) there.found)
    (99999 - k.count) (room_below k.count c.requires.few) done c.execute_to.new.situation
    (subst (λ (edges : List ToolEdge). Does edges (effect_of (setup_after s c'.past) (found_after s c'.past) next.line (opener_at s here) (statement_view next.block.now.stmt)) done c.execute_to.new.situation) (sym (edges_there job s c' k set keeps))
    (subst (λ (r : Result Effect ℕ). Does (edges_of (equipment_in job k)) r done c.execute_to.new.situation)
    (effect_there job s c' k set keeps here next.line (statement_view next.opener.now) (statement_view next.block.now.stmt) (opener_there s job.programs set.programs here (statement_view next.opener.now) there.opens))
    (c.in-Ok.ensures.leaves (words_after c'.past) (chain_after c'.past) (choices_after c'.past) keeps.modal keeps.frame (tool_there job s c' k set keeps))))
    (c.in-Ok.ensures.modal (words_after c'.past) keeps.modal) c.in-Ok.ensures.stand
    c.args.request.now (sym (request_there job s c' k set keeps (statement_view next.block.now.stmt)) ∙ asks)
    None refl c.leave.new.halt c.leave.new.items.items (state_view c.leave.new.state)
    (subst (λ (r : Result (Option Levels) ℕ). IsFollowing (in_situation k None c.execute_to.new.situation) k.modal c.args.items.now.items c.execute_to.new.item next.line c.args.request.now
    (ends_main levels (course_view c.in-Ok.course)) r c.leave.new.halt c.leave.new.items.items (state_view c.leave.new.state))
    (followed_there s job.skip job.programs set.skip set.programs levels (course_view c.in-Ok.course)) (following levels is))) c.leave.ensures.told

pub returns-in-Alarm-clause-told : goal.returns-in-Alarm-clause-told
returns-in-Alarm-clause-told c s c' levels set keeps is there asks =
    let k = state_view c.args.state.now in
    let items = c.args.items.now.items in
    let next = c.args.next in
    let here = levels.here in
    let job = c.args.job.now in
    halts_at s c' items k _ next.line (Alarm c.in-Alarm.code) _
    (stops s c' k keeps items levels is next.line (view_of next.block.now)
    (block_there s job.programs set.programs here (Some (next.line, view_of next.block.now)) there.found)
    (99999 - k.count) c.in-Alarm.code (room_below k.count c.requires.few)
    c.args.request.now (sym (request_there job s c' k set keeps (statement_view next.block.now.stmt)) ∙ asks)
    (sym (effect_there job s c' k set keeps here next.line (statement_view next.opener.now) (statement_view next.block.now.stmt) (opener_there s job.programs set.programs here (statement_view next.opener.now) there.opens))
    ∙ (rw c.in-Alarm.is at (c.in-Err.ensures.leaves (words_after c'.past) (chain_after c'.past) (choices_after c'.past) keeps.modal keeps.frame (tool_there job s c' k set keeps)))))
    (c.stop.ensures.step ∙ ap (λ (at : List (Option ℤ)). Some (step_at k.axes k.on (stands at) next.line (Alarm c.in-Alarm.code))) (ap (λ (old : Situation). old.at) c.in-Err.ensures.unchanged))
    (over_keeps s c' k keeps items _
    (ap state_view c.stop.ensures.nowhere ∙ ap (in_situation k None) c.in-Err.ensures.unchanged))
