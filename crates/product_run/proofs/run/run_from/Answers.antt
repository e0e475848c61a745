use Rattle.std.proofs.Common.{◌≡◌, ◌<◌, ◌++◌, [], ◌∷◌, List, Some, None, ap, arith, get_or, length, subst, sym, map, ◌∙◌}
use Rattle.std.proofs.lemmas.List.{get_or_read}
use Rattle.std.proofs.Math.ListN.{set}
use Rattle.axis_sets.specs.declared.limits.TheConstants.{CHANNEL_PLACES}
use Rattle.channel_machine.proofs.KeptLocals.{put}
use Rattle.channel_machine.proofs.Pasts.{map-push}
use Rattle.channel_machine.specs.Kept.{KeptSegment}
use Rattle.product_run.proofs.Turns.{turn_lowers, turn_made}
use Rattle.channel_machine.specs.Locals.{IsKeptOf, IsReady, IsSegmentOf}
use Rattle.sync_types.specs.declared.Grant.{Grant}
use Rattle.coord_core.specs.Boards.{replayed}
use Rattle.coord_core.proofs.Granted.{is_granted, lowest_runs}
use Rattle.channel_machine.proofs.RunsSoFar.{board_after}
use Rattle.product_run.proofs.Progress.{whole}
use Rattle.product_run.proofs.run.run_from.Goals as goal
use Rattle.channel_machine.specs.Scripts.{IsRunInOrder}
use Rattle.sync_types.specs.BoardEnds.{ends_of}
use Rattle.sync_types.specs.Boards.{Board, first_board}
use Rattle.sync_types.specs.Runs.{lowest_running}
use Rattle.sync_types.specs.Turns.{after_entries}
use Rattle.sync_types.specs.Views.{EntryView, StartView}
use Rattle.sync_types.specs.declared.ChannelEnd.{ChannelEnd}
use Rattle.sync_types.specs.declared.Item.{Item}

pub unreachable-requires : goal.unreachable-requires
unreachable-requires c =
    let b : Board = replayed c.loop-channel.board in
    is_granted (b.state c.in-Some.channel) (lowest_runs b c.in-Some.channel (sym c.lowest_running.ensures ∙ c.in-Some.is)) (sym c.grant_of.ensures ∙ c.in_default-grant_of.is)

pub loop-channel-smaller : goal.loop-channel-smaller
loop-channel-smaller c =
    let rows : List (List Item) = map (λ items. items.items) c.loop-channel.items.items in
    let kept : KeptSegment = record { items = c.done.inside.items.items; step = c.done.inside.step; after = c.done.inside.after } in
    let at : c.from-place.result ≡ c.in-Some.channel = c.from-place.ensures ∙ c.channel.view_is in
    let below : c.in-Some.channel < CHANNEL_PLACES = omega (arith, c.channel.invariant.1, c.channel.view_is) in
    let room : c.from-place.result < length c.loop-channel.locals.items = omega (arith, at, below, c.loop-channel.invariant.1.run.places) in
    let had : c.take-local.result ≡ get_or c.loop-channel.locals.items c.in-Some.channel None =
    c.take-local.ensures.value ∙ get_or_read c.loop-channel.locals.items _ _ room c.index_mut.ensures.value None ∙ ap (λ k. get_or c.loop-channel.locals.items k None) at in
    let told = λ (made : List Grant) (is : IsKeptOf c.args.job.now c.in-Some.channel made c.take-local.result).
    subst (λ (k : KeptSegment). IsSegmentOf c.args.job.now c.in-Some.channel (made ++ c.in-Some-grant_of.grant ∷ []) k) (sym c.done.view_is) (c.in_ok-done.ensures.told made is) in
    turn_lowers c.args.job.now c.args.start.now c.loop-channel.board rows c.loop-channel.locals.items c.loop-channel.invariant.0 c.loop-channel.invariant.1 c.in-Some.channel c.in-Some-grant_of.grant kept
    c.take-local.result (sym c.lowest_running.ensures ∙ c.in-Some.is) (sym c.grant_of.ensures ∙ c.in-Some-grant_of.is) had told c.act.new.self c.in_ok-act.ensures.ok

pub loop-channel-preserved : goal.loop-channel-preserved
loop-channel-preserved c =
    let rows : List (List Item) = map (λ items. items.items) c.loop-channel.items.items in
    let kept : KeptSegment = record { items = c.done.inside.items.items; step = c.done.inside.step; after = c.done.inside.after } in
    let at : c.from-place.result ≡ c.in-Some.channel = c.from-place.ensures ∙ c.channel.view_is in
    let below : c.in-Some.channel < CHANNEL_PLACES = omega (arith, c.channel.invariant.1, c.channel.view_is) in
    let room : c.from-place.result < length c.loop-channel.locals.items = omega (arith, at, below, c.loop-channel.invariant.1.run.places) in
    let had : c.take-local.result ≡ get_or c.loop-channel.locals.items c.in-Some.channel None =
    c.take-local.ensures.value ∙ get_or_read c.loop-channel.locals.items _ _ room c.index_mut.ensures.value None ∙ ap (λ k. get_or c.loop-channel.locals.items k None) at in
    let told = λ (made : List Grant) (is : IsKeptOf c.args.job.now c.in-Some.channel made c.take-local.result).
    subst (λ (k : KeptSegment). IsSegmentOf c.args.job.now c.in-Some.channel (made ++ c.in-Some-grant_of.grant ∷ []) k) (sym c.done.view_is) (c.in_ok-done.ensures.told made is) in
    turn_made c.args.job.now c.args.start.now c.loop-channel.board rows c.loop-channel.locals.items c.loop-channel.invariant.0 c.loop-channel.invariant.1 c.in-Some.channel c.in-Some-grant_of.grant kept
    c.take-local.result (sym c.lowest_running.ensures ∙ c.in-Some.is) (sym c.grant_of.ensures ∙ c.in-Some-grant_of.is) had told c.act.new.self c.in_ok-act.ensures.ok
    (set (set c.loop-channel.locals.items c.from-place.result c.take-local.new.self) c.from-place.result (Some c.done.inside.after)) (map (λ items. items.items) c.push.new.self.items)
    (put c.loop-channel.locals.items c.from-place.result c.in-Some.channel c.take-local.new.self c.done.inside.after at c.loop-channel.invariant.1.run.places below)
    (ap (map (λ items. items.items)) c.in_ok-push.ensures.items ∙ map-push (λ items. items.items) c.loop-channel.items.items c.done.inside.items)
    (subst (λ (k : KeptSegment). IsReady c.args.job.now c.in-Some.channel k.after) (sym c.done.view_is) c.in_ok-done.ensures.ready)

pub returns : goal.returns
returns c =
    let es : List EntryView = c.loop-channel.board.entries in
    let start : StartView = c.args.start.now in
    let rows : List (List Item) = map (λ items. items.items) c.loop-channel.items.items in
    let same : replayed c.loop-channel.board ≡ board_after start es = ap (λ (s : StartView). after_entries (first_board s) es) c.loop-channel.invariant.0 in
    let P : List EntryView → Type 0 = λ xs. IsRunInOrder c.args.job.now start (record { entries = xs; items = rows; ends = c.ends_of-ends.result.items }) in
    let Q : List ChannelEnd → Type 0 = λ xs. IsRunInOrder c.args.job.now start (record { entries = es; items = rows; ends = xs }) in
    subst P (sym c.into_entries.ensures)
    (subst Q (sym (c.ends_of-ends.ensures ∙ ap ends_of same))
    (whole c.args.job.now start es rows c.loop-channel.locals.items c.loop-channel.invariant.1 (ap lowest_running (sym same) ∙ sym c.lowest_running.ensures ∙ c.in_default.is)))
