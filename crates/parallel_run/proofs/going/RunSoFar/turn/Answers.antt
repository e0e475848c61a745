use Rattle.std.proofs.Common.{◌≡◌, ◌<◌, List, [], ◌∷◌, ◌++◌, Option, None, arith, ap, get_or, length, map, subst, sym, ◌∙◌}
use Rattle.std.proofs.lemmas.List.{get_or_read}
use Rattle.axis_sets.specs.declared.limits.TheConstants.{CHANNEL_PLACES}
use Rattle.channel_machine.proofs.KeptLocals.{put}
use Rattle.channel_machine.proofs.Pasts.{map-push}
use Rattle.channel_machine.specs.Kept.{KeptSegment, StateView}
use Rattle.channel_machine.specs.Locals.{IsKeptOf, IsReady, IsSegmentOf}
use Rattle.parallel_run.proofs.GoneOn.{ready_put}
use Rattle.parallel_run.proofs.going.RunSoFar.turn.Goals as goal

pub returns-clause-turn : goal.returns-clause-turn
returns-clause-turn c =
    let locals : List (Option StateView) = c.args.self.now.locals.items in
    let kept : KeptSegment = record { items = c.done.inside.items.items; step = c.done.inside.step; after = c.done.inside.after } in
    let at : c.from-place.result ≡ c.args.channel = c.from-place.ensures ∙ c.channel.view_is in
    let below : c.args.channel < CHANNEL_PLACES = omega (arith, c.channel.invariant.1, c.channel.view_is) in
    let room : c.from-place.result < length locals = omega (arith, at, below, c.requires.ready.places) in
    let had : c.take-local.result ≡ get_or locals c.args.channel None =
    c.take-local.ensures.value ∙ get_or_read locals _ _ room c.index_mut.ensures.value None ∙ ap (λ k. get_or locals k None) at in
    let there = put locals c.from-place.result c.args.channel c.take-local.new.self c.done.inside.after at c.requires.ready.places below in
    record {
      segment = kept;
      told = λ made is. subst (λ (k : KeptSegment). IsSegmentOf c.args.job.now c.args.channel (made ++ c.args.grant.now ∷ []) k) (sym c.done.view_is)
          (c.in_ok-done.ensures.told made (subst (λ (o : Option StateView). IsKeptOf c.args.job.now c.args.channel made o) (sym had) is));
      ready = subst (λ (k : KeptSegment). IsReady c.args.job.now c.args.channel k.after) (sym c.done.view_is) c.in_ok-done.ensures.ready;
      acted = c.in_ok-act.ensures.ok;
      items = ap (map (λ items. items.items)) c.in_ok-push.ensures.items ∙ map-push (λ items. items.items) c.args.self.now.items.items c.done.inside.items;
      here = there.here;
      others = there.others;
    }

pub returns-clause-ready : goal.returns-clause-ready
returns-clause-ready c =
    let locals : List (Option StateView) = c.args.self.now.locals.items in
    let at : c.from-place.result ≡ c.args.channel = c.from-place.ensures ∙ c.channel.view_is in
    let below : c.args.channel < CHANNEL_PLACES = omega (arith, c.channel.invariant.1, c.channel.view_is) in
    ready_put c.args.job.now locals c.args.channel c.done.inside.after _ c.requires.ready (put locals c.from-place.result c.args.channel c.take-local.new.self c.done.inside.after at c.requires.ready.places below)
    (subst (λ (k : KeptSegment). IsReady c.args.job.now c.args.channel k.after) (sym c.done.view_is) c.in_ok-done.ensures.ready)
