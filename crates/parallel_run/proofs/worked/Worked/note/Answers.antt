use Rattle.std.proofs.Common.{◌≡◌, [], ◌∷◌, ◌++◌, List, Option, Some, map, refl, ap, sym, subst, ◌∙◌}
use Rattle.channel_machine.proofs.Pasts.{map-push}
use Rattle.channel_machine.specs.Kept.{KeptSegment, StateView}
use Rattle.channel_machine.specs.Locals.{IsKeptOf, IsSegmentOf}
use Rattle.job_types.specs.Job.{JobView}
use Rattle.parallel_run.proofs.Notes.{noted_worked}
use Rattle.parallel_run.proofs.worked.Worked.note.Goals as goal
use Rattle.parallel_run.specs.Workers.{HasNoted, IsWorked, WorkedView}
use Rattle.sync_types.specs.declared.Grant.{Grant}

pub returns-clause-noted : goal.returns-clause-noted
returns-clause-noted c =
    let job : JobView = c.args.job.now in
    let grant : Grant = c.args.grant.now in
    let before : WorkedView = record { channel = c.self.inside.channel; items = map (λ items. items.items) c.self.inside.items.items; last = c.self.inside.last } in
    let kept : KeptSegment = record { items = c.items.inside.items.items; step = c.items.inside.step; after = c.items.inside.after } in
    let after : WorkedView = record { channel = c.self.inside.channel; items = map (λ items. items.items) c.push_back.new.self.items; last = Some c.items.inside.after } in
    let told : (grants : List Grant) → IsWorked job grants before → IsSegmentOf job before.channel (grants ++ grant ∷ []) kept =
    λ grants is. subst (λ (k : KeptSegment). IsSegmentOf job before.channel (grants ++ grant ∷ []) k) (sym c.items.view_is)
    (c.in_ok-items.ensures.told grants (subst (λ (o : Option StateView). IsKeptOf job before.channel grants o) (sym c.take-local.ensures.value) is.kept)) in
    let more : after.items ≡ before.items ++ kept.items ∷ [] =
    ap (map (λ items. items.items)) c.in_ok-push_back.ensures.items ∙ map-push (λ items. items.items) c.self.inside.items.items c.items.inside.items in
    let noted : HasNoted job before grant kept.step after = record {
      channel = refl;
      scripted = λ grants is. sym (told grants is).step;
      worked = λ grants is. noted_worked job before after grants grant kept is refl more refl (told grants is);
    } in
    subst (λ (v : WorkedView). HasNoted job v grant kept.step after) c.self.view_is noted
