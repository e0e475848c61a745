use Rattle.std.proofs.Common.{◌≡◌, false, All, List, sym, subst}
use Rattle.parallel_run.proofs.Parting.{IsToCome, IsUnderWay, all_first, all_rest, channels_in, put_under_way}
use Rattle.parallel_run.proofs.parts.parts_of.Goals as goal
use Rattle.parallel_run.specs.Joining.{PartsView, nobody}
use Rattle.parallel_run.specs.Workers.{HasMade, WorkedView}
use Rattle.sync_types.specs.Boards.{among}

pub loop-worked-init : goal.loop-worked-init
loop-worked-init c = record {
  places = c.in_ok-parts.ensures.places;
  rest = λ job start entries all. subst (All (HasMade job start entries)) (sym c.into_iter-worked-iterator.ensures.into_iter_gives.0) all;
  under = λ job start entries all none k. IsToCome (c.in_ok-parts.ensures.nothing k)
      (subst (λ (ws : List WorkedView). among (channels_in ws) k ≡ false → HasMade job start entries (nobody k)) (sym c.into_iter-worked-iterator.ensures.into_iter_gives.0) (none k));
}

pub loop-worked-preserved : goal.loop-worked-preserved
loop-worked-preserved c =
    let w : WorkedView = c.in-Some.worked in
    let later : List WorkedView = c.next.new.self.rest.items in
    let before : PartsView = c.loop-worked.parts in
    record {
      places = c.put.ensures.places;
      rest = λ job start entries all. all_rest (HasMade job start entries) w later (subst (All (HasMade job start entries)) c.in-Some.ensures.steps.0 (c.loop-worked.invariant.rest job start entries all));
      under = λ job start entries all none.
          put_under_way job start entries before c.put.new.self w later c.loop-worked.invariant.places c.put.ensures.number c.put.ensures.put
          (all_first (HasMade job start entries) w later (subst (All (HasMade job start entries)) c.in-Some.ensures.steps.0 (c.loop-worked.invariant.rest job start entries all)))
          (λ k. subst (λ (ws : List WorkedView). IsUnderWay job start entries ws k before) c.in-Some.ensures.steps.0 (c.loop-worked.invariant.under job start entries all none k));
    }
