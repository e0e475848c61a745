use Rattle.std.proofs.Common.{◌≡◌, ℕ, false, List, map, All}
use Rattle.job_types.specs.Job.{JobView}
use Rattle.parallel_run.proofs.Parting.{IsUnderWay}
use Rattle.parallel_run.proofs.parts.parts_of.Given as goal
use Rattle.parallel_run.specs.Joining.{HasPlaces, nobody}
use Rattle.parallel_run.specs.Workers.{HasMade}
use Rattle.sync_types.specs.Boards.{among}
use Rattle.sync_types.specs.Views.{EntryView, StartView}

abbrev pub invariant-loop-worked : goal.invariant-loop-worked
invariant-loop-worked l = record {
  places : HasPlaces l.parts;
  rest : (job : JobView) (start : StartView) (entries : List EntryView) → All (HasMade job start entries) l.fn.workers.items → All (HasMade job start entries) l.worked-iterator.rest.items;
  under : (job : JobView) (start : StartView) (entries : List EntryView) → All (HasMade job start entries) l.fn.workers.items
      → ((c : ℕ) → among (map (λ w. w.channel) l.fn.workers.items) c ≡ false → HasMade job start entries (nobody c))
      → (c : ℕ) → IsUnderWay job start entries l.worked-iterator.rest.items c l.parts;
}
