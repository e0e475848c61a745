-- What the workers leave and the history of the board, put together.
use Rattle.std.proofs.Common.{◌≡◌, ℕ, false, List, [], get_or, map, Option, None, IfOk, IfSome, Result, Ok, Err, sym, ap, subst, ◌∙◌}
use Rattle.channel_machine.specs.Kept.{StateView}
use Rattle.channel_machine.specs.Locals.{IsKeptOf, IsReady}
use Rattle.channel_machine.specs.StartStates.{start_of}
use Rattle.coord_core.specs.Desks.{own_entries}
use Rattle.job_types.specs.Job.{JobView}
use Rattle.parallel_run.proofs.Histories.{none_used}
use Rattle.parallel_run.proofs.Strangers.{no_strangers}
use Rattle.parallel_run.proofs.Walks.{dealt-alike}
use Rattle.parallel_run.specs.Joining.{AreReady, HasPlaces, IsMadeByScript, LeavesOf, PartsView, dealt, nobody, rows_at}
use Rattle.parallel_run.specs.ThreadRuns.{GoOnWith, IsBegunBy, IsBegunByWorkers}
use Rattle.parallel_run.specs.Workers.{HasMade, HasStepsOfScript, grants_used, items_for, steps_for}
use Rattle.sync_types.specs.Boards.{first_board}
use Rattle.sync_types.specs.Starts.{has_channel}
use Rattle.sync_types.specs.Turns.{AreEntries}
use Rattle.sync_types.specs.Views.{EntryView, RunView, StartView}
use Rattle.sync_types.specs.declared.Grant.{Grant}

-- a channel that the start has not has made nothing
pub nobody_made : (job : JobView) (start : StartView) (es : List EntryView) (c : ℕ) → AreEntries (first_board start) es → has_channel start c ≡ false → HasMade job start es (nobody c)
nobody_made job start es c lawful off =
    let none : own_entries c es ≡ [] = no_strangers start c es lawful off in
    let unused : grants_used c (first_board start) es ≡ [] = none_used c (first_board start) es none in
    record {
      steps = ap (map (λ (e : EntryView). e.step)) none ∙ ap (steps_for job c []) (sym unused);
      worked = record {
        items = ap (items_for job c []) (sym unused);
        kept = subst (λ (gs : List Grant). IsKeptOf job c gs None) (sym unused) tt;
      };
      ready = tt;
    }

module _ (job : JobView) (start : StartView) (es : List EntryView) (lawful : AreEntries (first_board start) es) (parts : PartsView) (leaves : (c : ℕ) → LeavesOf job start es c parts) where
  abbrev got : ℕ → List Grant
  got c = grants_used c (first_board start) es

  steps_in : (c : ℕ) → HasStepsOfScript job c start es
  steps_in c = subst (λ (d : ℕ). HasStepsOfScript job d start es) (leaves c).channel (leaves c).made.steps

  rows_in : (c : ℕ) → rows_at parts.rows c ≡ items_for job c [] (got c)
  rows_in c =
      let left : LeavesOf job start es c parts = leaves c in
      subst (λ (d : ℕ). rows_at parts.rows d ≡ items_for job d [] (got d)) left.channel (left.part.rows ∙ left.made.worked.items)

  kept_in : (c : ℕ) → IsKeptOf job c (got c) (get_or parts.locals c None)
  kept_in c =
      let left : LeavesOf job start es c parts = leaves c in
      subst (λ (d : ℕ). IsKeptOf job d (got d) (get_or parts.locals d None)) left.channel
      (subst (λ (o : Option StateView). IsKeptOf job left.worker.channel (got left.worker.channel) o) (sym left.part.local) left.made.worked.kept)

  ready_in : (c : ℕ) → IfSome (get_or parts.locals c None) (IsReady job c)
  ready_in c =
      let left : LeavesOf job start es c parts = leaves c in
      subst (λ (d : ℕ). IfSome (get_or parts.locals d None) (IsReady job d)) left.channel
      (subst (λ (o : Option StateView). IfSome o (IsReady job left.worker.channel)) (sym left.part.local) left.made.ready)

  pub made_by_script : IsMadeByScript job start es (dealt (rows_at parts.rows) es) parts.locals
  made_by_script = record {
    lawful = lawful;
    steps = steps_in;
    items = dealt-alike (rows_at parts.rows) (λ c. items_for job c [] (got c)) es rows_in;
    kept = kept_in;
  }

  -- what is kept of each channel can go on
  pub ready_parts : HasPlaces parts → AreReady job parts.locals
  ready_parts places = record { places = places.locals; each = ready_in }

  -- so a run is begun by the workers that goes on with these entries
  pub begun : {E : Type 0} (r : Result RunView E) → IfOk r (λ run. GoOnWith start es run.entries) → IfOk r (IsBegunBy job start es)
  begun (Ok run) goes = record { lawful = lawful; steps = steps_in; goes_on = goes }
  begun (Err e) goes = tt

-- the run of a job
pub by_workers : {E : Type 0} (job : JobView) (start : StartView) (es : List EntryView) (r : Result RunView E) → start ≡ start_of job → IfOk r (IsBegunBy job start es) → IfOk r (IsBegunByWorkers job)
by_workers job start es (Ok run) begins by = (es, subst (λ (s : StartView). IsBegunBy job s es run) begins by)
by_workers job start es (Err e) begins by = tt
