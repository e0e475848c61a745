-- Meaning. The history of a channel: what its events tell, one after another. It depends on the grants that the channel gets, and
-- on nothing else that others do.
use Rattle.std.specs.Prelude.{◌≡◌, ℕ, ℤ, ◌==◌, Bool, true, false, if◌then◌else◌, List, [], ◌∷◌, ◌++◌, filter, map, slice_index_or, Option, None, Some, is_some}
use Rattle.channel_machine.specs.StartStates.{start_of}
use Rattle.job_types.specs.Job.{JobView}
use Rattle.order_clocks.specs.Clocked.{moves_in}
use Rattle.schedule_laws.specs.Schedules.{IsRunOf, moves_by}
use Rattle.speed_laws.specs.Doings.{Doings}
use Rattle.sync_types.specs.BoardActions.{hold_of}
use Rattle.sync_types.specs.Boards.{first_board, is_running}
use Rattle.sync_types.specs.Runs.{Stage, after_turn, first_stage, stage_after}
use Rattle.sync_types.specs.Starts.{IsSound}
use Rattle.sync_types.specs.Views.{RunView, StartView}
use Rattle.sync_types.specs.declared.Grant.{Grant}
use Rattle.sync_types.specs.declared.Item.{Item}
use Rattle.sync_types.specs.declared.Step.{Step}
use Rattle.zone_stretches.specs.Occurrences.{OccurrenceView, occurrences_of}

-- what an event tells: whether the channel goes on in it, the line of the block where it acts, where axes stand, which zones are on,
-- and, of an act, the items before it
pub record Telling : Type 0 where
  pub goes : Bool
  pub line : Option ℕ
  pub at : List (Option ℤ)
  pub on : List Bool
  pub items : List Item

-- by the items of each step
abbrev pub telling_of : List (List Item) → OccurrenceView → Telling
telling_of rows o = record { goes = o.name.go; line = o.line; at = o.at; on = o.on; items = if o.name.go then [] else slice_index_or rows o.name.step [] }

-- by the channel's grants
abbrev pub act_telling : Doings → ℕ → List Grant → Telling
act_telling doings c grants = record {
  goes = false;
  line = Some (doings.script c grants).line;
  at = (doings.script c grants).at;
  on = (doings.script c grants).on;
  items = doings.items c grants;
}

abbrev pub going_telling : Grant → Telling
going_telling grant = record { goes = true; line = None; at = grant.at; on = grant.on; items = [] }

-- the action of the step has something to wait for
abbrev pub waits_at : ℕ → Step → Bool
waits_at c step = is_some (hold_of c step.action)

-- A channel that runs, or does not, has got these grants and gets more; it runs at last, or does not. Who runs acts, and goes on at
-- once or waits for its next grant; where no grant comes its act is the last event, if it does not run at last.
abbrev pub history : Doings → ℕ → Bool → Bool → List Grant → List Grant → List Telling
history doings c at_last true grants [] = if at_last then [] else act_telling doings c grants ∷ []
history doings c at_last true grants (grant ∷ more) =
    act_telling doings c grants
    ∷ (if waits_at c (doings.script c grants)
    then going_telling grant ∷ history doings c at_last true (grants ++ grant ∷ []) more
    else history doings c at_last true (grants ++ grant ∷ []) more)
history doings c at_last false grants [] = []
history doings c at_last false grants (grant ∷ more) = going_telling grant ∷ history doings c at_last true (grants ++ grant ∷ []) more

-- what each of these channels does before its step
abbrev pub items_by : Doings → Stage → List ℕ → List (List Item)
items_by doings stage [] = []
items_by doings stage (c ∷ cs) = doings.items c (stage.grants c) ∷ items_by doings (after_turn doings.script stage c) cs

-- the events of a channel in the run in which these channels make their steps
abbrev pub events_in_run : Doings → StartView → List ℕ → ℕ → List OccurrenceView
events_in_run doings start cs c = filter (λ o. o.channel == c) (occurrences_of (first_board start) (moves_by doings.script start cs))

abbrev pub tellings_in_run : Doings → StartView → List ℕ → ℕ → List Telling
tellings_in_run doings start cs c = map (telling_of (items_by doings (first_stage start) cs)) (events_in_run doings start cs c)

-- so what they tell is the channel's history by its grants
pub record HasHistory (doings : Doings) (start : StartView) (cs : List ℕ) (c : ℕ) : Type 0 where
  pub more : List Grant
  pub grants : (stage_after doings.script (first_stage start) cs).grants c ≡ (first_stage start).grants c ++ more
  pub are : tellings_in_run doings start cs c
      ≡ history doings c (is_running ((stage_after doings.script (first_stage start) cs).board.state c)) (is_running ((first_board start).state c)) ((first_stage start).grants c) more

abbrev pub ChannelsHaveHistories : Doings → StartView → List ℕ → ℕ → Type 0
ChannelsHaveHistories doings start cs c = IsSound start → IsRunOf doings.script start cs → HasHistory doings start cs c

-- the run in which these channels make their steps, with what they do before them
pub record IsRunBy (job : JobView) (doings : Doings) (cs : List ℕ) (run : RunView) : Type 0 where
  pub moves : moves_in run.entries ≡ moves_by doings.script (start_of job) cs
  pub items : run.items ≡ items_by doings (first_stage (start_of job)) cs
