-- Meaning. What a job is explained by: its run in order, the verdict on it, and the boxes that meet.
use Rattle.std.specs.Prelude.{◌≡◌, ◌<◌, ◌^◌, All, List, [], ◌∷◌, length}
use Rattle.channel_machine.specs.Scripts.{IsRunInOrder}
use Rattle.channel_machine.specs.StartStates.{start_of}
use Rattle.clash_check.specs.Verdicts.{verdict_by}
use Rattle.job_types.specs.Job.{JobView}
use Rattle.explain_meetings.specs.Meetings.{meetings_of}
use Rattle.order_clocks.specs.Clocked.{ClocksView}
use Rattle.order_clocks.specs.Tells.{is_before_in}
use Rattle.zone_stretches.specs.Overlaps.{Order}
use Rattle.zone_stretches.specs.Stretches.{StretchesView}
use Rattle.zone_stretches.specs.Told.{IsTold}
use Rattle.zone_stretches.specs.ZoneBoxes.{IsFit}
use Rattle.sync_types.specs.Views.{RunView}
use Rattle.sync_types.specs.declared.verdicts.PlaceName.{PlaceName}
use Rattle.sync_types.specs.declared.verdicts.Verdict.TheVariants.{No}
use Rattle.sync_types.specs.declared.verdicts.Verdict.{Verdict}
use Rattle.explain_places.specs.declared.place.Meeting.{Meeting}

-- the run is that in order, and the verdict is the one on it, by the order of its events and the times of its zones
pub record IsExplainedBy (job : JobView) (run : RunView) (clocks : ClocksView) (stretches : StretchesView) (verdict : Verdict) : Type 0 where
  pub in_order : IsRunInOrder job (start_of job) run
  pub few : length run.entries < 2 ^ 20
  pub fit : All (All IsFit) run.items
  pub told : IsTold job run stretches clocks
  pub verdict_is : verdict ≡ verdict_by (is_before_in clocks.rows) clocks.race job run stretches

-- the first of them is the pair of these names
pub record IsFirstMet (left right : PlaceName) (met : List Meeting) : Type 0 where
  pub pair : Meeting
  pub others : List Meeting
  pub first : met ≡ pair ∷ others
  pub left_named : pair.left.name ≡ left
  pub right_named : pair.right.name ≡ right

-- at NO all boxes that meet, and the first of them are those that the verdict names; else none
abbrev pub AreMet : Order → JobView → RunView → StretchesView → Verdict → List Meeting → Type 0
AreMet before job run stretches (No left right) met = (met ≡ meetings_of before job run stretches) × IsFirstMet left right met
AreMet before job run stretches other met = met ≡ []
