-- Meaning. What a drawing looks at.
use Rattle.std.specs.Prelude.{◌≡◌, int_lt, List, fold, if◌then◌else◌, Option, None, Some}
use Rattle.job_types.specs.Job.{JobView}
use Rattle.explain_meetings.specs.Nearest.{AreNearest}
use Rattle.explain_meetings.specs.declared.nearest.Near.{Near}
use Rattle.zone_stretches.specs.Overlaps.{Pair}
use Rattle.sync_types.specs.Views.{RunView}
use Rattle.sync_types.specs.declared.verdicts.Verdict.{Verdict}
use Rattle.sync_types.specs.declared.verdicts.Verdict.TheVariants.{Alarm, No, Race, Stuck, Undecided, Yes}
use Rattle.explain_places.specs.declared.place.Meeting.{Meeting}

-- the nearer of two pairs: the one that reaches further
abbrev pub nearer : Near → Option Near → Near
nearer one None = one
nearer one (Some other) = if int_lt other.reach one.reach then one else other

-- the nearest of some pairs
unfoldable pub nearest_in : List Near → Option Near
nearest_in rows = fold (λ kept near. Some (nearer near kept)) None rows

-- as two boxes
abbrev pub as_meeting : Option Near → Option Meeting
as_meeting None = None
as_meeting (Some near) = Some (record { left = near.left; right = near.right })

-- of the nearest compared boxes of each two groups the nearest ones
pub record IsNearestOfAll (job : JobView) (run : RunView) (pairs : List Pair) (met : Option Meeting) : Type 0 where
  pub rows : List Near
  pub near : AreNearest job run pairs rows
  pub is : met ≡ as_meeting (nearest_in rows)

-- the first boxes that meet at NO, and the nearest ones at YES; else nothing
abbrev pub IsFocus : JobView → RunView → List Pair → Option Meeting → Verdict → Option Meeting → Type 0
IsFocus job run pairs first (Race race) met = met ≡ None
IsFocus job run pairs first (Alarm channel alarm) met = met ≡ None
IsFocus job run pairs first (Stuck channel line) met = met ≡ None
IsFocus job run pairs first (Undecided count budget) met = met ≡ None
IsFocus job run pairs first (No left right) met = met ≡ first
IsFocus job run pairs first Yes met = IsNearestOfAll job run pairs met
