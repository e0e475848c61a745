-- Steps. What is kept of each channel of a run between two segments.
use Rattle.std.specs.Prelude.{◌≡◌, ℕ, ◌≤◌, List, [], ◌∷◌, length, slice_index_or, Option, Some, None, IfSome}
use Rattle.axis_sets.specs.declared.limits.TheConstants.{CHANNEL_PLACES}
use Rattle.channel_machine.specs.Kept.{IsSettingIn, Keeps, KeptSegment, StateView}
use Rattle.channel_machine.specs.Levels.{LevelsFit}
use Rattle.channel_machine.specs.Run.{surroundings_of}
use Rattle.channel_machine.specs.declared.limits.TheConstants.{BLOCK_LIMIT}
use Rattle.job_types.specs.Job.{JobView}
use Rattle.channel_machine.specs.Scripts.{segment_after}
use Rattle.sync_types.specs.declared.Grant.{Grant}

-- of a channel of the job, that can go on
pub record IsReady (job : JobView) (c : ℕ) (kept : StateView) : Type 0 where
  pub channel : kept.channel ≡ c
  pub fit : IfSome kept.levels (LevelsFit job.skip job.programs)
  pub few : kept.count ≤ BLOCK_LIMIT

-- after the segments of these grants
pub record IsAfter (job : JobView) (c : ℕ) (first : Grant) (rest : List Grant) (kept : StateView) : Type 0 where
  pub setting : IsSettingIn job (surroundings_of job c first) kept
  pub keeps : Keeps (surroundings_of job c first) (segment_after job c (first ∷ rest)).after kept

-- nothing before the first segment
abbrev pub IsKeptOf : JobView → ℕ → List Grant → Option StateView → Type 0
IsKeptOf job c [] None = Unit {0}
IsKeptOf job c [] (Some kept) = ⊥
IsKeptOf job c (first ∷ rest) None = ⊥
IsKeptOf job c (first ∷ rest) (Some kept) = IsAfter job c first rest kept

-- the segment of a channel after these grants, with what is kept of the channel after it
pub record IsSegmentOf (job : JobView) (c : ℕ) (grants : List Grant) (kept : KeptSegment) : Type 0 where
  pub items : (segment_after job c grants).items ≡ kept.items
  pub step : (segment_after job c grants).step ≡ kept.step
  pub after : IsKeptOf job c grants (Some kept.after)

-- nothing is kept of any channel
pub record IsNothingKept (locals : List (Option StateView)) : Type 0 where
  pub places : length locals ≡ CHANNEL_PLACES
  pub none : (c : ℕ) → slice_index_or locals c None ≡ None
