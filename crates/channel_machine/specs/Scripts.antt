-- Meaning. What each channel of a job does next after the grants that it has got, and the run of a job by that.
use Rattle.std.specs.Prelude.{◌≡◌, ℕ, List, [], ◌∷◌, fold}
use Rattle.channel_machine.specs.Run.{SurroundingsView, Channel, SegmentView, channel_after_grant, channel_at_end, channel_at_start, segment_of, surroundings_of}
use Rattle.job_types.specs.Job.{JobView}
use Rattle.sync_types.specs.BoardEnds.{ends_of}
use Rattle.sync_types.specs.Boards.{first_board, no_positions}
use Rattle.sync_types.specs.Runs.{Script, Stage, IsMaximal, IsSequential, after_turn, first_stage, moves_of, stage_after}
use Rattle.sync_types.specs.Turns.{entries_of}
use Rattle.sync_types.specs.Views.{StartView, RunView}
use Rattle.sync_types.specs.declared.Action.TheVariants.{End}
use Rattle.sync_types.specs.declared.Grant.{Grant}
use Rattle.sync_types.specs.declared.Item.{Item}
use Rattle.sync_types.specs.declared.Step.{Step}

-- a channel makes its segment, and goes on with a grant
abbrev pub channel_after_segment : SurroundingsView → Channel → Grant → Channel
channel_after_segment setting channel grant = channel_after_grant (segment_of setting channel).after grant

-- a channel that has got these grants since its start, each after a segment
abbrev pub channel_after_grants : SurroundingsView → List Grant → Channel
channel_after_grants setting grants = fold (channel_after_segment setting) (channel_at_start setting) grants

-- a channel that has got no grant does nothing, and ends
abbrev pub step_at_rest : Step
step_at_rest = record { line = 0; action = End; at = no_positions; on = [] }

abbrev pub segment_at_rest : SegmentView
segment_at_rest = record { items = []; step = step_at_rest; after = channel_at_end [] }

-- the segment of a channel of a job after these grants: the first is that of its start, and each further one that after a segment
unfoldable pub segment_after : JobView → ℕ → List Grant → SegmentView
segment_after job c [] = segment_at_rest
segment_after job c (first ∷ grants) = segment_of (surroundings_of job c first) (channel_after_grants (surroundings_of job c first) grants)

-- what each channel does next: the step at the end of its segment
abbrev pub script_of : JobView → Script
script_of job c grants = (segment_after job c grants).step

-- what each of these channels does before its step
abbrev pub items_of : JobView → Stage → List ℕ → List (List Item)
items_of job stage [] = []
items_of job stage (c ∷ cs) = (segment_after job c (stage.grants c)).items ∷ items_of job (after_turn (script_of job) stage c) cs

-- the run of a job from this start in which these channels make their steps, one after another
abbrev pub run_of : JobView → StartView → List ℕ → RunView
run_of job start cs = record {
  entries = entries_of (first_board start) (moves_of (script_of job) (first_stage start) cs);
  items = items_of job (first_stage start) cs;
  ends = ends_of (stage_after (script_of job) (first_stage start) cs).board;
}

-- the run in which each time the lowest running channel makes its segment and its step, until none runs
pub record IsRunInOrder (job : JobView) (start : StartView) (run : RunView) : Type 0 where
  pub channels : List ℕ
  pub sequential : IsSequential (script_of job) (first_stage start) channels
  pub all : run ≡ run_of job start channels

-- a run of a job after which no channel runs: its channels make their segments and their steps in any order
pub record IsMaximalRunOf (job : JobView) (start : StartView) (run : RunView) : Type 0 where
  pub channels : List ℕ
  pub maximal : IsMaximal (script_of job) (first_stage start) channels
  pub all : run ≡ run_of job start channels
