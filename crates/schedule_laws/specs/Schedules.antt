-- Law. All runs of one script from one start.
use Rattle.std.specs.Prelude.{◌≡◌, ℕ, ◌<◌, true, List, ◌++◌, length}
use Rattle.schedule_laws.specs.EventPlaces.{HaveSameOrder}
use Rattle.schedule_laws.specs.Swaps.{HasNoRaceAt}
use Rattle.sync_types.specs.BoardEnds.{ends_of}
use Rattle.sync_types.specs.Boards.{among, channel_numbers, first_board}
use Rattle.sync_types.specs.Runs.{Script, IsRun, IsMaximal, first_stage, moves_of, stage_after}
use Rattle.sync_types.specs.Starts.{IsSound, has_channel}
use Rattle.sync_types.specs.Turns.{Move}
use Rattle.sync_types.specs.Views.{StartView}

-- channels have the numbers 1 to 8
abbrev pub HasChannelNumbers : StartView → Type 0
HasChannelNumbers start = (c : ℕ) → has_channel start c ≡ true → among channel_numbers c ≡ true

-- the steps of the run in which these channels make their steps, one after another
abbrev pub moves_by : Script → StartView → List ℕ → List Move
moves_by script start cs = moves_of script (first_stage start) cs

abbrev pub IsRunOf : Script → StartView → List ℕ → Type 0
IsRunOf script start cs = IsRun script (first_stage start) cs

abbrev pub IsMaximalOf : Script → StartView → List ℕ → Type 0
IsMaximalOf script start cs = IsMaximal script (first_stage start) cs

-- no race belongs to a step of it
abbrev pub HasNoRace : Script → StartView → List ℕ → Type 0
HasNoRace script start cs = (i : ℕ) → i < length (moves_by script start cs) → HasNoRaceAt (first_board start) (moves_by script start cs) i

-- Two runs have the same events in the same order, each channel has got the same grants, and so has done the same, and they leave the
-- same board, so that each channel has stopped alike.
pub record HaveSameResult (script : Script) (start : StartView) (cs ds : List ℕ) : Type 0 where
  pub order : HaveSameOrder (first_board start) (moves_by script start cs) (moves_by script start ds)
  pub grants : (c : ℕ) → (stage_after script (first_stage start) cs).grants c ≡ (stage_after script (first_stage start) ds).grants c
  pub board : (stage_after script (first_stage start) cs).board ≡ (stage_after script (first_stage start) ds).board
  pub ends : ends_of (stage_after script (first_stage start) cs).board ≡ ends_of (stage_after script (first_stage start) ds).board

-- a run has no race, and goes on to a maximal one with the same result
pub record GoesOnAlike (script : Script) (start : StartView) (cs vs : List ℕ) : Type 0 where
  pub quiet : HasNoRace script start vs
  pub rest : List ℕ
  pub maximal : IsMaximalOf script start (vs ++ rest)
  pub same : HaveSameResult script start cs (vs ++ rest)

-- one maximal run without a race
pub record IsQuietRun (script : Script) (start : StartView) (cs : List ℕ) : Type 0 where
  pub sound : IsSound start
  pub numbers : HasChannelNumbers start
  pub maximal : IsMaximalOf script start cs
  pub quiet : HasNoRace script start cs

-- speaks for every run
abbrev pub SpeaksForEveryRun : Script → StartView → List ℕ → List ℕ → Type 0
SpeaksForEveryRun script start cs vs = IsQuietRun script start cs → IsRunOf script start vs → GoesOnAlike script start cs vs

-- and so all maximal runs have one result
abbrev pub AllMaximalRunsAgree : Script → StartView → List ℕ → List ℕ → Type 0
AllMaximalRunsAgree script start cs vs = IsQuietRun script start cs → IsMaximalOf script start vs → HaveSameResult script start cs vs
