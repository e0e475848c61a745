-- Where axes stand from segment to segment, and runs after which no channel runs as whole runs.
use Rattle.std.proofs.Common.{◌≡◌, ℕ, suc, ℤ, List, [], ◌∷◌, ◌++◌, append_assoc, length, Some, slice_get, take, unwrap_or, refl, sym, ap, subst, ◌∙◌}
use mathlib.Core.Path.{fun_ext}
use Rattle.axis_sets.specs.Positions.{position_of, stands}
use Rattle.block_motions.specs.Motions.{IsMotionOf}
use Rattle.channel_machine.specs.Run.{Channel, SegmentView, SurroundingsView, channel_at_start, grant_after, owned_at, segment_of, stands_after, surroundings_of}
use Rattle.channel_machine.proofs.Pasts.{grant-got, stands-got}
use Rattle.channel_machine.proofs.RunLaws.{all_follow, grant_then, stands_then}
use Rattle.job_types.specs.Job.{JobView}
use Rattle.path_geometry.specs.declared.motion.Motion.{Motion}
use Rattle.sync_types.proofs.Positions.{moved_by}
use Rattle.sync_types.proofs.Replays.{maximal_runs_come_from, sequential_is_one}
use Rattle.sync_types.specs.Boards.{State, Board, first_board, grant_in}
use Rattle.sync_types.specs.Items.{left_at, movement_of}
use Rattle.sync_types.specs.Runs.{Script, Stage, after_turn, as_list, first_stage, moves_of, next_move}
use Rattle.sync_types.specs.Turns.{after_step, entries_of}
use Rattle.sync_types.specs.Views.{StartView, RunView}
use Rattle.sync_types.specs.declared.Grant.{Grant}
use Rattle.sync_types.specs.declared.Item.{Item}
use Rattle.channel_machine.proofs.Pushes.{grants-push}
use Rattle.channel_machine.proofs.NextSegments.{first_segment, later_segment}
use Rattle.product_run.proofs.StepPlaces.{step_tells}
use Rattle.coord_core.proofs.Usage.{accords_first, accords_turns, no_usage, usage_from}
use Rattle.product_run.specs.RunLaws.{HasGotLast, IsWholeRun, MovesWhatItOwns, RunsAreWhole, RunsInOrderAreMaximal, StandsByGrants, stands_at_end, stands_before}
use Rattle.channel_machine.specs.Scripts.{channel_after_grants, channel_after_segment, items_of, script_of, segment_after}

-- the segment is one of this channel, which has got this grant last and finds the axes there
record Begins (job : JobView) (c : ℕ) (grants : List Grant) (grant : Grant) : Type 0 where
  setting : SurroundingsView
  channel : Channel
  segment : segment_after job c grants ≡ segment_of setting channel
  granted : grant_after setting channel.past ≡ grant
  stand : (axis : ℕ) → stands_before job c grants axis ≡ stands_after setting channel.past axis

begins : (job : JobView) (c : ℕ) (made : List Grant) (grant : Grant) → Begins job c (made ++ grant ∷ []) grant
unfolding stands_before segment_after
begins job c [] grant = record {
  setting = surroundings_of job c grant;
  channel = channel_at_start (surroundings_of job c grant);
  segment = first_segment job c grant;
  granted = refl;
  stand = λ axis. refl;
}
begins job c (first ∷ rest) grant =
    let s : SurroundingsView = surroundings_of job c first in
    let before : Channel = channel_after_grants s rest in
    record {
      setting = s;
      channel = channel_after_segment s before grant;
      segment = later_segment job c first rest grant;
      granted = grant-got s (segment_of s before).after.past grant;
      stand = λ axis. ap (λ (x : Channel). stands_after s x.past axis) (grants-push s (channel_at_start s) rest grant);
    }

-- each of its items moves axes of the grant, from where those before it left them
pub moves_from : (job : JobView) (c : ℕ) (made : List Grant) (grant : Grant) (place : ℕ) (item : Item) → slice_get (segment_after job c (made ++ grant ∷ [])).items place ≡ Some item
    → IsMotionOf grant.axes (left_at (take place (segment_after job c (made ++ grant ∷ [])).items) (stands_before job c (made ++ grant ∷ []))) (movement_of item)
moves_from job c made grant place item is =
    let b = begins job c made grant in
    let items : List Item = (segment_after job c (made ++ grant ∷ [])).items in
    let same : items ≡ (segment_of b.setting b.channel).items = ap (λ g. g.items) b.segment in
    let found : slice_get (segment_of b.setting b.channel).items place ≡ Some item = ap (λ (xs : List Item). slice_get xs place) (sym same) ∙ is in
    let follows = (all_follow b.setting b.channel).follows place item found in
    let P : Grant → Type 0 = λ g. IsMotionOf g.axes (left_at (take place (segment_of b.setting b.channel).items) (stands_after b.setting b.channel.past)) (movement_of item) in
    let Q : List Item → Type 0 = λ xs. IsMotionOf grant.axes (left_at (take place xs) (stands_after b.setting b.channel.past)) (movement_of item) in
    let R : (ℕ → ℤ) → Type 0 = λ at. IsMotionOf grant.axes (left_at (take place items) at) (movement_of item) in
    subst R (sym (fun_ext b.stand)) (subst Q (sym same) (subst P b.granted follows))

pub moves_what_it_owns : (job : JobView) (c : ℕ) (made : List Grant) (grant : Grant) → MovesWhatItOwns job c made grant
moves_what_it_owns job c made grant place item motion is moves =
    subst (λ (m : Motion). IsMotionOf grant.axes (left_at (take place (segment_after job c (made ++ grant ∷ [])).items) (stands_before job c (made ++ grant ∷ []))) m) (moved_by item motion moves)
    (moves_from job c made grant place item is)

-- the step at its end tells of each axis of the grant where the items left it
pub step_places : (job : JobView) (c : ℕ) (made : List Grant) (grant : Grant)
    → (script_of job c (made ++ grant ∷ [])).at ≡ owned_at grant.axes (left_at (segment_after job c (made ++ grant ∷ [])).items (stands_before job c (made ++ grant ∷ [])))
step_places job c made grant =
    let b = begins job c made grant in
    let segment : SegmentView = segment_of b.setting b.channel in
    let items : List Item = (segment_after job c (made ++ grant ∷ [])).items in
    let same : segment.items ≡ items = sym (ap (λ g. g.items) b.segment) in
    let stand : stands_after b.setting segment.after.past ≡ left_at items (stands_before job c (made ++ grant ∷ [])) =
    fun_ext (λ axis.
    stands_then b.setting b.channel axis
    ∙ ap (λ (xs : List Item). left_at xs (stands_after b.setting b.channel.past) axis) same
    ∙ ap (λ (at : ℕ → ℤ). left_at items at axis) (sym (fun_ext b.stand))) in
    ap (λ (g : SegmentView). g.step.at) b.segment
    ∙ step_tells b.setting b.channel
    ∙ ap (λ (g : Grant). owned_at g.axes (stands_after b.setting segment.after.past)) (grant_then b.setting b.channel ∙ b.granted)
    ∙ ap (owned_at grant.axes) stand

pub stands_first : (job : JobView) (c : ℕ) (grant : Grant) (axis : ℕ) → stands_before job c (grant ∷ []) axis ≡ stands grant.at axis
unfolding stands_before
stands_first job c grant axis = refl

-- a channel that has made these segments and goes on with a grant
pub stands_next : (job : JobView) (c : ℕ) (first : Grant) (rest : List Grant) (next : Grant) (axis : ℕ)
    → stands_before job c (first ∷ (rest ++ next ∷ [])) axis ≡ unwrap_or (position_of next.at axis) (stands_at_end job c (first ∷ rest) axis)
unfolding stands_before segment_after
stands_next job c first rest next axis =
    let s : SurroundingsView = surroundings_of job c first in
    let before : Channel = channel_after_grants s rest in
    ap (λ (x : Channel). stands_after s x.past axis) (grants-push s (channel_at_start s) rest next)
    ∙ stands-got s (segment_of s before).after.past next axis
    ∙ ap (λ (z : ℤ). unwrap_or (position_of next.at axis) z) (stands_then s before axis)

pub stands_by_grants : (job : JobView) (c : ℕ) (made : List Grant) (grant next : Grant) (axis : ℕ) → StandsByGrants job c made grant next axis
stands_by_grants job c made grant next axis = record { first = stands_first job c grant axis; later = by_made made }
  where
    by_made : (made : List Grant) → stands_before job c (made ++ grant ∷ next ∷ []) axis ≡ unwrap_or (position_of next.at axis) (stands_at_end job c (made ++ grant ∷ []) axis)
    by_made [] = stands_next job c grant [] next axis
    by_made (first ∷ rest) =
        ap (λ (gs : List Grant). stands_before job c (first ∷ gs) axis) (sym (append_assoc rest (grant ∷ []) (next ∷ [])))
        ∙ stands_next job c first (rest ++ grant ∷ []) next axis

pub has_got_last : (job : JobView) (start : StartView) (cs : List ℕ) (c : ℕ) (grant : Grant) → HasGotLast job start cs c grant
has_got_last job start cs c grant runs =
    let used : List Grant = usage_from (script_of job) (first_stage start) no_usage cs c in
    (used, (accords_turns (script_of job) (first_stage start) no_usage cs (accords_first start)).grants c ∙ ap (λ (s : State). used ++ as_list (grant_in s)) runs)

-- as many items as entries
rows_of : (job : JobView) (stage : Stage) (cs : List ℕ) → length (items_of job stage cs) ≡ length cs
rows_of job stage [] = refl
rows_of job stage (c ∷ cs) = ap suc (rows_of job (after_turn (script_of job) stage c) cs)

pub entries_many : (script : Script) (stage : Stage) (b : Board) (cs : List ℕ) → length (entries_of b (moves_of script stage cs)) ≡ length cs
entries_many script stage b [] = refl
entries_many script stage b (c ∷ cs) =
    ap suc (entries_many script (after_turn script stage c) (after_step b c (next_move script stage c).step) cs)

pub runs_in_order_are_maximal : (job : JobView) (start : StartView) (run : RunView) → RunsInOrderAreMaximal job start run
runs_in_order_are_maximal job start run ordered =
    let cs : List ℕ = ordered.channels in
    record { channels = cs; maximal = (sequential_is_one (script_of job) (first_stage start) cs cs ordered.sequential).maximal; all = ordered.all }

pub runs_are_whole : (job : JobView) (start : StartView) (run : RunView) → RunsAreWhole job start run
runs_are_whole job start run sound one =
    let cs : List ℕ = one.channels in
    subst (λ (r : RunView). IsWholeRun start r) (sym one.all) (record {
      comes = maximal_runs_come_from (script_of job) start cs (items_of job (first_stage start) cs) sound one.maximal;
      rows = rows_of job (first_stage start) cs ∙ sym (entries_many (script_of job) (first_stage start) (first_board start) cs);
    })
