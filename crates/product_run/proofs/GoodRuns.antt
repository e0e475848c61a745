-- In each run of an accepted job each motion is sound, and channels are stopped by alarms of the table.
use Rattle.std.proofs.Common.{◌≡◌, ◌⊎◌, ℕ, zero, suc, ℤ, pos, ◌<◌, ◌≤◌, ◌==◌, Bool, true, cond, List, [], ◌∷◌, length, fold, find, filter_map, slice_get, Option, None, Some, unwrap_or, IfSome, inl, inr, sym, subst, arith}
use Rattle.std.specs.List.{All, cons_option, range_with_len}
use Rattle.std.specs.Option.{option_map, option_map_or}
use Rattle.std.proofs.lemmas.List.Elements.{All-nil, All-cons, All-head, All-tail, All-append, All-weaker}
use Rattle.axis_sets.specs.Positions.{position_of}
use Rattle.axis_sets.specs.Sets.{has}
use Rattle.axis_sets.specs.declared.limits.TheConstants.{AXIS_LIMIT}
use Rattle.axis_sets.proofs.SetLaws.{has-past}
use Rattle.block_motions.proofs.Ends.{le_or_lt}
use Rattle.channel_machine.proofs.Pasts.{grant-got, stands-got}
use Rattle.channel_machine.proofs.RunLaws.{all_follow, end_listed, few_items, in_range_then, items_sound}
use Rattle.channel_machine.specs.Run.{SurroundingsView, Channel, channel_at_start, grant_after, owned_at, segment_of, stands_after, surroundings_of}
use Rattle.channel_machine.specs.StartStates.{axis_entry, first_axes, first_axis, start_of}
use Rattle.job_types.specs.Job.{JobView}
use Rattle.job_types.specs.SoundJob.{IsSoundJob}
use Rattle.job_types.specs.declared.job.AxisLine.{AxisLine}
use Rattle.micro_units.specs.Position.{IsPosition}
use Rattle.number_laws.proofs.Lists.{by_places}
use Rattle.path_geometry.specs.Motions.{axes_of}
use Rattle.sync_types.proofs.BoardTests.{by_test, no_truth}
use Rattle.sync_types.specs.BoardEnds.{end_of, ends_among, with_end}
use Rattle.sync_types.specs.Boards.{State, IsIdle, IsRunning, IsHolding, HasEnded, HasAlarmed, Board, channel_numbers, first_board, grant_in}
use Rattle.sync_types.specs.Items.{movement_of}
use Rattle.sync_types.specs.Runs.{Stage, after_turn, as_list, first_stage, gets_a_grant, stage_after}
use Rattle.sync_types.specs.Starts.{first_position, has_channel}
use Rattle.sync_types.specs.Turns.{after_step}
use Rattle.sync_types.specs.Views.{RunView}
use Rattle.sync_types.specs.declared.ChannelEnd.{ChannelEnd}
use Rattle.sync_types.specs.declared.Grant.{Grant}
use Rattle.sync_types.specs.declared.Item.{Item}
use Rattle.product_run.proofs.FewItems.{items_are_few}
use Rattle.product_run.proofs.GoodBoards.{AreInRange, IsGood, IsGoodGrant, IsGoodState, IsGoodStep, good_first, good_step, none_in_range, row_in_range, zero_in_range}
use Rattle.product_run.proofs.StepPlaces.{step_tells}
use Rattle.product_run.specs.RunLaws.{IsListedEnd, IsSoundRun, MovesSoundly, RunsAreSound}
use Rattle.channel_machine.specs.Scripts.{channel_after_grants, channel_after_segment, items_of, script_of, segment_after}

-- ---- what a channel finds after its grants

record FindsGood (s : SurroundingsView) (c : Channel) : Type 0 where
  stand : (axis : ℕ) → IsPosition (stands_after s c.past axis)
  grant : IsGoodGrant (grant_after s c.past)

or_in_range : (o : Option ℤ) (at : ℤ) → IfSome o IsPosition → IsPosition at → IsPosition (unwrap_or o at)
or_in_range None at given stood = stood
or_in_range (Some position) at given stood = given

finds_first : (s : SurroundingsView) → IsGoodGrant s.grant → FindsGood s (channel_at_start s)
finds_first s good = record { stand = λ axis. or_in_range (position_of s.grant.at axis) (pos 0) (good.at axis) zero_in_range; grant = good }

finds_next : (s : SurroundingsView) (c : Channel) (grant : Grant) → IsGoodGrant grant → FindsGood s c → FindsGood s (channel_after_segment s c grant)
finds_next s c grant good finds = record {
  stand = λ axis. subst IsPosition (sym (stands-got s (segment_of s c).after.past grant axis))
      (or_in_range (position_of grant.at axis) (stands_after s (segment_of s c).after.past axis) (good.at axis) (in_range_then s c finds.stand axis));
  grant = subst IsGoodGrant (sym (grant-got s (segment_of s c).after.past grant)) good;
}

finds_all : (s : SurroundingsView) (c : Channel) (grants : List Grant) → All IsGoodGrant grants → FindsGood s c → FindsGood s (fold (channel_after_segment s) c grants)
finds_all s c [] all finds = finds
finds_all s c (grant ∷ grants) all finds =
    finds_all s (channel_after_segment s c grant) grants (All-tail IsGoodGrant grant grants all) (finds_next s c grant (All-head IsGoodGrant grant grants all) finds)

finds : (job : JobView) (c : ℕ) (first : Grant) (rest : List Grant) → All IsGoodGrant (first ∷ rest)
    → FindsGood (surroundings_of job c first) (channel_after_grants (surroundings_of job c first) rest)
finds job c first rest all =
    let s : SurroundingsView = surroundings_of job c first in
    finds_all s (channel_at_start s) rest (All-tail IsGoodGrant first rest all) (finds_first s (All-head IsGoodGrant first rest all))

-- ---- its segment

owned_in_range : (axes : List Bool) (at : ℕ → ℤ) → ((x : ℕ) → IsPosition (at x)) → AreInRange (owned_at axes at)
owned_in_range axes at each = row_in_range (λ x. cond (has axes x) (Some (at x)) None)
    (λ x. by_test (λ (o : Option ℤ). IfSome o IsPosition) (has axes x) (Some (at x)) None (λ on. each x) (λ off. tt)) (range_with_len 0 AXIS_LIMIT)

segment_step : (s : SurroundingsView) (c : Channel) → FindsGood s c → IsGoodStep (segment_of s c).step
segment_step s c finds = record {
  at = subst AreInRange (sym (step_tells s c))
      (owned_in_range (grant_after s (segment_of s c).after.past).axes (stands_after s (segment_of s c).after.past) (in_range_then s c finds.stand));
  listed = end_listed s c;
}

pub has_within : (axes : List Bool) (x : ℕ) → length axes ≡ AXIS_LIMIT → has axes x ≡ true → x < AXIS_LIMIT
has_within axes x long on = by_place (le_or_lt AXIS_LIMIT x)
  where
    by_place : (AXIS_LIMIT ≤ x) ⊎ (x < AXIS_LIMIT) → x < AXIS_LIMIT
    by_place (inl beyond) = no_truth (has axes x) on (has-past axes x (subst (λ (n : ℕ). n ≤ x) (sym long) beyond))
    by_place (inr within) = within

segment_moves : (s : SurroundingsView) (c : Channel) → FindsGood s c → All MovesSoundly (segment_of s c).items
segment_moves s c finds k d within = record { sound = items_sound s c finds.stand k d within; within = axes k d within }
  where
    axes : All (λ (item : Item). All (λ e. e.0 < AXIS_LIMIT) (axes_of (movement_of item))) (segment_of s c).items
    axes = by_places (λ (item : Item). All (λ e. e.0 < AXIS_LIMIT) (axes_of (movement_of item))) (segment_of s c).items (λ place item is.
        All-weaker (λ e. has (grant_after s c.past).axes e.0 ≡ true) (λ e. e.0 < AXIS_LIMIT) (λ e on. has_within (grant_after s c.past).axes e.0 finds.grant.axes on)
        (axes_of (movement_of item)) ((all_follow s c).follows place item is).owned)

script_step : (job : JobView) (c : ℕ) (grants : List Grant) → All IsGoodGrant grants → IsGoodStep (script_of job c grants)
unfolding segment_after
script_step job c [] all = record { at = none_in_range; listed = tt }
script_step job c (first ∷ rest) all = segment_step (surroundings_of job c first) (channel_after_grants (surroundings_of job c first) rest) (finds job c first rest all)

pub script_moves : (job : JobView) (c : ℕ) (grants : List Grant) → All IsGoodGrant grants → All MovesSoundly (segment_after job c grants).items
unfolding segment_after
script_moves job c [] all = All-nil MovesSoundly
script_moves job c (first ∷ rest) all = segment_moves (surroundings_of job c first) (channel_after_grants (surroundings_of job c first) rest) (finds job c first rest all)

script_few : (job : JobView) (c : ℕ) (grants : List Grant) → length (segment_after job c grants).items ≤ 100000
unfolding segment_after
script_few job c [] = omega arith
script_few job c (first ∷ rest) =
    let few = few_items (surroundings_of job c first) (channel_after_grants (surroundings_of job c first) rest) in omega (arith, few)

-- ---- the stages of a run

pub record IsGoodStage (stage : Stage) : Type 0 where
  pub board : IsGood stage.board
  pub grants : (d : ℕ) → All IsGoodGrant (stage.grants d)

state_grants : (s : State) → IsGoodState s → All IsGoodGrant (as_list (grant_in s))
state_grants (IsRunning grant) good = All-cons IsGoodGrant grant [] good (All-nil IsGoodGrant)
state_grants IsIdle good = All-nil IsGoodGrant
state_grants (IsHolding hold line) good = All-nil IsGoodGrant
state_grants (HasEnded line) good = All-nil IsGoodGrant
state_grants (HasAlarmed code line) good = All-nil IsGoodGrant

good_turn : (job : JobView) (stage : Stage) (c : ℕ) → IsGoodStage stage → IsGoodStage (after_turn (script_of job) stage c)
good_turn job stage c good =
    let step = script_of job c (stage.grants c) in
    let board : IsGood (after_step stage.board c step) = good_step stage.board c step (script_step job c (stage.grants c) (good.grants c)) good.board in
    record {
      board = board;
      grants = λ d. by_test (λ gs. All IsGoodGrant gs) (gets_a_grant stage.board c d) _ _
          (λ gets. All-append IsGoodGrant (stage.grants d) (as_list (grant_in ((after_step stage.board c step).state d))) (good.grants d) (state_grants ((after_step stage.board c step).state d) (board.states d)))
          (λ keeps. good.grants d);
    }

pub good_stage : (job : JobView) (stage : Stage) (cs : List ℕ) → IsGoodStage stage → IsGoodStage (stage_after (script_of job) stage cs)
good_stage job stage [] good = good
good_stage job stage (c ∷ cs) good = good_stage job (after_turn (script_of job) stage c) cs (good_turn job stage c good)

run_moves : (job : JobView) (stage : Stage) (cs : List ℕ) → IsGoodStage stage → All (All MovesSoundly) (items_of job stage cs)
run_moves job stage [] good = All-nil (All MovesSoundly)
run_moves job stage (c ∷ cs) good =
    All-cons (All MovesSoundly) (segment_after job c (stage.grants c)).items (items_of job (after_turn (script_of job) stage c) cs)
    (script_moves job c (stage.grants c) (good.grants c)) (run_moves job (after_turn (script_of job) stage c) cs (good_turn job stage c good))

run_few : (job : JobView) (stage : Stage) (cs : List ℕ) → All (λ (items : List Item). length items ≤ 100000) (items_of job stage cs)
run_few job stage [] = All-nil (λ (items : List Item). length items ≤ 100000)
run_few job stage (c ∷ cs) =
    All-cons (λ (items : List Item). length items ≤ 100000) (segment_after job c (stage.grants c)).items (items_of job (after_turn (script_of job) stage c) cs)
    (script_few job c (stage.grants c)) (run_few job (after_turn (script_of job) stage c) cs)

-- ---- its ends

end_good : (s : State) (ends : List ChannelEnd) → IsGoodState s → All IsListedEnd ends → All IsListedEnd (with_end (end_of s) ends)
end_good IsIdle ends good rest = All-cons IsListedEnd _ ends tt rest
end_good (IsRunning grant) ends good rest = rest
end_good (IsHolding hold line) ends good rest = All-cons IsListedEnd _ ends tt rest
end_good (HasEnded line) ends good rest = All-cons IsListedEnd _ ends tt rest
end_good (HasAlarmed code line) ends good rest = All-cons IsListedEnd _ ends good rest

ends_good : (b : Board) (cs : List ℕ) → IsGood b → All IsListedEnd (ends_among b cs)
ends_good b [] good = All-nil IsListedEnd
ends_good b (c ∷ cs) good = by_test (All IsListedEnd) (has_channel b.start c) _ _
    (λ there. end_good (b.state c) (ends_among b cs) (good.states c) (ends_good b cs good)) (λ missing. ends_good b cs good)

-- ---- where a job starts

given_all : {X Y : Type 0} (P : Y → Type 0) (h : X → Option Y) → ((x : X) → IfSome (h x) P) → (xs : List X) → All P (filter_map h xs)
given_all P h each [] = All-nil P
given_all {Y = Y} P h each (x ∷ xs) = by_option (h x) (each x) (given_all P h each xs)
  where
    by_option : (o : Option Y) → IfSome o P → All P (filter_map h xs) → All P (cons_option o (filter_map h xs))
    by_option None holds rest = rest
    by_option (Some y) holds rest = All-cons P y (filter_map h xs) holds rest

got : {X : Type 0} (P : X → Type 0) (xs : List X) (k : ℕ) → All P xs → IfSome (slice_get xs k) P
got P [] k all = tt
got P (x ∷ xs) zero all = All-head P x xs all
got P (x ∷ xs) (suc k) all = got P xs k (All-tail P x xs all)

found_in_range : (x : ℕ) (lines : List (ℕ × Option ℕ × ℤ)) → All (λ line. IsPosition line.2) lines
    → IsPosition (option_map_or (λ line. line.2) (find (λ line. line.0 == x) lines) (pos 0))
found_in_range x [] all = zero_in_range
found_in_range x (line ∷ lines) all = by_test (λ (o : Option (ℕ × Option ℕ × ℤ)). IsPosition (option_map_or (λ l. l.2) o (pos 0))) (line.0 == x) (Some line) (find (λ l. l.0 == x) lines)
    (λ here. All-head (λ l. IsPosition l.2) line lines all) (λ other. found_in_range x lines (All-tail (λ l. IsPosition l.2) line lines all))

line_in_range : (axis : ℕ) (o : Option AxisLine) → IfSome o (λ line. IsPosition line.at) → IfSome (option_map (first_axis axis) o) (λ line. IsPosition line.2)
line_in_range axis None given = tt
line_in_range axis (Some line) given = given

starts_in_range : (job : JobView) → IsSoundJob job → (x : ℕ) → IsPosition (first_position (start_of job) x)
unfolding start_of first_axes
starts_in_range job sound x = found_in_range x (first_axes job)
    (given_all (λ line. IsPosition line.2) (axis_entry job) (λ axis. line_in_range axis (slice_get job.axes axis) (got (λ line. IsPosition line.at) job.axes axis sound.positions)) (range_with_len 0 AXIS_LIMIT))

pub good_beginning : (job : JobView) → IsSoundJob job → IsGoodStage (first_stage (start_of job))
good_beginning job sound =
    let board : IsGood (first_board (start_of job)) = good_first (start_of job) (starts_in_range job sound) in
    record { board = board; grants = λ d. state_grants ((first_board (start_of job)).state d) (board.states d) }

pub runs_are_sound : (job : JobView) (run : RunView) → RunsAreSound job run
runs_are_sound job run sound one =
    let cs : List ℕ = one.channels in
    let first = good_beginning job sound in
    let last = good_stage job (first_stage (start_of job)) cs first in
    subst IsSoundRun (sym one.all) (record {
      items = run_moves job (first_stage (start_of job)) cs first;
      few = run_few job (first_stage (start_of job)) cs;
      total = items_are_few job cs one.maximal.run;
      ends = ends_good (stage_after (script_of job) (first_stage (start_of job)) cs).board channel_numbers last.board;
    })
