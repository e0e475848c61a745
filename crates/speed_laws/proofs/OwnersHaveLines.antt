-- In each run of an accepted job who owns an axis has a line of the job.
use Rattle.std.proofs.Common.{◌≡◌, ◌∙◌, ℕ, ◌==◌, ◌||◌, Bool, true, false, cond, List, [], ◌∷◌, find, Option, None, Some, IfSome, inl, inr, refl, sym, ap}
use Rattle.std.proofs.lemmas.Bool.{cases_Bool, eqb-true}
use Rattle.std.proofs.lemmas.List.Folds.{Any-from_list_any}
use Rattle.std.specs.List.{Any, list_any}
use Rattle.std.specs.Option.{option_map}
use Rattle.channel_machine.proofs.StartLaws.{channel_found, start_sound}
use Rattle.channel_machine.specs.StartStates.{first_channel, first_channels, line_of_channel, start_of}
use Rattle.job_types.specs.Job.{JobView}
use Rattle.job_types.specs.SoundJob.{IsSoundJob}
use Rattle.job_types.specs.declared.job.ChannelLine.{ChannelLine}
use Rattle.number_laws.proofs.Lists.{none_found, some-list_any}
use Rattle.schedule_laws.specs.Schedules.{IsRunOf}
use Rattle.speed_laws.specs.DoingLaws.{stage_by}
use Rattle.speed_laws.specs.Doings.{Doings}
use Rattle.sync_types.proofs.BoardTests.{no_truth}
use Rattle.sync_types.proofs.Together.{Keeps, KeepsFrom, keeps_first, keeps_step}
use Rattle.sync_types.specs.Boards.{Board, is_running, owner_of}
use Rattle.sync_types.specs.Runs.{Script, Stage, IsRun, after_turn, first_stage, next_move, stage_after}
use Rattle.sync_types.specs.Starts.{IsSound, has_channel}
use Rattle.sync_types.specs.Turns.{Move}
use Rattle.sync_types.specs.Views.{StartView}

-- ---- on boards

-- who runs is a channel of the machine
pub runs_known : (b : Board) (c : ℕ) → Keeps b → is_running (b.state c) ≡ true → has_channel b.start c ≡ true
runs_known b c k runs = elim (cases_Bool (has_channel b.start c)) [
  | inl on ↦ on
  | inr off ↦ no_truth (is_running (b.state c)) runs (ap is_running (k.asleep c off))
]

pub keeps_run : (script : Script) (stage : Stage) (cs : List ℕ) → Keeps stage.board → IsRun script stage cs → KeepsFrom stage.board (stage_after script stage cs).board
keeps_run script stage [] k run = (k, refl)
keeps_run script stage (c ∷ cs) k run =
    let m : Move = next_move script stage c in
    let next = keeps_step stage.board m (runs_known stage.board c k run.0) k in
    let rest = keeps_run script (after_turn script stage c) cs next.0 run.1 in
    (rest.0, rest.1 ∙ next.1)

-- and so is who owns an axis
pub owners_known : (script : Script) (start : StartView) → IsSound start → (cs : List ℕ) → IsRun script (first_stage start) cs → (axis c : ℕ)
    → owner_of ((stage_after script (first_stage start) cs).board.axis axis) ≡ Some c → has_channel start c ≡ true
owners_known script start sound cs run axis c owned =
    let kept = keeps_run script (first_stage start) cs (keeps_first start sound) run in
    ap (λ (s : StartView). has_channel s c) (sym kept.1) ∙ kept.0.together.owners axis c owned

-- ---- of a job

found_any : {X : Type 0} (test : X → Bool) (xs : List X) (x : X) → find test xs ≡ Some x → list_any test xs ≡ true
found_any test [] x is = absurd cc
found_any {X} test (y ∷ xs) x is = by_first (test y) is (found_any test xs x)
  where
    by_first : (here : Bool) → cond here (Some y) (find test xs) ≡ Some x → (find test xs ≡ Some x → list_any test xs ≡ true) → (here || list_any test xs) ≡ true
    by_first true is rest = refl
    by_first false is rest = rest is

-- a channel of the machine has a line
line_there : (job : JobView) → IsSoundJob job → (c : ℕ) → has_channel (start_of job) c ≡ true → Any (λ line. line.channel ≡ c) job.channels
unfolding start_of
line_there job sound c there = by_line (line_of_channel job c) refl
  where
    by_line : (o : Option ChannelLine) → line_of_channel job c ≡ o → Any (λ line. line.channel ≡ c) job.channels
    by_line None at =
        absurd (none_found (λ (e : ℕ × Option ℕ × Bool). e.0 == c) (first_channels job) (channel_found job sound c ∙ ap (option_map (first_channel job)) at)
        (some-list_any (λ (e : ℕ × Option ℕ × Bool). e.0 == c) (first_channels job) there))
    by_line (Some line) at =
        let (k, found, within, is, same) = Any-from_list_any (λ (l : ChannelLine). l.channel == c) job.channels (found_any (λ (l : ChannelLine). l.channel == c) job.channels line at) in
        (k, found, within, is, eqb-true found.channel c same)

-- in each run, whatever the channels do
pub owners_have_lines : (job : JobView) (doings : Doings) → IsSoundJob job → (cs : List ℕ) → IsRunOf doings.script (start_of job) cs → (axis : ℕ)
    → IfSome (owner_of ((stage_by job doings cs).board.axis axis)) (λ channel. Any (λ line. line.channel ≡ channel) job.channels)
owners_have_lines job doings sound cs run axis = by_owner (owner_of ((stage_by job doings cs).board.axis axis)) refl
  where
    by_owner : (o : Option ℕ) → owner_of ((stage_by job doings cs).board.axis axis) ≡ o → IfSome o (λ channel. Any (λ line. line.channel ≡ channel) job.channels)
    by_owner None is = tt
    by_owner (Some c) is = line_there job sound c (owners_known doings.script (start_of job) (start_sound job sound) cs run axis c is)
