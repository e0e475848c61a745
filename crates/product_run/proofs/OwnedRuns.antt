-- In each run of an accepted job a channel that runs owns the axes of its grant.
use Rattle.std.proofs.Common.{◌≡◌, ◌∙◌, ℕ, ◌<◌, ◌==◌, true, false, List, [], ◌∷◌, ◌++◌, length, IfSome, refl, sym, ap, subst, eqb-true, eq-eqb}
use Rattle.std.proofs.lemmas.List.{length-map}
use Rattle.channel_machine.proofs.Pasts.{grant-got}
use Rattle.channel_machine.proofs.StartLaws.{start_sound}
use Rattle.channel_machine.specs.Coordination.{setting_in}
use Rattle.channel_machine.specs.Run.{Channel, SurroundingsView, channel_at_start, segment_of, surroundings_of}
use Rattle.channel_machine.specs.StartStates.{start_of}
use Rattle.coordination_words.specs.Laws.{selected_program}
use Rattle.coordination_words.specs.Settings.{SettingView}
use Rattle.job_types.specs.Job.{JobView, ProgramView}
use Rattle.job_types.specs.SoundJob.{IsSoundJob}
use Rattle.product_run.proofs.AskedSegments.{IsAsked, IsAskedSegment, segment_asked}
use Rattle.product_run.proofs.JobStarts.{first_programs}
use Rattle.channel_machine.proofs.Pushes.{grants-push}
use Rattle.coord_core.proofs.Entering.{step_start}
use Rattle.product_run.proofs.Owning.{IsOwnState, IsOwnWait, IsOwned, owned_first, owned_step, used_grant}
use Rattle.channel_machine.proofs.NextSegments.{first_segment}
use Rattle.coord_core.proofs.Usage.{Accords, Usage, accords_first, accords_turn, no_usage, usage_after, usage_from}
use Rattle.channel_machine.specs.Scripts.{channel_after_grants, channel_after_segment, script_of, segment_after}
use Rattle.sync_types.proofs.BoardTests.{by_test, no_truth}
use Rattle.sync_types.specs.Boards.{State, IsRunning, grant_in, is_running, owns}
use Rattle.sync_types.specs.Runs.{IsRun, Stage, as_list, after_turn, first_stage, stage_after}
use Rattle.sync_types.specs.declared.Action.{Action}
use Rattle.sync_types.specs.declared.Action.TheVariants.{End, Alarm}
use Rattle.sync_types.specs.declared.Grant.{Grant}
use Rattle.sync_types.specs.declared.Step.{Step}

-- ---- what a segment asks

-- what a block of coordination finds in a channel that goes on with this grant
abbrev pub found_by : JobView → ℕ → Grant → SettingView
found_by job c grant = setting_in job c (surroundings_of job c grant).slots grant.axes

pub one_grant_on : (job : JobView) (c : ℕ) (first : Grant) (rest : List Grant) (grant : Grant) → segment_after job c (first ∷ (rest ++ grant ∷ []))
    ≡ segment_of (surroundings_of job c first) (channel_after_segment (surroundings_of job c first) (channel_after_grants (surroundings_of job c first) rest) grant)
unfolding segment_after
one_grant_on job c first rest grant =
    let s : SurroundingsView = surroundings_of job c first in
    ap (segment_of s) (grants-push s (channel_at_start s) rest grant)

pub asked_after : (job : JobView) (c : ℕ) (made : List Grant) (grant : Grant) → IsAskedSegment (found_by job c grant) (segment_after job c (made ++ grant ∷ []))
asked_after job c [] grant =
    let s : SurroundingsView = surroundings_of job c grant in
    subst (IsAskedSegment (found_by job c grant)) (sym (first_segment job c grant)) (segment_asked s grant.axes (channel_at_start s) refl)
asked_after job c (first ∷ rest) grant =
    let s : SurroundingsView = surroundings_of job c first in
    let before : Channel = channel_after_grants s rest in
    subst (IsAskedSegment (found_by job c grant)) (sym (one_grant_on job c first rest grant))
    (segment_asked s grant.axes (channel_after_segment s before grant) (ap (λ (g : Grant). g.axes) (grant-got s (segment_of s before).after.past grant)))

-- the program that it selects is one of the library
asked_selects : (job : JobView) (c : ℕ) (grant : Grant) (action : Action) → IsAsked (found_by job c grant) action → IfSome (selected_program action) (λ place. place < length job.programs)
asked_selects job c grant End asked = tt
asked_selects job c grant (Alarm code) asked = tt
asked_selects job c grant other asked =
    subst (λ (n : ℕ). IfSome (selected_program other) (λ place. place < n)) (length-map job.programs (λ (p : List ℕ × ProgramView). p.0)) asked.program

script_selects : (job : JobView) (c : ℕ) (made : List Grant) (grant : Grant) → IfSome (selected_program (script_of job c (made ++ grant ∷ [])).action) (λ place. place < length job.programs)
script_selects job c made grant = asked_selects job c grant (script_of job c (made ++ grant ∷ [])).action (asked_after job c made grant).asked

-- ---- the stages of a run

pub record IsOwnStage (job : JobView) (stage : Stage) (usage : Usage) : Type 0 where
  pub start : stage.board.start ≡ start_of job
  pub accords : Accords stage usage
  pub owned : IsOwned (length job.programs) usage stage.board

pub own_beginning : (job : JobView) → IsSoundJob job → IsOwnStage job (first_stage (start_of job)) no_usage
own_beginning job sound = record {
  start = refl;
  accords = accords_first (start_of job);
  owned = owned_first (length job.programs) (start_of job) (start_sound job sound) (first_programs job sound);
}

same_after : (stage : Stage) (usage : Usage) (c : ℕ) → usage_after stage usage c c ≡ stage.grants c
same_after stage usage c = rw (eq-eqb c c refl) refl

-- a channel that runs has got a grant last
pub running_got : (stage : Stage) (usage : Usage) (c : ℕ) → Accords stage usage → is_running (stage.board.state c) ≡ true → (grant : Grant) × (stage.grants c ≡ usage c ++ grant ∷ []) × (stage.board.state c ≡ IsRunning grant)
running_got stage usage c accords runs = by_state (stage.board.state c) refl runs
  where
    by_state : (s : State) → stage.board.state c ≡ s → is_running s ≡ true → (grant : Grant) × (stage.grants c ≡ usage c ++ grant ∷ []) × (s ≡ IsRunning grant)
    by_state (IsRunning grant) at on = (grant, accords.grants c ∙ ap (λ (s : State). usage c ++ as_list (grant_in s)) at, refl)
    by_state other at on = no_truth false on refl

pub own_turn : (job : JobView) (stage : Stage) (usage : Usage) (c : ℕ) → is_running (stage.board.state c) ≡ true → IsOwnStage job stage usage
    → IsOwnStage job (after_turn (script_of job) stage c) (usage_after stage usage c)
own_turn job stage usage c runs own =
    let count : ℕ = length job.programs in
    let last = running_got stage usage c own.accords runs in
    let step : Step = script_of job c (stage.grants c) in
    let selects : IfSome (selected_program step.action) (λ place. place < count) =
    subst (λ (gs : List Grant). IfSome (selected_program (script_of job c gs).action) (λ place. place < count)) (sym last.1) (script_selects job c (usage c) last.0) in
    let uses = used_grant count (usage c) (stage.grants c) stage.board.start (owns stage.board c) (stage.board.state c) runs (own.accords.grants c) (own.owned.own.states c) in
    record {
      start = step_start stage.board c step ∙ own.start;
      accords = accords_turn (script_of job) stage usage c own.accords;
      owned = owned_step count (usage_after stage usage c) stage.board c step selects
          (subst (λ (gs : List Grant). IsOwnWait gs (owns stage.board c)) (sym (same_after stage usage c)) uses.1)
          (record {
            kept = own.owned.kept;
            own = record {
              states = λ d. by_test (λ (gs : List Grant). IsOwnState count gs stage.board.start (owns stage.board d) (stage.board.state d)) (d == c) _ _
                  (λ here. subst (λ (e : ℕ). IsOwnState count (stage.grants e) stage.board.start (owns stage.board e) (stage.board.state e)) (sym (eqb-true d c here)) uses.0)
                  (λ other. own.owned.own.states d);
            };
            robs = own.owned.robs;
          });
    }

own_turns : (job : JobView) (stage : Stage) (usage : Usage) (cs : List ℕ) → IsRun (script_of job) stage cs → IsOwnStage job stage usage
    → IsOwnStage job (stage_after (script_of job) stage cs) (usage_from (script_of job) stage usage cs)
own_turns job stage usage [] run own = own
own_turns job stage usage (c ∷ cs) run own = own_turns job (after_turn (script_of job) stage c) (usage_after stage usage c) cs run.1 (own_turn job stage usage c run.0 own)

-- in each run of an accepted job
pub own_run : (job : JobView) → IsSoundJob job → (cs : List ℕ) → IsRun (script_of job) (first_stage (start_of job)) cs
    → IsOwnStage job (stage_after (script_of job) (first_stage (start_of job)) cs) (usage_from (script_of job) (first_stage (start_of job)) no_usage cs)
own_run job sound cs run = own_turns job (first_stage (start_of job)) no_usage cs run (own_beginning job sound)
