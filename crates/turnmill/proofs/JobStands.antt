-- Where the axes of a channel stand in a run of a job, by its own grants and as the laws of all speeds see it: alike, of each axis
-- that it owns.
use Rattle.axis_sets.specs.declared.limits.TheConstants.{AXIS_LIMIT}
use Rattle.std.proofs.Common.{◌≡◌, ◌∙◌, ℕ, ℤ, pos, ◌<◌, ◌==◌, ◌||◌, Bool, true, false, List, [], ◌∷◌, ◌++◌, append-nil, is_some, Option, None, Some, unwrap_or, refl, sym, ap, subst}
use Rattle.axis_sets.specs.Positions.{position_of}
use Rattle.axis_sets.specs.Sets.{has}
use Rattle.channel_machine.proofs.Pasts.{fold-push}
use Rattle.channel_machine.specs.StartStates.{start_of}
use Rattle.job_types.specs.Job.{JobView}
use Rattle.job_types.specs.SoundJob.{IsSoundJob}
use Rattle.product_run.proofs.Motions.{stands_first, stands_next}
use Rattle.product_run.proofs.OwnedRuns.{IsOwnStage, own_beginning, own_run, own_turn}
use Rattle.product_run.proofs.Owning.{IsOwnState, was_owned}
use Rattle.coord_core.proofs.Usage.{Usage, no_usage, usage_after, usage_from}
use Rattle.product_run.specs.RunLaws as laws
use Rattle.channel_machine.specs.Scripts.{script_of, segment_after}
use Rattle.schedule_laws.specs.Schedules.{IsRunOf}
use Rattle.speed_laws.proofs.Runs.{left_at_same}
use Rattle.speed_laws.proofs.Standing.{before_more}
use Rattle.speed_laws.specs.DoingLaws.{stage_by}
use Rattle.speed_laws.specs.Doings.{stands_after, stands_before}
use Rattle.sync_types.proofs.BoardTests.{by_test, no_truth}
use Rattle.sync_types.specs.Boards.{State, IsRunning, grant_in, owns}
use Rattle.sync_types.specs.Runs.{IsRun, Stage, after_turn, as_list, first_stage}
use Rattle.sync_types.specs.Views.{StartView}
use Rattle.sync_types.specs.declared.Grant.{Grant}
use Rattle.turnmill.specs.JobDoings.{doings_of}

-- each axis of the last of these grants stands alike
pub record StandAlike (job : JobView) (c : ℕ) (had : List Grant) : Type 0 where
  pub alike : (x : ℕ) → x < AXIS_LIMIT → was_owned had x ≡ true → laws.stands_before job c had x ≡ stands_before job (doings_of job) c had x

-- ---- one grant more

pub was_last : (had : List Grant) (grant : Grant) (x : ℕ) → was_owned (had ++ grant ∷ []) x ≡ has grant.axes x
was_last had grant x = fold-push (λ (_ : Bool) (g : Grant). has g.axes x) false had grant

or_alike : (o : Option ℤ) (p q : ℤ) → (o ≡ None → p ≡ q) → unwrap_or o p ≡ unwrap_or o q
or_alike None p q same = same refl
or_alike (Some position) p q same = refl

-- where the grant does not place an axis of its own, the channel had it
was_had : (o : Option ℤ) (had : Bool) → (is_some o || had) ≡ true → o ≡ None → had ≡ true
was_had None had placed none = placed
was_had (Some position) had placed none = absurd cc

module _ (job : JobView) (c : ℕ) (grant : Grant) where
  -- each axis of the grant is placed by it or was in the grant before
  abbrev IsPlaced : List Grant → Type 0
  IsPlaced had = (x : ℕ) → x < AXIS_LIMIT → has grant.axes x ≡ true → (is_some (position_of grant.at x) || was_owned had x) ≡ true

  -- where the axis stands then, as the laws see it
  seen_next : (had : List Grant) (x : ℕ) → stands_before job (doings_of job) c (had ++ grant ∷ []) x ≡ unwrap_or (position_of grant.at x) (stands_after job (doings_of job) c had x)
  seen_next had x = ap (λ (at : ℕ → ℤ). at x) (before_more job (doings_of job) c had grant)

  alike_after : (had : List Grant) (x : ℕ) → laws.stands_before job c had x ≡ stands_before job (doings_of job) c had x → laws.stands_at_end job c had x ≡ stands_after job (doings_of job) c had x
  unfolding stands_after
  alike_after had x same = left_at_same (segment_after job c had).items (laws.stands_before job c had) (stands_before job (doings_of job) c had) x same

  alike_next : (had : List Grant) → StandAlike job c had → IsPlaced had → (x : ℕ) → x < AXIS_LIMIT → has grant.axes x ≡ true
      → laws.stands_before job c (had ++ grant ∷ []) x ≡ stands_before job (doings_of job) c (had ++ grant ∷ []) x
  alike_next [] a placed x within on =
      stands_first job c grant x
      ∙ or_alike (position_of grant.at x) (pos 0) (stands_after job (doings_of job) c [] x)
      (λ none. no_truth false (was_had (position_of grant.at x) false (placed x within on) none) refl)
      ∙ sym (seen_next [] x)
  alike_next (first ∷ rest) a placed x within on =
      stands_next job c first rest grant x
      ∙ or_alike (position_of grant.at x) (laws.stands_at_end job c (first ∷ rest) x) (stands_after job (doings_of job) c (first ∷ rest) x)
      (λ none. alike_after (first ∷ rest) x (a.alike x within (was_had (position_of grant.at x) (was_owned (first ∷ rest) x) (placed x within on) none)))
      ∙ sym (seen_next (first ∷ rest) x)

  alike_more : (had : List Grant) → StandAlike job c had → IsPlaced had → StandAlike job c (had ++ grant ∷ [])
  alike_more had a placed = record { alike = λ x within on. alike_next had a placed x within (sym (was_last had grant x) ∙ on) }

-- ---- in runs

alike_state : (job : JobView) (c count : ℕ) (had : List Grant) (start : StartView) (owned : ℕ → Bool) (s : State) → IsOwnState count had start owned s
    → StandAlike job c had → StandAlike job c (had ++ as_list (grant_in s))
alike_state job c count had start owned (IsRunning grant) own a = alike_more job c grant had a own.placed
alike_state job c count had start owned other own a = subst (StandAlike job c) (sym (append-nil had)) a

module _ (job : JobView) where
  alike_now : (stage : Stage) (usage : Usage) → IsOwnStage job stage usage → ((d : ℕ) → StandAlike job d (usage d)) → (d : ℕ) → StandAlike job d (stage.grants d)
  alike_now stage usage own a d =
      subst (StandAlike job d) (sym (own.accords.grants d))
      (alike_state job d _ (usage d) stage.board.start (owns stage.board d) (stage.board.state d) (own.owned.own.states d) (a d))

  alike_turns : (stage : Stage) (usage : Usage) (cs : List ℕ) → IsRun (script_of job) stage cs → IsOwnStage job stage usage → ((d : ℕ) → StandAlike job d (usage d))
      → (d : ℕ) → StandAlike job d (usage_from (script_of job) stage usage cs d)
  alike_turns stage usage [] run own a = a
  alike_turns stage usage (c ∷ cs) run own a =
      alike_turns (after_turn (script_of job) stage c) (usage_after stage usage c) cs run.1 (own_turn job stage usage c run.0 own)
      (λ d. by_test (StandAlike job d) (d == c) (stage.grants d) (usage d) (λ here. alike_now stage usage own a d) (λ other. a d))

  -- so it is in each run of an accepted job
  pub stand_alike : IsSoundJob job → (cs : List ℕ) → IsRunOf (script_of job) (start_of job) cs → (c : ℕ) → StandAlike job c ((stage_by job (doings_of job) cs).grants c)
  stand_alike sound cs run c =
      alike_now (stage_by job (doings_of job) cs) (usage_from (script_of job) (first_stage (start_of job)) no_usage cs) (own_run job sound cs run)
      (alike_turns (first_stage (start_of job)) no_usage cs run (own_beginning job sound) (λ d. record { alike = λ x within on. no_truth false on refl })) c
