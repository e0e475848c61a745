-- Each job has a run in order.
use Rattle.std.proofs.Common.{◌≡◌, ◌⊎◌, ℕ, zero, suc, ◌+◌, ◌<◌, ◌≤◌, List, [], ◌∷◌, length, Option, None, Some, inl, inr, refl, ap, arith}
use Rattle.channel_machine.specs.StartStates.{start_of}
use Rattle.job_types.specs.Job.{JobView}
use Rattle.product_run.proofs.Short.{runs_are_short}
use Rattle.product_run.specs.RunLaws.{step_limit}
use Rattle.channel_machine.specs.Scripts.{IsRunInOrder, run_of, script_of}
use Rattle.sync_types.proofs.BoardTests.{first_passes}
use Rattle.sync_types.specs.Boards.{channel_numbers, is_running}
use Rattle.sync_types.specs.Runs.{IsRun, IsSequential, Script, Stage, after_turn, first_stage, lowest_running}
use Rattle.sync_types.specs.Views.{RunView}

-- the lowest running channel goes on, so many times at most: these do, and then none runs, or they were so many
record GoesInOrder (script : Script) (stage : Stage) (most : ℕ) : Type 0 where
  channels : List ℕ
  run : IsRun script stage channels
  ends : IsSequential script stage channels ⊎ (length channels ≡ most)

goes_in_order : (script : Script) (stage : Stage) (most : ℕ) → GoesInOrder script stage most
goes_in_order script stage zero = record { channels = []; run = tt; ends = inr refl }
goes_in_order script stage (suc most) = by_lowest (lowest_running stage.board) refl (λ c. goes_in_order script (after_turn script stage c) most)
  where
    more : (c : ℕ) → lowest_running stage.board ≡ Some c → GoesInOrder script (after_turn script stage c) most → GoesInOrder script stage (suc most)
    more c is rest = record {
      channels = c ∷ rest.channels;
      run = (first_passes (λ d. is_running (stage.board.state d)) channel_numbers c is, rest.run);
      ends = elim rest.ends [ inl sequential ↦ inl (is, sequential) | inr many ↦ inr (ap suc many) ];
    }

    by_lowest : (o : Option ℕ) → lowest_running stage.board ≡ o → ((c : ℕ) → GoesInOrder script (after_turn script stage c) most) → GoesInOrder script stage (suc most)
    by_lowest None is rest = record { channels = []; run = tt; ends = inl is }
    by_lowest (Some c) is rest = more c is (rest c)

-- ---- runs of a job are short, so it ends

ends_before : (script : Script) (stage : Stage) (most limit : ℕ) → limit < most → ((cs : List ℕ) → IsRun script stage cs → length cs ≤ limit)
    → (cs : List ℕ) × IsSequential script stage cs
ends_before script stage most limit less short =
    let goes = goes_in_order script stage most in
    elim goes.ends [
      | inl sequential ↦ (goes.channels, sequential)
      | inr many ↦ (let few = short goes.channels goes.run in absurd (omega (arith, many, few, less)))
    ]

one_more : (limit : ℕ) → limit < limit + 1
one_more limit = omega arith

-- the run in order, and its channels
pub in_order : (job : JobView) → (run : RunView) × IsRunInOrder job (start_of job) run
in_order job =
    let found = ends_before (script_of job) (first_stage (start_of job)) (step_limit + 1) step_limit (one_more step_limit) (λ cs run. runs_are_short job cs run) in
    (run_of job (start_of job) found.0, record { channels = found.0; sequential = found.1; all = refl })
