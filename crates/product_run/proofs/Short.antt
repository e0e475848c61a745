-- Each run of a job is short.
use Rattle.std.proofs.Common.{◌≡◌, ℕ, ◌≤◌, suc, List, [], ◌∷◌, length, sym, ap, subst, ◌∙◌, arith}
use Rattle.channel_machine.proofs.StartNumbers.{start_numbers}
use Rattle.channel_machine.specs.StartStates.{start_of}
use Rattle.channel_machine.specs.declared.limits.TheConstants.{BLOCK_LIMIT}
use Rattle.job_types.specs.Job.{JobView}
use Rattle.sync_types.specs.Boards.{channel_numbers, first_board}
use Rattle.sync_types.specs.Runs.{Stage, IsRun, after_turn, first_stage}
use Rattle.sync_types.specs.Views.{StartView, RunView}
use Rattle.sync_types.specs.declared.Step.{Step}
use Rattle.channel_machine.specs.Scripts.{script_of}
use Rattle.product_run.specs.RunLaws.{HasFewEntries, IsShort, step_limit}
use Rattle.product_run.proofs.Motions.{entries_many}
use Rattle.product_run.proofs.Measures.{all_left, left_of, left_bound, total_at_most, turn_leaves_less}
use Rattle.coord_core.proofs.Entering.{step_start}
use Rattle.coord_core.proofs.Numbers.{AreNumbered, HasNumbers, numbered_first, numbered_step, running_numbered}
use Rattle.coord_core.proofs.Usage.{Usage, Accords, accords_first, accords_turn, no_usage, usage_after}

shrinks : (job : JobView) (stage : Stage) (usage : Usage) (cs : List ℕ) → Accords stage usage → HasNumbers stage.board.start → AreNumbered stage.board
    → IsRun (script_of job) stage cs → length cs ≤ all_left job stage usage
shrinks job stage usage [] a known idle run = omega arith
shrinks job stage usage (c ∷ cs) a known idle run =
    let in_it = running_numbered stage.board c idle run.0 in
    let step : Step = script_of job c (stage.grants c) in
    let less = turn_leaves_less job stage usage c a run.0 in_it in
    let rest = shrinks job (after_turn (script_of job) stage c) (usage_after stage usage c) cs
    (accords_turn (script_of job) stage usage c a)
    (subst HasNumbers (sym (step_start stage.board c step)) known)
    (numbered_step stage.board c step known in_it idle) run.1 in
    omega (arith, less, rest)

pub runs_are_short : (job : JobView) (cs : List ℕ) → IsShort job cs
runs_are_short job cs run =
    let start : StartView = start_of job in
    let known : HasNumbers start = start_numbers job in
    let few = shrinks job (first_stage start) no_usage cs (accords_first start) known (numbered_first start known) run in
    let most = total_at_most (left_of job (first_stage start).board no_usage) (suc BLOCK_LIMIT) channel_numbers (λ d. left_bound job (first_stage start).board no_usage d) in
    omega (arith, few, most)

-- and so each has few entries
pub few_entries : (job : JobView) (run : RunView) → HasFewEntries job run
few_entries job run one =
    let start : StartView = start_of job in
    let cs : List ℕ = one.channels in
    let few = runs_are_short job cs one.maximal.run in
    let many = entries_many (script_of job) (first_stage start) (first_board start) cs in
    subst (λ (r : RunView). length r.entries ≤ step_limit) (sym one.all) (omega (arith, few, many))
