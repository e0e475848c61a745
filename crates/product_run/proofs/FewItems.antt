-- In each run of a job all channels together make at most as many items as they may execute blocks.
use Rattle.std.proofs.Common.{◌≡◌, ℕ, ◌+◌, ◌-◌, ◌*◌, ◌≤◌, ◌==◌, true, false, List, [], ◌∷◌, ◌++◌, length, Some, inl, inr, refl, sym, ap, subst, ◌∙◌, arith, eqb-true, eq-eqb}
use Rattle.std.proofs.lemmas.Bool.{cases_Bool, or_cases}
use Rattle.std.proofs.lemmas.List.Sums.{sum_by-cons}
use Rattle.std.specs.List.{sum_by}
use Rattle.axis_sets.specs.declared.limits.TheConstants.{CHANNEL_LIMIT}
use Rattle.channel_machine.proofs.Pasts.{blocks_of-got}
use Rattle.channel_machine.proofs.RunLaws.{counted}
use Rattle.channel_machine.specs.Run.{SurroundingsView, Channel, blocks_of, channel_at_start, segment_of, surroundings_of}
use Rattle.channel_machine.specs.StartStates.{start_of}
use Rattle.channel_machine.specs.declared.limits.TheConstants.{BLOCK_LIMIT}
use Rattle.job_types.specs.Job.{JobView}
use Rattle.sync_types.proofs.BoardTests.{no_truth}
use Rattle.sync_types.specs.Boards.{State, IsRunning, among, channel_numbers, grant_in, is_running}
use Rattle.sync_types.specs.Runs.{Stage, IsRun, after_turn, as_list, first_stage}
use Rattle.sync_types.specs.Views.{StartView}
use Rattle.sync_types.specs.declared.Grant.{Grant}
use Rattle.sync_types.specs.declared.Item.{Item}
use Rattle.sync_types.specs.declared.Step.{Step}
use Rattle.channel_machine.proofs.Pushes.{grants-push}
use Rattle.product_run.proofs.Measures.{blocks_after, few_after, total, total_at_most}
use Rattle.coord_core.proofs.Entering.{step_start}
use Rattle.coord_core.proofs.Numbers.{AreNumbered, HasNumbers, numbered_first, numbered_step, running_numbered}
use Rattle.channel_machine.proofs.StartNumbers.{start_numbers}
use Rattle.coord_core.proofs.Usage.{Usage, Accords, accords_first, accords_turn, no_usage, usage_after}
use Rattle.channel_machine.specs.Scripts.{channel_after_grants, channel_after_segment, items_of, script_of, segment_after}

-- the items of a channel and its blocks before them are at most its blocks after them
items_counted : (job : JobView) (c : ℕ) (made : List Grant) (grant : Grant)
    → blocks_after job c made + length (segment_after job c (made ++ grant ∷ [])).items ≤ blocks_after job c (made ++ grant ∷ [])
unfolding segment_after
items_counted job c [] grant = counted (surroundings_of job c grant) (channel_at_start (surroundings_of job c grant))
items_counted job c (first ∷ rest) grant =
    let s : SurroundingsView = surroundings_of job c first in
    let before : Channel = channel_after_grants s rest in
    let next : Channel = channel_after_segment s before grant in
    let P : Channel → Type 0 = λ x. length (blocks_of (segment_of s before).after.past) + length (segment_of s x).items ≤ length (blocks_of (segment_of s x).after.past) in
    let same = ap length (blocks_of-got (segment_of s before).after.past grant) in
    let more = counted s next in
    subst P (sym (grants-push s (channel_at_start s) rest grant)) (omega (arith, same, more))

-- how many blocks a channel may still execute
abbrev pub blocks_left : JobView → Usage → ℕ → ℕ
blocks_left job usage d = BLOCK_LIMIT - blocks_after job d (usage d)

no_more : (f g : ℕ → ℕ) (cs : List ℕ) → ((d : ℕ) → f d ≤ g d) → total f cs ≤ total g cs
no_more f g [] each = omega arith
no_more f g (c ∷ cs) each = omega (arith, each c, no_more f g cs each)

-- what one of them loses all lose
total_loses : (f g : ℕ → ℕ) (cs : List ℕ) (c n : ℕ) → ((d : ℕ) → f d ≤ g d) → among cs c ≡ true → f c + n ≤ g c → total f cs + n ≤ total g cs
total_loses f g [] c n each in_it less = no_truth false in_it refl
total_loses f g (d ∷ cs) c n each in_it less = elim (or_cases (d == c) (among cs c) in_it) [
  | inl here ↦
      let same = eqb-true d c here in
      omega (arith, ap f same, ap g same, less, no_more f g cs each)
  | inr later ↦ omega (arith, each d, total_loses f g cs c n each later less)
]

running_goes : (s : State) → is_running s ≡ true → (grant : Grant) × (grant_in s ≡ Some grant)
running_goes (IsRunning grant) on = (grant, refl)
running_goes other on = no_truth false on refl

module _ (job : JobView) (stage : Stage) (usage : Usage) (c : ℕ) (a : Accords stage usage) (runs : is_running (stage.board.state c) ≡ true) where
  -- the channel that acts uses blocks for its items
  left_here : blocks_left job (usage_after stage usage c) c + length (segment_after job c (stage.grants c)).items ≤ blocks_left job usage c
  left_here =
      let run = running_goes (stage.board.state c) runs in
      let got : stage.grants c ≡ usage c ++ run.0 ∷ [] = a.grants c ∙ ap (λ o. usage c ++ as_list o) run.1 in
      let used : usage_after stage usage c c ≡ stage.grants c = rw (eq-eqb c c refl) refl in
      let P : List Grant → Type 0 = λ grants. blocks_after job c (usage c) + length (segment_after job c grants).items ≤ blocks_after job c grants in
      let more : P (stage.grants c) = subst P (sym got) (items_counted job c (usage c) run.0) in
      let few = few_after job c (stage.grants c) in
      let Q : List Grant → Type 0 = λ grants. BLOCK_LIMIT - blocks_after job c grants + length (segment_after job c (stage.grants c)).items ≤ blocks_left job usage c in
      subst Q (sym used) (omega (arith, more, few))

  left_there : (d : ℕ) → (d == c) ≡ false → blocks_left job (usage_after stage usage c) d ≤ blocks_left job usage d
  left_there d other =
      let P : List Grant → Type 0 = λ used. BLOCK_LIMIT - blocks_after job d used ≤ blocks_left job usage d in
      let same : usage d ≡ usage_after stage usage c d = sym (rw other refl) in
      subst P same (omega arith)

  left_each : (d : ℕ) → blocks_left job (usage_after stage usage c) d ≤ blocks_left job usage d
  left_each d = elim (cases_Bool (d == c)) [
    | inl here ↦
        let P : ℕ → Type 0 = λ x. blocks_left job (usage_after stage usage c) x ≤ blocks_left job usage x in
        let less = left_here in
        subst P (sym (eqb-true d c here)) (omega (arith, less))
    | inr other ↦ left_there d other
  ]

  items_in_turn : among channel_numbers c ≡ true
      → total (blocks_left job (usage_after stage usage c)) channel_numbers + length (segment_after job c (stage.grants c)).items ≤ total (blocks_left job usage) channel_numbers
  items_in_turn in_it =
      total_loses (blocks_left job (usage_after stage usage c)) (blocks_left job usage) channel_numbers c (length (segment_after job c (stage.grants c)).items) left_each in_it left_here

items_shrink : (job : JobView) (stage : Stage) (usage : Usage) (cs : List ℕ) → Accords stage usage → HasNumbers stage.board.start → AreNumbered stage.board
    → IsRun (script_of job) stage cs → sum_by (λ (items : List Item). length items) (items_of job stage cs) ≤ total (blocks_left job usage) channel_numbers
items_shrink job stage usage [] a known idle run = omega arith
items_shrink job stage usage (c ∷ cs) a known idle run =
    let in_it = running_numbered stage.board c idle run.0 in
    let step : Step = script_of job c (stage.grants c) in
    let less = items_in_turn job stage usage c a run.0 in_it in
    let rest = items_shrink job (after_turn (script_of job) stage c) (usage_after stage usage c) cs
    (accords_turn (script_of job) stage usage c a)
    (subst HasNumbers (sym (step_start stage.board c step)) known)
    (numbered_step stage.board c step known in_it idle) run.1 in
    let sum = sum_by-cons (λ (items : List Item). length items) (segment_after job c (stage.grants c)).items (items_of job (after_turn (script_of job) stage c) cs) in
    omega (arith, less, rest, sum)

-- from the start of the job
pub items_are_few : (job : JobView) (cs : List ℕ) → IsRun (script_of job) (first_stage (start_of job)) cs
    → sum_by (λ (items : List Item). length items) (items_of job (first_stage (start_of job)) cs) ≤ CHANNEL_LIMIT * BLOCK_LIMIT
items_are_few job cs run =
    let start : StartView = start_of job in
    let known : HasNumbers start = start_numbers job in
    let few = items_shrink job (first_stage start) no_usage cs (accords_first start) known (numbered_first start known) run in
    let most = total_at_most (blocks_left job no_usage) BLOCK_LIMIT channel_numbers (λ d. omega arith) in
    omega (arith, few, most)
