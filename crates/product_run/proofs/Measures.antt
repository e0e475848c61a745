-- How many steps a run has still to come.
use Rattle.std.proofs.Common.{◌≡◌, ℕ, suc, ◌+◌, ◌-◌, ◌*◌, ◌<◌, ◌≤◌, ◌==◌, Bool, true, false, List, [], ◌∷◌, ◌++◌, length, fold, Some, ◌⊎◌, if◌then◌else◌, refl, sym, ap, subst, ◌∙◌, inl, inr, arith, eqb-true, eq-eqb}
use Rattle.std.proofs.lemmas.Bool.{cases_Bool, or_cases}
use Rattle.channel_machine.specs.Run.{SurroundingsView, Channel, blocks_of, channel_at_start, segment_of, surroundings_of}
use Rattle.channel_machine.specs.declared.limits.TheConstants.{BLOCK_LIMIT}
use Rattle.channel_machine.proofs.Pasts.{blocks_of-got}
use Rattle.channel_machine.proofs.RunLaws.{few_blocks}
use Rattle.job_types.specs.Job.{JobView}
use Rattle.sync_types.proofs.BoardTests.{no_truth}
use Rattle.sync_types.specs.Boards.{State, IsRunning, Board, among, channel_numbers, grant_in, is_running}
use Rattle.sync_types.specs.Runs.{Stage, after_turn, as_list}
use Rattle.sync_types.specs.declared.Grant.{Grant}
use Rattle.product_run.proofs.Blocks.{segment_grows}
use Rattle.coord_core.proofs.Staying.{has_stopped, stays_in_step, stopped_in_step, stopped_stays, stops}
use Rattle.channel_machine.proofs.Pushes.{grants-push}
use Rattle.coord_core.proofs.Usage.{Usage, Accords, usage_after}
use Rattle.channel_machine.specs.Scripts.{channel_after_grants, channel_after_segment, script_of, segment_after}

-- ---- the blocks of a channel

-- how many blocks a channel has executed after the segments of these grants
abbrev pub blocks_after : JobView → ℕ → List Grant → ℕ
blocks_after job c grants = length (blocks_of (segment_after job c grants).after.past)

few_in : (s : SurroundingsView) (c : Channel) (grants : List Grant) → length (blocks_of c.past) ≤ BLOCK_LIMIT
    → length (blocks_of (fold (channel_after_segment s) c grants).past) ≤ BLOCK_LIMIT
few_in s c [] few = few
few_in s c (grant ∷ grants) few =
    let same = ap length (blocks_of-got (segment_of s c).after.past grant) in
    let less = few_blocks s c few in
    few_in s (channel_after_segment s c grant) grants (omega (arith, same, less))

pub few_after : (job : JobView) (c : ℕ) (grants : List Grant) → blocks_after job c grants ≤ BLOCK_LIMIT
unfolding segment_after
few_after job c [] = omega arith
few_after job c (first ∷ grants) =
    let s : SurroundingsView = surroundings_of job c first in
    few_blocks s (channel_after_grants s grants) (few_in s (channel_at_start s) grants (omega arith))

-- a channel uses a grant more: its segment ends it, or executes a block
pub one_block_more : (job : JobView) (c : ℕ) (made : List Grant) (grant : Grant)
    → (stops (segment_after job c (made ++ grant ∷ [])).step.action ≡ true) ⊎ (blocks_after job c made + 1 ≤ blocks_after job c (made ++ grant ∷ []))
unfolding segment_after
one_block_more job c [] grant = segment_grows (surroundings_of job c grant) (channel_at_start (surroundings_of job c grant))
one_block_more job c (first ∷ rest) grant =
    let s : SurroundingsView = surroundings_of job c first in
    let before : Channel = channel_after_grants s rest in
    let next : Channel = channel_after_segment s before grant in
    let P : Channel → Type 0 = λ x. (stops (segment_of s x).step.action ≡ true) ⊎ (length (blocks_of (segment_of s before).after.past) + 1 ≤ length (blocks_of (segment_of s x).after.past)) in
    let same = ap length (blocks_of-got (segment_of s before).after.past grant) in
    subst P (sym (grants-push s (channel_at_start s) rest grant)) (elim (segment_grows s next) [
      | inl ends ↦ inl ends
      | inr more ↦ inr (omega (arith, same, more))
    ])

-- ---- what is left of a run

-- how many steps a channel can still make: each but the last executes a block
abbrev pub steps_left : Bool → ℕ → ℕ
steps_left stopped executed = if stopped then 0 else suc BLOCK_LIMIT - executed

abbrev pub left_of : JobView → Board → Usage → ℕ → ℕ
left_of job b usage d = steps_left (has_stopped (b.state d)) (blocks_after job d (usage d))

abbrev pub total : (ℕ → ℕ) → List ℕ → ℕ
total f [] = 0
total f (c ∷ cs) = f c + total f cs

no_more : (f g : ℕ → ℕ) (cs : List ℕ) → ((d : ℕ) → f d ≤ g d) → total f cs ≤ total g cs
no_more f g [] each = omega arith
no_more f g (c ∷ cs) each = omega (arith, each c, no_more f g cs each)

pub less_total : (f g : ℕ → ℕ) (cs : List ℕ) (c : ℕ) → ((d : ℕ) → f d ≤ g d) → among cs c ≡ true → f c < g c → total f cs < total g cs
less_total f g [] c each in_it less = no_truth false in_it refl
less_total f g (d ∷ cs) c each in_it less = elim (or_cases (d == c) (among cs c) in_it) [
  | inl here ↦
      let same = eqb-true d c here in
      omega (arith, ap f same, ap g same, less, no_more f g cs each)
  | inr later ↦ omega (arith, each d, less_total f g cs c each later less)
]

pub total_at_most : (f : ℕ → ℕ) (n : ℕ) (cs : List ℕ) → ((d : ℕ) → f d ≤ n) → total f cs ≤ length cs * n
total_at_most f n [] each = omega arith
total_at_most f n (c ∷ cs) each = omega (arith, each c, total_at_most f n cs each)

-- of all channels
abbrev pub all_left : JobView → Stage → Usage → ℕ
all_left job stage usage = total (left_of job stage.board usage) channel_numbers

left_at_most : (stopped : Bool) (executed : ℕ) → steps_left stopped executed ≤ suc BLOCK_LIMIT - executed
left_at_most true executed = omega arith
left_at_most false executed = omega arith

pub left_bound : (job : JobView) (b : Board) (usage : Usage) (d : ℕ) → left_of job b usage d ≤ suc BLOCK_LIMIT
left_bound job b usage d = let least = left_at_most (has_stopped (b.state d)) (blocks_after job d (usage d)) in omega (arith, least)

left_other : (before after : Bool) (executed : ℕ) → (before ≡ true → after ≡ true) → steps_left after executed ≤ steps_left before executed
left_other true true executed same = omega arith
left_other true false executed same = no_truth false (same refl) refl
left_other false after executed same = left_at_most after executed

running_goes : (s : State) → is_running s ≡ true → (grant : Grant) × (grant_in s ≡ Some grant) × (has_stopped s ≡ false)
running_goes (IsRunning grant) on = (grant, refl, refl)
running_goes other on = no_truth false on refl

left_acting : (stopped ends : Bool) (before after : ℕ) → before ≤ BLOCK_LIMIT → after ≤ BLOCK_LIMIT → (ends ≡ true → stopped ≡ true) → (ends ≡ true) ⊎ (before + 1 ≤ after)
    → steps_left stopped after < suc BLOCK_LIMIT - before
left_acting stopped ends before after few later stop (inl on) = rw (stop on) (omega arith)
left_acting stopped ends before after few later stop (inr more) = omega (arith, left_at_most stopped after, few, later, more)

module _ (job : JobView) (stage : Stage) (usage : Usage) (c : ℕ) (a : Accords stage usage) (runs : is_running (stage.board.state c) ≡ true) where
  next : Stage
  next = after_turn (script_of job) stage c

  -- the steps of the others are no more
  left_others : (d : ℕ) → (d == c) ≡ false → left_of job next.board (usage_after stage usage c) d ≤ left_of job stage.board usage d
  unfolding next
  left_others d other =
      let P : List Grant → Type 0 = λ used. steps_left (has_stopped (next.board.state d)) (blocks_after job d used) ≤ left_of job stage.board usage d in
      let same : usage d ≡ usage_after stage usage c d = sym (rw other refl) in
      subst P same (left_other (has_stopped (stage.board.state d)) (has_stopped (next.board.state d)) (blocks_after job d (usage d))
      (λ on. ap has_stopped (stays_in_step stage.board c (script_of job c (stage.grants c)) d other (stopped_stays (stage.board.state d) on)) ∙ on))

  -- those of the channel that acts are fewer
  left_less : left_of job next.board (usage_after stage usage c) c < left_of job stage.board usage c
  unfolding next
  left_less =
      let run = running_goes (stage.board.state c) runs in
      let got : stage.grants c ≡ usage c ++ run.0 ∷ [] = a.grants c ∙ ap (λ o. usage c ++ as_list o) run.1 in
      let used : usage_after stage usage c c ≡ stage.grants c = rw (eq-eqb c c refl) refl in
      let P : List Grant → Type 0 = λ grants. (stops (segment_after job c grants).step.action ≡ true) ⊎ (blocks_after job c (usage c) + 1 ≤ blocks_after job c grants) in
      let more : P (stage.grants c) = subst P (sym got) (one_block_more job c (usage c) run.0) in
      let Q : List Grant → Type 0 = λ grants. steps_left (has_stopped (next.board.state c)) (blocks_after job c grants) < suc BLOCK_LIMIT - blocks_after job c (usage c) in
      let R : Bool → Type 0 = λ t. left_of job next.board (usage_after stage usage c) c < steps_left t (blocks_after job c (usage c)) in
      subst R (sym run.2) (subst Q (sym used) (left_acting (has_stopped (next.board.state c)) (stops (segment_after job c (stage.grants c)).step.action) (blocks_after job c (usage c)) (blocks_after job c (stage.grants c))
      (few_after job c (usage c)) (few_after job c (stage.grants c))
      (stopped_in_step stage.board c (script_of job c (stage.grants c))) more))

  left_each : (d : ℕ) → left_of job next.board (usage_after stage usage c) d ≤ left_of job stage.board usage d
  left_each d = elim (cases_Bool (d == c)) [
    | inl here ↦
        let P : ℕ → Type 0 = λ x. left_of job next.board (usage_after stage usage c) x ≤ left_of job stage.board usage x in
        subst P (sym (eqb-true d c here)) (omega (arith, left_less))
    | inr other ↦ left_others d other
  ]

  -- a turn leaves less
  pub turn_leaves_less : among channel_numbers c ≡ true → all_left job (after_turn (script_of job) stage c) (usage_after stage usage c) < all_left job stage usage
  unfolding next
  turn_leaves_less in_it = less_total (left_of job next.board (usage_after stage usage c)) (left_of job stage.board usage) channel_numbers c left_each in_it left_less
