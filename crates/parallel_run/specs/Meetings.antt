-- Steps. Where workers meet before they begin: the rule of the number that they share, what a seat at the meeting knows of it, and its steps.
use Rattle.std.specs.Prelude.{◌≡◌, ℕ, ◌+◌, ◌≤◌, ◌==◌, Bool, List, [], ◌∷◌, MatchBool, if◌then◌else◌}
use Rattle.std.specs.List.{sum_by}
use mathlib.Core.Option.{some}
use lib.ListN.{get_elem?}
use Rattle.atomic_table.specs.Seated.{TableId}
use Rattle.atomic_table.specs.Table.{Me, State}
use Rattle.parallel_run.specs.declared.meeting.Knowledge.{Knowledge}

-- a meeting: which one it is, and for how many workers
pub record MeetingView : Type 0 where
  pub table_id : TableId
  pub workers : ℕ

-- what the seat of a worker knows that has not come yet
abbrev pub first_knowledge : ℕ → Knowledge
first_knowledge workers = record { workers = workers; come = 0; seen = 0 }

-- A seat knows how many workers meet. Its worker is counted at most once. The number is no less than the seat has seen; and where it has seen all, or
-- one more, the number stays there.
pub record Knows (workers number : ℕ) (v : Knowledge) : Type 0 where
  pub all : v.workers ≡ workers
  pub once : v.come ≤ 1
  pub seen : v.seen ≤ number
  pub stays : workers ≤ v.seen → number ≡ v.seen

-- how many of these have come
abbrev pub come_of : List Knowledge → ℕ
come_of views = sum_by (λ (v : Knowledge). v.come) views

-- The number is at most one more than all workers. Up to all it counts those that have come, and one more than all says that none begins.
pub record IsKept {S : Type 0} (workers : ℕ) (s : State S Knowledge) : Type 0 where
  pub number : ℕ
  pub words : s.words ≡ number ∷ []
  pub most : number ≤ workers + 1
  pub each : (j : ℕ) (v : Knowledge) → get_elem? s.views j ≡ some v → Knows workers number v
  pub counts : number ≤ workers → come_of s.views ≡ number

-- ---- steps

abbrev pub with_seen : Knowledge → ℕ → Knowledge
with_seen v n = record { workers = v.workers; come = v.come; seen = n }

abbrev pub with_come : Knowledge → ℕ → Knowledge
with_come v n = record { workers = v.workers; come = 1; seen = n }

-- the number that a seat finds: at most one more than all, no less than what it has seen, and that where this was all or one more
pub record IsFound (v : Knowledge) (found : ℕ) : Type 0 where
  pub most : found ≤ v.workers + 1
  pub more : v.seen ≤ found
  pub stays : v.workers ≤ v.seen → found ≡ v.seen

-- a worker takes its seat, and has seen the number
abbrev pub Sits : {S : Type 0} → Me S Knowledge → ℕ → Me S Knowledge → Type 0
Sits me found after = (found ≤ me.0.workers + 1) × (after ≡ (with_seen me.0 found, me.1))

-- the number is read
abbrev pub Looks : {S : Type 0} → Me S Knowledge → ℕ → Me S Knowledge → Type 0
Looks me found after = IsFound me.0 found × (after ≡ (with_seen me.0 found, me.1))

-- where the number is as expected, the worker is counted
abbrev pub Comes : {S : Type 0} → ℕ → Me S Knowledge → ℕ → Me S Knowledge → Type 0
Comes expected me found after = IsFound me.0 found × MatchBool (found == expected) (after ≡ (with_come me.0 (expected + 1), me.1)) (after ≡ (with_seen me.0 found, me.1))

-- where the number is as expected, none begins
abbrev pub GivesUp : {S : Type 0} → ℕ → Me S Knowledge → ℕ → Me S Knowledge → Type 0
GivesUp expected me found after =
    IsFound me.0 found × MatchBool (found == expected) (after ≡ (with_seen me.0 (me.0.workers + 1), me.1)) (after ≡ (with_seen me.0 found, me.1))

-- ---- what a worker is told

-- whether all have come: the seat has seen the number of all then, and else one more
abbrev pub IsTold : MeetingView → Bool → Knowledge → Type 0
IsTold meeting all v = v.seen ≡ (if all then meeting.workers else meeting.workers + 1)

-- ---- laws of the rule

-- all that are told whether all have come are told the same
abbrev pub AreToldAlike : Type 0 → ℕ → Type 0
AreToldAlike S workers = (s : State S Knowledge) → IsKept workers s → (i j : ℕ) (v w : Knowledge) → get_elem? s.views i ≡ some v → get_elem? s.views j ≡ some w
    → workers ≤ v.seen → workers ≤ w.seen → v.seen ≡ w.seen

-- where one is told that all have come, as many were counted, each once
abbrev pub AllCameWhereTold : Type 0 → ℕ → Type 0
AllCameWhereTold S workers = (s : State S Knowledge) → IsKept workers s → (i : ℕ) (v : Knowledge) → get_elem? s.views i ≡ some v → v.seen ≡ workers → come_of s.views ≡ workers
