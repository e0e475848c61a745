-- Steps. Events of a run and their order, by numbers for those that go on as one event.
use Rattle.std.specs.Prelude.{◌≡◌, ℕ, ◌<◌, ◌≤◌, Bool, true, false, List}
use Rattle.sync_types.specs.Boards.{among}
use Rattle.order_clocks.specs.Chains.{IsIn, Leads}
use Rattle.order_clocks.specs.Happenings.{Key}
use Rattle.order_clocks.specs.Before.{moment}
use Rattle.sync_types.specs.declared.runs.EventId.{EventId}

-- A run, as far as its events and their order go: for each step who acts, what the act gives to later
-- goings on, who goes on, what each rests on, and for each channel that goes on the number of its event: those
-- with one number are one event.
pub record Course : Type 0 where
  pub actor : ℕ → ℕ
  pub gives : ℕ → Key → Bool
  pub goers : ℕ → List ℕ
  pub asks : ℕ → ℕ → List Key
  pub group : ℕ → ℕ → ℕ

abbrev pub IsThereIn : Course → EventId → Bool → Type 0
IsThereIn run e true = among (run.goers e.step) e.channel ≡ true
IsThereIn run e false = run.actor e.step ≡ e.channel

-- an event of the run
abbrev pub IsEventIn : Course → EventId → Type 0
IsEventIn run e = IsThereIn run e e.go

abbrev pub AreJoinedIn : Course → EventId → EventId → Bool → Type 0
AreJoinedIn run a b true = run.group a.step a.channel ≡ run.group b.step b.channel
AreJoinedIn run a b false = a.channel ≡ b.channel

-- two names of one event
pub record AreOneIn (run : Course) (a b : EventId) : Type 0 where
  pub first : IsEventIn run a
  pub second : IsEventIn run b
  pub step : a.step ≡ b.step
  pub go : a.go ≡ b.go
  pub joined : AreJoinedIn run a b a.go

-- the last step up to this one whose act gives the key
pub record IsLastGiftIn (run : Course) (key : Key) (step upto : ℕ) : Type 0 where
  pub gives : run.gives step key ≡ true
  pub up : step ≤ upto
  pub none_later : (i : ℕ) → step < i → i ≤ upto → run.gives i key ≡ false

-- the rules: the order in a channel; an act that gives what one that goes on rests on
pub data RuleIn (run : Course) (a b : EventId) : Type 0 where
  InOrder : a.channel ≡ b.channel → moment a < moment b → RuleIn run a b
  GivesKey : (key : Key) → a.go ≡ false → b.go ≡ true → IsIn key (run.asks b.step b.channel) → IsLastGiftIn run key a.step b.step → RuleIn run a b

-- neighbours: some name of the one and some name of the other
pub record FollowsIn (run : Course) (a b : EventId) : Type 0 where
  pub from : EventId
  pub to : EventId
  pub left : AreOneIn run a from
  pub right : AreOneIn run to b
  pub rule : RuleIn run from to

abbrev pub IsBeforeIn : Course → EventId → EventId → Type 0
IsBeforeIn run a b = Leads (FollowsIn run) a b
