-- Law. Which events of worked runs are one.
use Rattle.std.specs.Prelude.{ℕ, true, false, List, [], ◌∷◌}
use Rattle.coordination_tests.specs.MarkClocks.{three_channels}
use Rattle.coordination_tests.specs.Play.{channels, marks, at_line, moves_in_order}
use Rattle.sync_types.specs.Boards.{first_board}
use Rattle.sync_types.specs.Events.{AreOne, IsEvent}
use Rattle.sync_types.specs.Turns.{Move}
use Rattle.sync_types.specs.declared.Action.TheVariants.{WaitM, SetM, End}
use Rattle.sync_types.specs.declared.runs.EventId.{EventId}

abbrev pub act_in : ℕ → ℕ → EventId
act_in step channel = record { step = step; channel = channel; go = false }

abbrev pub go_in : ℕ → ℕ → EventId
go_in step channel = record { step = step; channel = channel; go = true }

-- the third names both others, and each of them the third alone
abbrev pub both_meet_the_third : List Move
both_meet_the_third = moves_in_order three_channels
    ((at_line 1 (WaitM 1 (channels (3 ∷ []))) ∷ at_line 2 End ∷ [])
    ∷ (at_line 3 (WaitM 1 (channels (3 ∷ []))) ∷ at_line 4 End ∷ [])
    ∷ (at_line 5 (WaitM 1 (channels (1 ∷ 2 ∷ []))) ∷ at_line 6 End ∷ []) ∷ [])

-- all three go in its step, and the goings of the two are one event by way of the third
abbrev pub OneByTheThird : Type 0
OneByTheThird = AreOne (first_board three_channels) both_meet_the_third (go_in 2 1) (go_in 2 2)

-- the two others wait for a mark that the third sets
abbrev pub both_await_the_third : List Move
both_await_the_third = moves_in_order three_channels
    ((at_line 1 (WaitM 1 (channels (3 ∷ []))) ∷ at_line 2 End ∷ [])
    ∷ (at_line 3 (WaitM 1 (channels (3 ∷ []))) ∷ at_line 4 End ∷ [])
    ∷ (at_line 5 (SetM (marks (1 ∷ []))) ∷ at_line 6 End ∷ []) ∷ [])

-- both go in its step, and these are two events
pub record TwoInOneStep : Type 0 where
  pub first : IsEvent (first_board three_channels) both_await_the_third (go_in 2 1)
  pub second : IsEvent (first_board three_channels) both_await_the_third (go_in 2 2)
  pub apart : AreOne (first_board three_channels) both_await_the_third (go_in 2 1) (go_in 2 2) → ⊥
