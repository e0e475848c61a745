-- Law. A script with a maximal run without a race, and with another maximal run.
use Rattle.std.specs.Prelude.{◌≡◌, ℕ, List, [], ◌∷◌}
use Rattle.coordination_tests.specs.MarkClocks.{two_channels}
use Rattle.coordination_tests.specs.Play.{at_line, channels, marks, script_of}
use Rattle.schedule_laws.specs.Schedules.{IsMaximalOf, IsQuietRun, HaveSameResult}
use Rattle.sync_types.specs.Runs.{Script, IsSequential, first_stage}
use Rattle.sync_types.specs.declared.Action.TheVariants.{WaitM, SetM, End}

-- two channels set a mark of their own, and then meet at another
abbrev pub meeting : Script
meeting = script_of
    ((at_line 5 (SetM (marks (2 ∷ []))) ∷ at_line 6 (WaitM 1 (channels (2 ∷ []))) ∷ at_line 7 End ∷ [])
    ∷ (at_line 9 (SetM (marks (3 ∷ []))) ∷ at_line 10 (WaitM 1 (channels (1 ∷ []))) ∷ at_line 11 End ∷ []) ∷ [])

-- the first comes first to the mark
abbrev pub first_waits : List ℕ
first_waits = 1 ∷ 1 ∷ 2 ∷ 2 ∷ 1 ∷ 2 ∷ []

-- or the second
abbrev pub second_waits : List ℕ
second_waits = 2 ∷ 2 ∷ 1 ∷ 1 ∷ 2 ∷ 1 ∷ []

-- Both are maximal runs, and not the same. The first is the sequential run and has no race; so the two have one result.
pub record OneQuietRunOfTwo : Type 0 where
  pub quiet : IsQuietRun meeting two_channels first_waits
  pub sequential : IsSequential meeting (first_stage two_channels) first_waits
  pub other : IsMaximalOf meeting two_channels second_waits
  pub differ : first_waits ≡ second_waits → ⊥
  pub same : HaveSameResult meeting two_channels first_waits second_waits
