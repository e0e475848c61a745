-- Law. What comes of channels that start one another and await their ends.
use Rattle.std.specs.Prelude.{◌≡◌, true, false, [], ◌∷◌, Some, None}
use Rattle.coordination_tests.specs.Play.{outcome_of, channels, at_line, acts, alarm}
use Rattle.sync_types.specs.Views.{StartView}
use Rattle.sync_types.specs.declared.Action.TheVariants.{WaitM, Init, Start, WaitE, End}
use Rattle.sync_types.specs.declared.ChannelEnd.TheVariants.{Idle, Ended, Holding, Alarmed}

-- the first channel runs, the second has no program
abbrev pub one_runs : StartView
one_runs = record { channels = (1, Some 0, true) ∷ (2, None, false) ∷ []; axes = []; zones = [] }

-- the first channel runs, the second has a program, the third has none
abbrev pub one_of_three_runs : StartView
one_of_three_runs = record { channels = (1, Some 0, true) ∷ (2, Some 1, false) ∷ (3, None, false) ∷ []; axes = []; zones = [] }

-- a channel gets a program, starts, and is awaited
abbrev pub StartedAndAwaited : Type 0
StartedAndAwaited = outcome_of one_runs
    ((at_line 5 (Init 2 1) ∷ at_line 6 (Start (channels (2 ∷ []))) ∷ at_line 7 (WaitE (channels (2 ∷ []))) ∷ at_line 8 End ∷ [])
    ∷ (at_line 10 End ∷ []) ∷ [])
    ≡ record {
      acts = acts 1 [] ∷ acts 1 (2 ∷ []) ∷ acts 1 [] ∷ acts 2 (1 ∷ []) ∷ acts 1 [] ∷ [];
      ends = Ended 8 ∷ Ended 10 ∷ [];
      marks = [] ∷ [] ∷ [];
      axes = [];
      zones = [];
    }

-- a channel that runs is started: alarm 27
abbrev pub StartedTwice : Type 0
StartedTwice = outcome_of one_runs
    ((at_line 5 (Init 2 1) ∷ at_line 6 (Start (channels (2 ∷ []))) ∷ at_line 7 (Start (channels (2 ∷ []))) ∷ at_line 8 End ∷ [])
    ∷ (at_line 10 End ∷ []) ∷ [])
    ≡ record {
      acts = acts 1 [] ∷ acts 1 (2 ∷ []) ∷ acts 1 [] ∷ acts 2 [] ∷ [];
      ends = Alarmed (alarm 27 7) ∷ Ended 10 ∷ [];
      marks = [] ∷ [] ∷ [];
      axes = [];
      zones = [];
    }

-- a mark is awaited that never stands
abbrev pub AwaitedInVain : Type 0
AwaitedInVain = outcome_of one_runs
    ((at_line 5 (Init 2 1) ∷ at_line 6 (Start (channels (2 ∷ []))) ∷ at_line 7 (WaitM 5 (channels (2 ∷ []))) ∷ at_line 8 End ∷ [])
    ∷ (at_line 10 End ∷ []) ∷ [])
    ≡ record {
      acts = acts 1 [] ∷ acts 1 (2 ∷ []) ∷ acts 1 [] ∷ acts 2 [] ∷ [];
      ends = Holding 7 ∷ Ended 10 ∷ [];
      marks = (5 ∷ []) ∷ [] ∷ [];
      axes = [];
      zones = [];
    }

-- two are started of which one has no program: alarm 28, and none starts
abbrev pub NoneStarts : Type 0
NoneStarts = outcome_of one_of_three_runs
    ((at_line 6 (Start (channels (2 ∷ 3 ∷ []))) ∷ at_line 7 End ∷ [])
    ∷ (at_line 9 End ∷ [])
    ∷ [] ∷ [])
    ≡ record {
      acts = acts 1 [] ∷ [];
      ends = Alarmed (alarm 28 6) ∷ Idle ∷ Idle ∷ [];
      marks = [] ∷ [] ∷ [] ∷ [];
      axes = [];
      zones = [];
    }

-- one that runs comes before one without a program: alarm 27
abbrev pub AwakeBeforeProgram : Type 0
AwakeBeforeProgram = outcome_of one_of_three_runs
    ((at_line 6 (Start (channels (1 ∷ 3 ∷ []))) ∷ at_line 7 End ∷ [])
    ∷ (at_line 9 End ∷ [])
    ∷ [] ∷ [])
    ≡ record {
      acts = acts 1 [] ∷ [];
      ends = Alarmed (alarm 27 6) ∷ Idle ∷ Idle ∷ [];
      marks = [] ∷ [] ∷ [] ∷ [];
      axes = [];
      zones = [];
    }

-- two start in one step, the lower first
abbrev pub BothStart : Type 0
BothStart = outcome_of one_of_three_runs
    ((at_line 5 (Init 3 2) ∷ at_line 6 (Start (channels (3 ∷ 2 ∷ []))) ∷ at_line 7 End ∷ [])
    ∷ (at_line 9 End ∷ [])
    ∷ (at_line 11 End ∷ []) ∷ [])
    ≡ record {
      acts = acts 1 [] ∷ acts 1 (2 ∷ 3 ∷ []) ∷ acts 1 [] ∷ acts 2 [] ∷ acts 3 [] ∷ [];
      ends = Ended 7 ∷ Ended 9 ∷ Ended 11 ∷ [];
      marks = [] ∷ [] ∷ [] ∷ [];
      axes = [];
      zones = [];
    }

-- a channel that awaits its own end waits for good
abbrev pub AwaitsItself : Type 0
AwaitsItself = outcome_of one_runs
    ((at_line 4 (WaitE (channels (1 ∷ []))) ∷ at_line 5 End ∷ [])
    ∷ [] ∷ [])
    ≡ record {
      acts = acts 1 [] ∷ [];
      ends = Holding 4 ∷ Idle ∷ [];
      marks = [] ∷ [] ∷ [];
      axes = [];
      zones = [];
    }
