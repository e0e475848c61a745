-- Law. What comes of channels that meet at marks.
use Rattle.axis_sets.specs.declared.limits.TheConstants.{MARK_LIMIT}
use Rattle.std.specs.Prelude.{◌≡◌, true, [], ◌∷◌, Some}
use Rattle.coordination_tests.specs.Play.{outcome_of, channels, marks, at_line, acts, alarm}
use Rattle.sync_types.specs.Views.{StartView}
use Rattle.sync_types.specs.declared.Action.TheVariants.{WaitM, SetM, ClearM, End}
use Rattle.sync_types.specs.declared.ChannelEnd.TheVariants.{Ended, Holding, Alarmed}

-- channels that run, without axes and zones
abbrev pub one_channel : StartView
one_channel = record { channels = (1, Some 0, true) ∷ []; axes = []; zones = [] }

abbrev pub two_channels : StartView
two_channels = record { channels = (1, Some 0, true) ∷ (2, Some 1, true) ∷ []; axes = []; zones = [] }

abbrev pub three_channels : StartView
three_channels = record { channels = (1, Some 0, true) ∷ (2, Some 1, true) ∷ (3, Some 2, true) ∷ []; axes = []; zones = [] }

-- three channels meet five times at one mark, each naming the two others
abbrev pub ThreeMeetFiveTimes : Type 0
ThreeMeetFiveTimes = outcome_of three_channels
    ((at_line 7 (WaitM 1 (channels (2 ∷ 3 ∷ []))) ∷ at_line 7 (WaitM 1 (channels (2 ∷ 3 ∷ []))) ∷ at_line 7 (WaitM 1 (channels (2 ∷ 3 ∷ []))) ∷ at_line 7 (WaitM 1 (channels (2 ∷ 3 ∷ []))) ∷ at_line 7 (WaitM 1 (channels (2 ∷ 3 ∷ []))) ∷ at_line 9 End ∷ [])
    ∷ (at_line 12 (WaitM 1 (channels (1 ∷ 3 ∷ []))) ∷ at_line 12 (WaitM 1 (channels (1 ∷ 3 ∷ []))) ∷ at_line 12 (WaitM 1 (channels (1 ∷ 3 ∷ []))) ∷ at_line 12 (WaitM 1 (channels (1 ∷ 3 ∷ []))) ∷ at_line 12 (WaitM 1 (channels (1 ∷ 3 ∷ []))) ∷ at_line 14 End ∷ [])
    ∷ (at_line 17 (WaitM 1 (channels (1 ∷ 2 ∷ []))) ∷ at_line 17 (WaitM 1 (channels (1 ∷ 2 ∷ []))) ∷ at_line 17 (WaitM 1 (channels (1 ∷ 2 ∷ []))) ∷ at_line 17 (WaitM 1 (channels (1 ∷ 2 ∷ []))) ∷ at_line 17 (WaitM 1 (channels (1 ∷ 2 ∷ []))) ∷ at_line 19 End ∷ []) ∷ [])
    ≡ record {
      acts = acts 1 [] ∷ acts 2 [] ∷ acts 3 (1 ∷ 2 ∷ 3 ∷ []) ∷ acts 1 [] ∷ acts 2 [] ∷ acts 3 (1 ∷ 2 ∷ 3 ∷ []) ∷ acts 1 [] ∷ acts 2 [] ∷ acts 3 (1 ∷ 2 ∷ 3 ∷ []) ∷ acts 1 [] ∷ acts 2 [] ∷ acts 3 (1 ∷ 2 ∷ 3 ∷ []) ∷ acts 1 [] ∷ acts 2 [] ∷ acts 3 (1 ∷ 2 ∷ 3 ∷ []) ∷ acts 1 [] ∷ acts 2 [] ∷ acts 3 [] ∷ [];
      ends = Ended 9 ∷ Ended 14 ∷ Ended 19 ∷ [];
      marks = [] ∷ [] ∷ [] ∷ [];
      axes = [];
      zones = [];
    }

-- the mark is lowered before the other comes to it, which then waits for good
abbrev pub LoweredTooSoon : Type 0
LoweredTooSoon = outcome_of two_channels
    ((at_line 5 (SetM (marks (3 ∷ []))) ∷ at_line 6 (ClearM (marks (3 ∷ []))) ∷ at_line 7 End ∷ [])
    ∷ (at_line 9 (WaitM 3 (channels (1 ∷ []))) ∷ at_line 10 End ∷ []) ∷ [])
    ≡ record {
      acts = acts 1 [] ∷ acts 1 [] ∷ acts 1 [] ∷ acts 2 [] ∷ [];
      ends = Ended 7 ∷ Holding 9 ∷ [];
      marks = [] ∷ (3 ∷ []) ∷ [];
      axes = [];
      zones = [];
    }

-- with the programs exchanged the wait is over before the mark is lowered
abbrev pub LoweredLater : Type 0
LoweredLater = outcome_of two_channels
    ((at_line 5 (WaitM 3 (channels (2 ∷ []))) ∷ at_line 6 End ∷ [])
    ∷ (at_line 8 (SetM (marks (3 ∷ []))) ∷ at_line 9 (ClearM (marks (3 ∷ []))) ∷ at_line 10 End ∷ []) ∷ [])
    ≡ record {
      acts = acts 1 [] ∷ acts 2 (1 ∷ []) ∷ acts 1 [] ∷ acts 2 [] ∷ acts 2 [] ∷ [];
      ends = Ended 6 ∷ Ended 10 ∷ [];
      marks = [] ∷ [] ∷ [];
      axes = [];
      zones = [];
    }

-- a channel goes on that names one of two, and the two wait for good
abbrev pub TwoOfThreeMeet : Type 0
TwoOfThreeMeet = outcome_of three_channels
    ((at_line 6 (WaitM 1 (channels (2 ∷ 3 ∷ []))) ∷ at_line 7 End ∷ [])
    ∷ (at_line 9 (WaitM 1 (channels (1 ∷ []))) ∷ at_line 10 End ∷ [])
    ∷ (at_line 12 (WaitM 1 (channels (1 ∷ 2 ∷ []))) ∷ at_line 13 End ∷ []) ∷ [])
    ≡ record {
      acts = acts 1 [] ∷ acts 2 (2 ∷ []) ∷ acts 2 [] ∷ acts 3 [] ∷ [];
      ends = Holding 6 ∷ Ended 10 ∷ Holding 12 ∷ [];
      marks = (1 ∷ []) ∷ [] ∷ (1 ∷ []) ∷ [];
      axes = [];
      zones = [];
    }

-- the own mark stands already: alarm 26
abbrev pub OwnMarkStands : Type 0
OwnMarkStands = outcome_of one_channel
    ((at_line 9 (SetM (marks (2 ∷ []))) ∷ at_line 10 (WaitM 2 (channels (1 ∷ []))) ∷ at_line 11 End ∷ []) ∷ [])
    ≡ record {
      acts = acts 1 [] ∷ acts 1 [] ∷ [];
      ends = Alarmed (alarm 26 10) ∷ [];
      marks = (2 ∷ []) ∷ [];
      axes = [];
      zones = [];
    }

-- a channel that names itself alone goes on at once, and its mark is lowered
abbrev pub OwnMarkAlone : Type 0
OwnMarkAlone = outcome_of one_channel
    ((at_line 9 (SetM (marks (2 ∷ []))) ∷ at_line 10 (ClearM (marks (2 ∷ []))) ∷ at_line 11 (WaitM 2 (channels (1 ∷ []))) ∷ at_line 12 End ∷ []) ∷ [])
    ≡ record {
      acts = acts 1 [] ∷ acts 1 [] ∷ acts 1 (1 ∷ []) ∷ acts 1 [] ∷ [];
      ends = Ended 12 ∷ [];
      marks = [] ∷ [];
      axes = [];
      zones = [];
    }

-- CLEARM with marks lowers those alone
abbrev pub SomeMarksLowered : Type 0
SomeMarksLowered = outcome_of one_channel
    ((at_line 9 (SetM (marks (0 ∷ 2 ∷ 9 ∷ []))) ∷ at_line 10 (ClearM (marks (2 ∷ 5 ∷ []))) ∷ at_line 11 (SetM (marks (3 ∷ []))) ∷ at_line 12 End ∷ []) ∷ [])
    ≡ record {
      acts = acts 1 [] ∷ acts 1 [] ∷ acts 1 [] ∷ acts 1 [] ∷ [];
      ends = Ended 12 ∷ [];
      marks = (0 ∷ 3 ∷ 9 ∷ []) ∷ [];
      axes = [];
      zones = [];
    }

-- CLEARM without a mark lowers all
abbrev pub EveryMarkLowered : Type 0
EveryMarkLowered = outcome_of one_channel
    ((at_line 9 (SetM (marks (0 ∷ 2 ∷ 9 ∷ []))) ∷ at_line 10 (ClearM (marks [])) ∷ at_line 11 End ∷ []) ∷ [])
    ≡ record {
      acts = acts 1 [] ∷ acts 1 [] ∷ acts 1 [] ∷ [];
      ends = Ended 11 ∷ [];
      marks = [] ∷ [];
      axes = [];
      zones = [];
    }

-- a mark that there is not comes first, then a channel that there is not
abbrev pub MarkOutOfRange : Type 0
MarkOutOfRange = outcome_of one_channel
    ((at_line 9 (WaitM MARK_LIMIT (channels (3 ∷ []))) ∷ at_line 10 End ∷ []) ∷ [])
    ≡ record {
      acts = acts 1 [] ∷ [];
      ends = Alarmed (alarm 25 9) ∷ [];
      marks = [] ∷ [];
      axes = [];
      zones = [];
    }

-- a channel that there is not comes before the own mark that stands
abbrev pub ChannelUnknown : Type 0
ChannelUnknown = outcome_of one_channel
    ((at_line 9 (SetM (marks (2 ∷ []))) ∷ at_line 10 (WaitM 2 (channels (3 ∷ []))) ∷ at_line 11 End ∷ []) ∷ [])
    ≡ record {
      acts = acts 1 [] ∷ acts 1 [] ∷ [];
      ends = Alarmed (alarm 24 10) ∷ [];
      marks = (2 ∷ []) ∷ [];
      axes = [];
      zones = [];
    }

-- one goes that names the other; the other names a third besides, and waits on
abbrev pub OneOfTwoGoes : Type 0
OneOfTwoGoes = outcome_of three_channels
    ((at_line 5 (WaitM 2 (channels (3 ∷ []))) ∷ at_line 6 End ∷ [])
    ∷ (at_line 8 End ∷ [])
    ∷ (at_line 10 (WaitM 2 (channels (1 ∷ 2 ∷ []))) ∷ at_line 11 End ∷ []) ∷ [])
    ≡ record {
      acts = acts 1 [] ∷ acts 2 [] ∷ acts 3 (1 ∷ []) ∷ acts 1 [] ∷ [];
      ends = Ended 6 ∷ Ended 8 ∷ Holding 10 ∷ [];
      marks = [] ∷ [] ∷ (2 ∷ []) ∷ [];
      axes = [];
      zones = [];
    }
