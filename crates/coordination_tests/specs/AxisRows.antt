-- Law. What comes of channels that let axes go and take them.
use Rattle.std.specs.Prelude.{◌≡◌, pos, negsuc, true, false, [], ◌∷◌, Some, None}
use Rattle.coordination_tests.specs.Play.{outcome_of, channels, marks, axes, at_line, at_place, acts, alarm}
use Rattle.sync_types.specs.Boards.{OwnedBy, FreeAt}
use Rattle.sync_types.specs.Views.{StartView}
use Rattle.sync_types.specs.declared.Action.TheVariants.{WaitM, SetM, Release, Get, End}
use Rattle.sync_types.specs.declared.ChannelEnd.TheVariants.{Ended, Holding, Alarmed}

-- one axis, of the first channel, that carries a zone
abbrev pub one_slide : StartView
one_slide = record {
  channels = (1, Some 0, true) ∷ (2, Some 1, true) ∷ [];
  axes = (0, Some 1, pos 10000) ∷ [];
  zones = (3, axes (0 ∷ []), Some 1, true) ∷ [];
}

-- an axis with a zone for each of two channels
abbrev pub two_turrets : StartView
two_turrets = record {
  channels = (1, Some 0, true) ∷ (2, Some 1, true) ∷ [];
  axes = (0, Some 1, pos 0) ∷ (1, Some 2, pos 200000) ∷ [];
  zones = (1, axes (0 ∷ []), Some 1, true) ∷ (2, axes (1 ∷ []), Some 2, true) ∷ [];
}

-- two axes with one zone for each of the first two channels
abbrev pub two_slides : StartView
two_slides = record {
  channels = (1, Some 0, true) ∷ (2, Some 1, true) ∷ (3, Some 2, true) ∷ [];
  axes = (0, Some 1, pos 100000) ∷ (1, Some 1, pos 0) ∷ (2, Some 2, negsuc 99999) ∷ (3, Some 2, pos 0) ∷ [];
  zones = (1, axes (0 ∷ 1 ∷ []), Some 1, true) ∷ (2, axes (2 ∷ 3 ∷ []), Some 2, true) ∷ [];
}

-- an axis without zones for each of the second and the third channel
abbrev pub three_with_axes : StartView
three_with_axes = record {
  channels = (1, Some 0, true) ∷ (2, Some 1, true) ∷ (3, Some 2, true) ∷ [];
  axes = (0, Some 2, pos 1000) ∷ (1, Some 3, pos 2000) ∷ [];
  zones = [];
}

-- a mark of one channel lets the third go, whose mark lets the second go, which then meets the first
abbrev pub TurretAndSlide : Type 0
TurretAndSlide = outcome_of two_slides
    ((at_place 17 ((0, pos 0) ∷ (1, pos 0) ∷ []) (1 ∷ []) (WaitM 1 (channels (2 ∷ []))) ∷ at_place 19 ((0, pos 100000) ∷ (1, pos 0) ∷ []) (1 ∷ []) End ∷ [])
    ∷ (at_place 21 ((2, negsuc 99999) ∷ (3, pos 0) ∷ []) (2 ∷ []) (WaitM 5 (channels (3 ∷ []))) ∷ at_place 24 ((2, negsuc 99999) ∷ (3, pos 0) ∷ []) (2 ∷ []) (WaitM 1 (channels (1 ∷ []))) ∷ at_place 25 ((2, negsuc 99999) ∷ (3, pos 0) ∷ []) (2 ∷ []) End ∷ [])
    ∷ (at_line 27 (WaitM 1 (channels (1 ∷ []))) ∷ at_line 28 (SetM (marks (5 ∷ []))) ∷ at_line 29 End ∷ []) ∷ [])
    ≡ record {
      acts = acts 1 [] ∷ acts 2 [] ∷ acts 3 (3 ∷ []) ∷ acts 3 (2 ∷ []) ∷ acts 2 (1 ∷ 2 ∷ []) ∷ acts 1 [] ∷ acts 2 [] ∷ acts 3 [] ∷ [];
      ends = Ended 19 ∷ Ended 25 ∷ Ended 29 ∷ [];
      marks = [] ∷ [] ∷ (5 ∷ []) ∷ [];
      axes = OwnedBy 1 ∷ OwnedBy 1 ∷ OwnedBy 2 ∷ OwnedBy 2 ∷ [];
      zones = (Some 1, true) ∷ (Some 2, true) ∷ [];
    }

-- an axis goes from one channel to the other with its zone
abbrev pub AxisIsHandedOn : Type 0
AxisIsHandedOn = outcome_of one_slide
    ((at_place 8 ((0, pos 50000) ∷ []) (3 ∷ []) (Release (axes (0 ∷ []))) ∷ at_line 9 (WaitM 1 (channels (2 ∷ []))) ∷ at_line 10 End ∷ [])
    ∷ (at_line 12 (WaitM 1 (channels (1 ∷ []))) ∷ at_line 13 (Get (axes (0 ∷ []))) ∷ at_place 15 ((0, pos 120000) ∷ []) (3 ∷ []) End ∷ []) ∷ [])
    ≡ record {
      acts = acts 1 [] ∷ acts 1 [] ∷ acts 2 (1 ∷ 2 ∷ []) ∷ acts 1 [] ∷ acts 2 (2 ∷ []) ∷ acts 2 [] ∷ [];
      ends = Ended 10 ∷ Ended 15 ∷ [];
      marks = [] ∷ [] ∷ [];
      axes = OwnedBy 2 ∷ [];
      zones = (Some 2, true) ∷ [];
    }

-- the channel that let the axis go takes it again, and the other waits for good
abbrev pub AxisIsTakenBack : Type 0
AxisIsTakenBack = outcome_of one_slide
    ((at_place 8 ((0, pos 50000) ∷ []) (3 ∷ []) (Release (axes (0 ∷ []))) ∷ at_line 9 (Get (axes (0 ∷ []))) ∷ at_place 10 ((0, pos 50000) ∷ []) (3 ∷ []) End ∷ [])
    ∷ (at_line 13 (Get (axes (0 ∷ []))) ∷ at_line 15 End ∷ []) ∷ [])
    ≡ record {
      acts = acts 1 [] ∷ acts 1 (1 ∷ []) ∷ acts 1 [] ∷ acts 2 [] ∷ [];
      ends = Ended 10 ∷ Holding 13 ∷ [];
      marks = [] ∷ [] ∷ [];
      axes = OwnedBy 1 ∷ [];
      zones = (Some 1, true) ∷ [];
    }

-- an axis that is let go stands where it was, and its zone is on without a holder
abbrev pub AxisStaysFree : Type 0
AxisStaysFree = outcome_of two_turrets
    ((at_place 10 ((0, pos 50000) ∷ []) (1 ∷ []) (Release (axes (0 ∷ []))) ∷ at_line 11 (WaitM 1 (channels (2 ∷ []))) ∷ at_line 12 End ∷ [])
    ∷ (at_place 14 ((1, pos 200000) ∷ []) (2 ∷ []) (WaitM 1 (channels (1 ∷ []))) ∷ at_place 16 ((1, pos 20000) ∷ []) (2 ∷ []) End ∷ []) ∷ [])
    ≡ record {
      acts = acts 1 [] ∷ acts 1 [] ∷ acts 2 (1 ∷ 2 ∷ []) ∷ acts 1 [] ∷ acts 2 [] ∷ [];
      ends = Ended 12 ∷ Ended 16 ∷ [];
      marks = [] ∷ [] ∷ [];
      axes = FreeAt (pos 50000) ∷ OwnedBy 2 ∷ [];
      zones = (None, true) ∷ (Some 2, true) ∷ [];
    }

-- a GET of two axes goes where the second is let go
abbrev pub TwoAxesInTwoSteps : Type 0
TwoAxesInTwoSteps = outcome_of three_with_axes
    ((at_line 8 (Get (axes (0 ∷ 1 ∷ []))) ∷ at_place 9 ((0, pos 1000) ∷ (1, pos 2000) ∷ []) [] End ∷ [])
    ∷ (at_place 11 ((0, pos 1000) ∷ []) [] (Release (axes (0 ∷ []))) ∷ at_line 12 End ∷ [])
    ∷ (at_place 14 ((1, pos 2000) ∷ []) [] (Release (axes (1 ∷ []))) ∷ at_line 15 End ∷ []) ∷ [])
    ≡ record {
      acts = acts 1 [] ∷ acts 2 [] ∷ acts 2 [] ∷ acts 3 (1 ∷ []) ∷ acts 1 [] ∷ acts 3 [] ∷ [];
      ends = Ended 9 ∷ Ended 12 ∷ Ended 15 ∷ [];
      marks = [] ∷ [] ∷ [] ∷ [];
      axes = OwnedBy 1 ∷ OwnedBy 1 ∷ [];
      zones = [];
    }

-- of two that wait for one axis the lower takes it, and the other once it is let go again
abbrev pub LowerTakesFirst : Type 0
LowerTakesFirst = outcome_of three_with_axes
    ((at_line 7 (Get (axes (1 ∷ []))) ∷ at_place 8 ((1, pos 2000) ∷ []) [] (Release (axes (1 ∷ []))) ∷ at_line 9 End ∷ [])
    ∷ (at_place 11 ((0, pos 1000) ∷ []) [] (Get (axes (1 ∷ []))) ∷ at_place 12 ((0, pos 1000) ∷ (1, pos 2000) ∷ []) [] End ∷ [])
    ∷ (at_place 14 ((1, pos 2000) ∷ []) [] (Release (axes (1 ∷ []))) ∷ at_line 15 End ∷ []) ∷ [])
    ≡ record {
      acts = acts 1 [] ∷ acts 2 [] ∷ acts 3 (1 ∷ []) ∷ acts 1 (2 ∷ []) ∷ acts 1 [] ∷ acts 2 [] ∷ acts 3 [] ∷ [];
      ends = Ended 9 ∷ Ended 12 ∷ Ended 15 ∷ [];
      marks = [] ∷ [] ∷ [] ∷ [];
      axes = OwnedBy 2 ∷ OwnedBy 2 ∷ [];
      zones = [];
    }

-- a GET of own axes waits for nothing, and takes nothing
abbrev pub OwnAxesAreTaken : Type 0
OwnAxesAreTaken = outcome_of one_slide
    ((at_place 8 ((0, pos 10000) ∷ []) (3 ∷ []) (Get (axes (0 ∷ []))) ∷ at_place 9 ((0, pos 10000) ∷ []) [] End ∷ [])
    ∷ (at_line 13 End ∷ []) ∷ [])
    ≡ record {
      acts = acts 1 (1 ∷ []) ∷ acts 1 [] ∷ acts 2 [] ∷ [];
      ends = Ended 9 ∷ Ended 13 ∷ [];
      marks = [] ∷ [] ∷ [];
      axes = OwnedBy 1 ∷ [];
      zones = (Some 1, false) ∷ [];
    }

-- who lets go what is not its own: alarm 15, before the zone that is split
abbrev pub NotOwned : Type 0
NotOwned = outcome_of two_slides
    ((at_place 17 ((0, pos 0) ∷ (1, pos 0) ∷ []) (1 ∷ []) (Release (axes (2 ∷ []))) ∷ at_line 18 End ∷ [])
    ∷ (at_line 20 End ∷ [])
    ∷ (at_line 22 End ∷ []) ∷ [])
    ≡ record {
      acts = acts 1 [] ∷ acts 2 [] ∷ acts 3 [] ∷ [];
      ends = Alarmed (alarm 15 17) ∷ Ended 20 ∷ Ended 22 ∷ [];
      marks = [] ∷ [] ∷ [] ∷ [];
      axes = OwnedBy 1 ∷ OwnedBy 1 ∷ OwnedBy 2 ∷ OwnedBy 2 ∷ [];
      zones = (Some 1, true) ∷ (Some 2, false) ∷ [];
    }

-- one of two axes of a zone: alarm 31; no axis of that number: alarm 14
abbrev pub ZoneIsSplit : Type 0
ZoneIsSplit = outcome_of two_slides
    ((at_place 17 ((0, pos 0) ∷ (1, pos 0) ∷ []) (1 ∷ []) (Release (axes (1 ∷ []))) ∷ at_line 18 End ∷ [])
    ∷ (at_place 20 ((2, pos 0) ∷ (3, pos 0) ∷ []) (2 ∷ []) (Get (axes (0 ∷ []))) ∷ at_line 21 End ∷ [])
    ∷ (at_line 23 (Get (axes (4 ∷ []))) ∷ at_line 24 End ∷ []) ∷ [])
    ≡ record {
      acts = acts 1 [] ∷ acts 2 [] ∷ acts 3 [] ∷ [];
      ends = Alarmed (alarm 31 17) ∷ Alarmed (alarm 31 20) ∷ Alarmed (alarm 14 23) ∷ [];
      marks = [] ∷ [] ∷ [] ∷ [];
      axes = OwnedBy 1 ∷ OwnedBy 1 ∷ OwnedBy 2 ∷ OwnedBy 2 ∷ [];
      zones = (Some 1, true) ∷ (Some 2, true) ∷ [];
    }
