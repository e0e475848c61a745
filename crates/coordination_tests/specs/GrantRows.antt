-- Law. What channels go on with.
use Rattle.std.specs.Prelude.{◌≡◌, ℕ, ℤ, pos, true, false, List, [], ◌∷◌, Some, None}
use Rattle.coordination_tests.specs.AxisRows.{one_slide}
use Rattle.coordination_tests.specs.Play.{grants_of, channels, axes, zones, positions, at_line, at_place}
use Rattle.sync_types.specs.Views.{StartView}
use Rattle.sync_types.specs.declared.Action.TheVariants.{WaitM, Release, Get, Start, Init, End}
use Rattle.sync_types.specs.declared.Grant.{Grant}
use Rattle.sync_types.specs.declared.Step.{Step}

-- all axes that it owns, where those stand that it got, and which of its zones are on
abbrev pub grant : List ℕ → List (ℕ × ℤ) → List ℕ → ℕ → Grant
grant owned places on program = record { axes = axes owned; at = positions places; on = zones on; program = Some program }

-- the first channel lets an axis go, both meet at a mark, and the second takes the axis
abbrev pub hand_over : List (List Step)
hand_over =
    (at_place 8 ((0, pos 50000) ∷ []) (3 ∷ []) (Release (axes (0 ∷ []))) ∷ at_line 9 (WaitM 1 (channels (2 ∷ []))) ∷ at_line 10 End ∷ [])
    ∷ (at_line 12 (WaitM 1 (channels (1 ∷ []))) ∷ at_line 13 (Get (axes (0 ∷ []))) ∷ at_place 15 ((0, pos 120000) ∷ []) (3 ∷ []) End ∷ []) ∷ []

-- it starts where its axis stands, and goes on without it
abbrev pub WhoLetsGo : Type 0
WhoLetsGo = grants_of one_slide hand_over 1 ≡ grant (0 ∷ []) ((0, pos 10000) ∷ []) (3 ∷ []) 0 ∷ grant [] [] [] 0 ∷ grant [] [] [] 0 ∷ []

-- it starts without the axis, and takes it where it was let go
abbrev pub WhoTakes : Type 0
WhoTakes = grants_of one_slide hand_over 2 ≡ grant [] [] [] 1 ∷ grant [] [] [] 1 ∷ grant (0 ∷ []) ((0, pos 50000) ∷ []) (3 ∷ []) 1 ∷ []

-- the second channel has an axis with a zone, and does not run
abbrev pub one_sleeps : StartView
one_sleeps = record {
  channels = (1, Some 0, true) ∷ (2, None, false) ∷ [];
  axes = (0, Some 2, pos 7000) ∷ (1, Some 2, pos 8000) ∷ [];
  zones = (1, axes (0 ∷ []), Some 2, true) ∷ (2, axes (1 ∷ []), Some 2, false) ∷ [];
}

-- who is started goes on with the selected program and the places of all its axes
abbrev pub WhoIsStarted : Type 0
WhoIsStarted = grants_of one_sleeps ((at_line 5 (Init 2 4) ∷ at_line 6 (Start (channels (2 ∷ []))) ∷ at_line 7 End ∷ []) ∷ (at_line 9 End ∷ []) ∷ []) 2
    ≡ grant (0 ∷ 1 ∷ []) ((0, pos 7000) ∷ (1, pos 8000) ∷ []) (1 ∷ []) 4 ∷ []

-- a zone that its channel has switched off goes off with its axis
abbrev pub ZoneGoesOff : Type 0
ZoneGoesOff = grants_of one_slide
    ((at_place 8 ((0, pos 50000) ∷ []) [] (Release (axes (0 ∷ []))) ∷ at_line 10 End ∷ [])
    ∷ (at_line 13 (Get (axes (0 ∷ []))) ∷ at_line 15 End ∷ []) ∷ []) 2
    ≡ grant [] [] [] 1 ∷ grant (0 ∷ []) ((0, pos 50000) ∷ []) [] 1 ∷ []
