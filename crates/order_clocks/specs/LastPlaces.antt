-- Steps. What a step leaves and minds as the code has it, and arrays that show the last places of traces.
use Rattle.std.specs.Prelude.{◌≡◌, ℕ, ◌==◌, ◌&&◌, ◌↔◌, Bool, true, false, List, [], ◌∷◌, ◌++◌, map, Option, Some, None, slice_index_or}
use Rattle.axis_sets.specs.Sets.{has, members_of}
use Rattle.counter_rows.specs.Rows.{count_of}
use Rattle.order_clocks.specs.Chains.{IsIn}
use Rattle.order_clocks.specs.Courses.{Course}
use Rattle.order_clocks.specs.TracedRaces.{Trace, Lowered, Needed, Took, Touched}
use Rattle.order_clocks.specs.Steps.{act_name, go_name}
use Rattle.order_clocks.specs.Tracks.{Tracks, last_place}
use Rattle.step_deeds.specs.declared.deed.StepEvents.{StepEvents}
use Rattle.step_deeds.specs.declared.deed.Wakeup.{Wakeup}
use Rattle.step_deeds.specs.declared.deed.Hold.{Hold}
use Rattle.step_deeds.specs.declared.deed.Hold.TheVariants.{Marks, Ends, Axes}
use Rattle.step_deeds.specs.declared.deed.WaitAt.{WaitAt}
use Rattle.order_clocks.specs.declared.places.LastTouches.{LastTouches}
use Rattle.step_deeds.specs.Holds.{departure_of, goes_in, line_of, lowers_at, names_at}

-- what an act leaves
abbrev pub deed_leaves : StepEvents → Trace → Bool
deed_leaves deed (Lowered c m) = has deed.lowers m && (c == deed.channel)
deed_leaves deed (Touched c) = has deed.touches c
deed_leaves deed other = false

abbrev pub departure_leaves : ℕ → Wakeup → Trace → Bool
departure_leaves c gone (Lowered d m) = lowers_at gone.held m && (d == c)
departure_leaves c gone (Needed d m) = names_at gone.held m d
departure_leaves c gone (Took x) = has gone.took x
departure_leaves c gone (Touched d) = false

abbrev pub leaves_of : ℕ → Option Wakeup → Trace → Bool
leaves_of c (Some gone) t = departure_leaves c gone t
leaves_of c None t = false

-- what an act minds
abbrev pub hold_minds : Option Hold → List Trace
hold_minds (Some (Marks m named)) = map (λ d. Lowered d m) (members_of named)
hold_minds (Some (Ends named)) = []
hold_minds (Some (Axes axes)) = map Took (members_of axes)
hold_minds None = []

abbrev pub deed_minds : StepEvents → List Trace
deed_minds deed = hold_minds deed.begins ++ (map Touched (members_of deed.touches) ++ map (λ m. Needed deed.channel m) (members_of deed.lowers))

-- what one that goes on minds
abbrev pub minds_in : ℕ → Hold → List Trace
minds_in c (Marks m named) = Needed c m ∷ []
minds_in c (Ends named) = []
minds_in c (Axes axes) = []

abbrev pub minds_at_line : ℕ → Option WaitAt → List Trace
minds_at_line c (Some held) = minds_in c held.hold
minds_at_line c None = []

abbrev pub departure_minds : ℕ → Option Wakeup → List Trace
departure_minds c (Some gone) = minds_at_line c gone.held
departure_minds c None = []

-- the traces of the run's step are the deed's
pub record IsTracked (tracks : Tracks) (i : ℕ) (deed : StepEvents) : Type 0 where
  pub act_leaves : (t : Trace) → tracks.leaves (act_name i deed.channel) t ≡ deed_leaves deed t
  pub go_leaves : (c : ℕ) (t : Trace) → goes_in deed c ≡ true → tracks.leaves (go_name i c) t ≡ leaves_of c (departure_of deed c) t
  pub act_line : tracks.line (act_name i deed.channel) ≡ deed.line
  pub go_line : (c : ℕ) → goes_in deed c ≡ true → tracks.line (go_name i c) ≡ line_of (departure_of deed c)
  pub act_minds : (t : Trace) → (tracks.minds (act_name i deed.channel) t ≡ true) ↔ IsIn t (deed_minds deed)
  pub go_minds : (c : ℕ) (t : Trace) → goes_in deed c ≡ true → (tracks.minds (go_name i c) t ≡ true) ↔ IsIn t (departure_minds c (departure_of deed c))

-- for each channel the place of its last event that left a trace
abbrev pub spot_at : LastTouches → Trace → List ℕ
spot_at p (Lowered c m) = slice_index_or (slice_index_or p.lowered m []) c []
spot_at p (Needed c m) = slice_index_or (slice_index_or p.needed m []) c []
spot_at p (Took x) = slice_index_or p.took x []
spot_at p (Touched c) = slice_index_or p.touched c []

-- the arrays have the last places of the first steps
pub record AreLast (run : Course) (tracks : Tracks) (i : ℕ) (p : LastTouches) : Type 0 where
  pub places : (c : ℕ) (t : Trace) → count_of (spot_at p t) c ≡ last_place run tracks c t i
