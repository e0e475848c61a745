-- A step that leaves no trace and minds none is in no race, and leaves the last places as they are.
use Rattle.std.proofs.Common.{◌≡◌, ℕ, suc, ◌==◌, ◌&&◌, Bool, true, false, List, Option, Some, None, refl, sym, ap, ◌∙◌}
use Rattle.std.proofs.lemmas.Bool.{true≢false}
use Rattle.std.proofs.lemmas.Option.{none-some}
use Rattle.counter_rows.specs.Rows.{count_of}
use Rattle.counter_rows.specs.declared.table.StepClocks.{StepClocks}
use Rattle.order_clocks.specs.Chains.{IsIn}
use Rattle.order_clocks.specs.Courses.{Course}
use Rattle.order_clocks.specs.Happenings.{happening_at, going_of}
use Rattle.order_clocks.specs.LastPlaces.{AreLast, IsTracked, deed_leaves, leaves_of}
use Rattle.order_clocks.specs.Pairs.{IsLeastWith}
use Rattle.order_clocks.specs.Races.{IsRace}
use Rattle.order_clocks.specs.TracedRaces.{IsTracedRace, Trace, Lowered, Needed, Took, Touched, act_leaves, act_minds, Apart, StillWaits, Differ, StillAsks, leaves_at, minds_at}
use Rattle.order_clocks.specs.Reading.{IsOnlyOne}
use Rattle.order_clocks.specs.Steps.{AreRows, IsStep}
use Rattle.order_clocks.specs.Tracks.{Tracks}
use Rattle.order_clocks.specs.Watching.{IsGoingOf, IsRead, begun_shown}
use Rattle.order_clocks.specs.declared.places.LastTouches.{LastTouches}
use Rattle.order_clocks.proofs.PairLaws.{least_none}
use Rattle.order_clocks.proofs.PlaceLaws.{last_more}
use Rattle.order_clocks.proofs.RaceCases.{races_agree}
use Rattle.step_deeds.specs.Holds.{IsTraceless, departure_of, is_given}
use Rattle.step_deeds.specs.declared.deed.StepEvents.{StepEvents}
use Rattle.step_deeds.specs.declared.deed.Wakeup.{Wakeup}
use Rattle.sync_types.specs.Boards.{Board, among}
use Rattle.sync_types.specs.GoingOn.{Going}
use Rattle.sync_types.specs.Turns.{Move}
use Rattle.sync_types.specs.declared.runs.Race.{Race}

and_off : (b d : Bool) → d ≡ false → (b && d) ≡ false
and_off true d off = off
and_off false d off = refl

-- the last places
deed_traces : (deed : StepEvents) (t : Trace) → IsTraceless deed → deed_leaves deed t ≡ false
deed_traces deed (Lowered c m) quiet = rw (quiet.lowers m) refl
deed_traces deed (Needed c m) quiet = refl
deed_traces deed (Took x) quiet = refl
deed_traces deed (Touched c) quiet = quiet.touches c

go_traces : (c : ℕ) (gone : Option Wakeup) (t : Trace) → is_given gone ≡ false → leaves_of c gone t ≡ false
go_traces c None t none = refl
go_traces c (Some g) t none = absurd (true≢false none)

pub traceless_places : (run : Course) (tracks : Tracks) (i : ℕ) (deed : StepEvents) (rows : StepClocks) (p : LastTouches)
    → IsStep run i deed → IsTracked tracks i deed → AreRows run i rows → AreLast run tracks i p → IsTraceless deed → AreLast run tracks (suc i) p
traceless_places run tracks i deed rows p is tracked are last quiet =
    last_more run tracks i deed rows p p p (count_of rows.act deed.channel) is tracked are last refl
    (λ t c. rw (deed_traces deed t quiet) refl)
    (λ t c. rw (go_traces c (departure_of deed c) t (quiet.goes c)) refl)

-- the races
none_going : (gone : Option Wakeup) (g : Option Going) → IsGoingOf gone g → is_given gone ≡ false → g ≡ None
none_going None None is none = refl
none_going None (Some g) is none = absurd is
none_going (Some gone) g is none = absurd (true≢false none)

traceless_race : (b : Board) (ms : List Move) (i : ℕ) (deed : StepEvents) (race : Race) → IsRead deed (happening_at b ms i)
    → ((g : Going) → IsIn g (happening_at b ms i).goings → IsOnlyOne (happening_at b ms i).goings g)
    → IsTraceless deed → IsRace b ms i race → ⊥
traceless_race b ms i deed race read alone quiet is = by_case ((races_agree b ms i race).0 is)
  where
    nobody : (c : ℕ) → going_of (happening_at b ms i).goings c ≡ None
    nobody c = none_going (departure_of deed c) (going_of (happening_at b ms i).goings c) (read.goings c) (quiet.goes c)

    none_in : (g : Going) → IsIn g (happening_at b ms i).goings → ⊥
    none_in g within = let only = alone g within in none-some only.other (sym (nobody g.channel) ∙ only.found)

    lowers : (m : ℕ) → (happening_at b ms i).lowers m ≡ false
    lowers m = sym (read.lowers m) ∙ quiet.lowers m

    touches : (c : ℕ) → among (happening_at b ms i).touches c ≡ false
    touches c = sym (read.touches c) ∙ quiet.touches c

    begins : (happening_at b ms i).begins ≡ None
    begins = sym read.begins ∙ ap begun_shown quiet.begins

    act_left : (t : Trace) → act_leaves (happening_at b ms i) t ≡ false
    act_left (Lowered c m) = and_off (c == (happening_at b ms i).channel) ((happening_at b ms i).lowers m) (lowers m)
    act_left (Needed c m) = refl
    act_left (Took x) = refl
    act_left (Touched c) = touches c

    act_minded : (t : Trace) → act_minds (happening_at b ms i) t ≡ false
    act_minded (Lowered c m) = rw begins refl
    act_minded (Needed c m) = and_off (c == (happening_at b ms i).channel) ((happening_at b ms i).lowers m) (lowers m)
    act_minded (Took x) = rw begins refl
    act_minded (Touched c) = touches c

    left : (j c : ℕ) (g : Bool) (t : Trace) → j ≡ i → leaves_at b ms (record { step = j; channel = c; go = g }) t ≡ false
    left j c true t here = rw (here, nobody c) refl
    left j c false t here = rw here (act_left t)

    minded : (j c : ℕ) (g : Bool) (t : Trace) → j ≡ i → minds_at b ms (record { step = j; channel = c; go = g }) t ≡ false
    minded j c true t here = rw (here, nobody c) refl
    minded j c false t here = rw here (act_minded t)

    by_case : IsTracedRace b ms i race → ⊥
    by_case (Apart early late trace step apart is) = true≢false (sym apart.minded ∙ minded late.step late.channel late.go trace step)
    by_case (StillWaits lowering d m line named step event leaves other after names is) =
        true≢false (sym leaves ∙ left lowering.step lowering.channel lowering.go (Lowered lowering.channel m) step)
    by_case (Differ g h m line other_line x named other_named in_g in_h from_g from_h names differ is) = none_in g in_g
    by_case (StillAsks g d x line from_standing axes in_g took other after asked is) = none_in g in_g

pub traceless_least : (b : Board) (ms : List Move) (i : ℕ) (deed : StepEvents) → IsRead deed (happening_at b ms i)
    → ((g : Going) → IsIn g (happening_at b ms i).goings → IsOnlyOne (happening_at b ms i).goings g)
    → IsTraceless deed → IsLeastWith (IsRace b ms i) None None
traceless_least b ms i deed read alone quiet = least_none (IsRace b ms i) None (λ race is. traceless_race b ms i deed race read alone quiet is)
