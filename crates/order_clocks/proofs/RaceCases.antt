-- The races by their cases are those by the traces that events leave and mind.
use Rattle.std.proofs.Common.{◌≡◌, ℕ, ◌↔◌, ◌==◌, Bool, true, false, if◌then◌else◌, List, Option, Some, None, refl, sym, ap, ◌∙◌}
use Rattle.std.proofs.lemmas.Bool.{eqb-true, eq-eqb, and_parts, and_from, false≢true}
use Rattle.order_clocks.specs.Happenings.{happening_at, going_of, waits_for, asks_for, of_going}
use Rattle.order_clocks.specs.Races.{IsRace, LoweredThenAwaited, NeededThenLowered, LoweredWhileAwaited, MetUnlike, TakenThenAsked, TakenWhileAsked, TouchedTwice, AreUnsettled, going_at, awaits_mark, lowers_mark, needed_mark}
use Rattle.order_clocks.specs.TracedRaces.{IsTracedRace, Apart, StillWaits, Differ, StillAsks, AreApart, Trace, Lowered, Needed, Took, Touched, going_leaves, leaves_at, minds_at}
use Rattle.order_clocks.proofs.OrderLaws.{event_in}
use Rattle.order_clocks.proofs.TellLaws.{going_within}
use Rattle.sync_types.specs.Boards.{Board, among}
use Rattle.sync_types.specs.Events.{IsEvent}
use Rattle.sync_types.specs.GoingOn.{Going, lowers}
use Rattle.sync_types.specs.Turns.{Move}
use Rattle.sync_types.specs.declared.runs.EventId.{EventId}
use Rattle.sync_types.specs.declared.runs.Race.{Race}

abbrev name : ℕ → ℕ → Bool → EventId
name i c go = record { step = i; channel = c; go = go }

-- who lowers a mark lowers its own
lowered_to : (b : Board) (moves : List Move) (i c : ℕ) (go : Bool) (m : ℕ) → IsEvent b moves (name i c go) → lowers_mark b moves (name i c go) m ≡ true → leaves_at b moves (name i c go) (Lowered c m) ≡ true
lowered_to b moves i c true m event on = by_going (going_of (happening_at b moves i).goings c) refl on
  where
    by_going : (o : Option Going) → going_of (happening_at b moves i).goings c ≡ o → of_going o (λ g. lowers g.from m) ≡ true → of_going o (λ g. going_leaves g (Lowered c m)) ≡ true
    by_going (Some g) found on = and_from (c == g.channel) (lowers g.from m) (eq-eqb c g.channel (sym (going_within (happening_at b moves i).goings c g found).1)) on
    by_going None found on = on
lowered_to b moves i c false m event on =
    and_from (c == (happening_at b moves i).channel) ((happening_at b moves i).lowers m) (eq-eqb c ((happening_at b moves i).channel) (sym (event_in b moves (name i c false) event))) on

lowered_from : (b : Board) (moves : List Move) (i c : ℕ) (go : Bool) (d m : ℕ) → IsEvent b moves (name i c go) → leaves_at b moves (name i c go) (Lowered d m) ≡ true → (d ≡ c) × (lowers_mark b moves (name i c go) m ≡ true)
lowered_from b moves i c true d m event on = by_going (going_of (happening_at b moves i).goings c) refl on
  where
    by_going : (o : Option Going) → going_of (happening_at b moves i).goings c ≡ o → of_going o (λ g. going_leaves g (Lowered d m)) ≡ true → (d ≡ c) × (of_going o (λ g. lowers g.from m) ≡ true)
    by_going (Some g) found on =
        let p = and_parts (d == g.channel) (lowers g.from m) on in
        (eqb-true d g.channel p.0 ∙ (going_within (happening_at b moves i).goings c g found).1, p.1)
    by_going None found on = absurd (false≢true on)
lowered_from b moves i c false d m event on =
    let p = and_parts (d == (happening_at b moves i).channel) ((happening_at b moves i).lowers m) on in
    (eqb-true d ((happening_at b moves i).channel) p.0 ∙ event_in b moves (name i c false) event, p.1)

-- what an act alone can do
act_to : (go : Bool) (o : Option Going) (act : Bool) → (if go then false else act) ≡ true → (if go then of_going o (λ g. false) else act) ≡ true
act_to true o act on = absurd (false≢true on)
act_to false o act on = on

act_from : (go : Bool) (o : Option Going) (act : Bool) → (if go then of_going o (λ g. false) else act) ≡ true → (if go then false else act) ≡ true
act_from true (Some g) act on = on
act_from true None act on = on
act_from false o act on = on

-- two events whose order is not settled are apart where the one leaves what the other minds
apart_if : (b : Board) (moves : List Move) (early late : EventId) (t : Trace) → AreUnsettled b moves early late → leaves_at b moves early t ≡ true → minds_at b moves late t ≡ true → AreApart b moves early late t
apart_if b moves early late t pair left minded = record {
  first = pair.first;
  second = pair.second;
  step = pair.step;
  channels = pair.channels;
  left = left;
  minded = minded;
  unordered = pair.unordered;
}

unsettled : (b : Board) (moves : List Move) (early late : EventId) (t : Trace) → AreApart b moves early late t → AreUnsettled b moves early late
unsettled b moves early late t apart = record {
  first = apart.first;
  second = apart.second;
  step = apart.step;
  channels = apart.channels;
  unordered = apart.unordered;
}

to_traces : (b : Board) (moves : List Move) (i : ℕ) (race : Race) → IsRace b moves i race → IsTracedRace b moves i race
to_traces b moves i race (LoweredThenAwaited lowering wait m step pair lowers waits is) =
    Apart lowering wait (Lowered lowering.channel m) step
    (apart_if b moves lowering wait (Lowered lowering.channel m) pair (lowered_to b moves lowering.step lowering.channel lowering.go m pair.first lowers) (act_to wait.go (going_at b moves wait) (waits_for (happening_at b moves wait.step).begins lowering.channel m) waits)) is
to_traces b moves i race (NeededThenLowered going lowering m step pair needed lowers is) =
    Apart going lowering (Needed lowering.channel m) step
    (apart_if b moves going lowering (Needed lowering.channel m) pair needed (lowered_to b moves lowering.step lowering.channel lowering.go m pair.second lowers)) is
to_traces b moves i race (LoweredWhileAwaited lowering d m line named step event lowers other after names is) =
    StillWaits lowering d m line named step event (lowered_to b moves lowering.step lowering.channel lowering.go m event lowers) other after names is
to_traces b moves i race (MetUnlike g h m line other_line x named other_named in_g in_h from_g from_h names differ is) = Differ g h m line other_line x named other_named in_g in_h from_g from_h names differ is
to_traces b moves i race (TakenThenAsked taking get x step pair takes asks is) = Apart taking get (Took x) step (apart_if b moves taking get (Took x) pair takes (act_to get.go (going_at b moves get) (asks_for (happening_at b moves get.step).begins x) asks)) is
to_traces b moves i race (TakenWhileAsked g d x line from_standing axes in_g took other after asked is) = StillAsks g d x line from_standing axes in_g took other after asked is
to_traces b moves i race (TouchedTwice early late c step pair one other is) =
    Apart early late (Touched c) step (apart_if b moves early late (Touched c) pair (act_to early.go (going_at b moves early) (among (happening_at b moves early.step).touches c) one)
    (act_to late.go (going_at b moves late) (among (happening_at b moves late.step).touches c) other)) is

from_traces : (b : Board) (moves : List Move) (i : ℕ) (race : Race) → IsTracedRace b moves i race → IsRace b moves i race
from_traces b moves i race (Apart early late (Lowered c m) step apart is) =
    let low = lowered_from b moves early.step early.channel early.go c m apart.first apart.left in
    LoweredThenAwaited early late m step (unsettled b moves early late (Lowered c m) apart) low.1
    (ap (λ (d : ℕ). awaits_mark b moves late d m) (sym low.0) ∙ act_from late.go (going_at b moves late) (waits_for (happening_at b moves late.step).begins c m) apart.minded) is
from_traces b moves i race (Apart early late (Needed c m) step apart is) =
    let low = lowered_from b moves late.step late.channel late.go c m apart.second apart.minded in
    NeededThenLowered early late m step (unsettled b moves early late (Needed c m) apart) (ap (λ (d : ℕ). needed_mark b moves early d m) (sym low.0) ∙ apart.left) low.1 is
from_traces b moves i race (Apart early late (Took x) step apart is) =
    TakenThenAsked early late x step (unsettled b moves early late (Took x) apart) apart.left
    (act_from late.go (going_at b moves late) (asks_for (happening_at b moves late.step).begins x) apart.minded) is
from_traces b moves i race (Apart early late (Touched c) step apart is) =
    TouchedTwice early late c step (unsettled b moves early late (Touched c) apart) (act_from early.go (going_at b moves early) (among (happening_at b moves early.step).touches c) apart.left)
    (act_from late.go (going_at b moves late) (among (happening_at b moves late.step).touches c) apart.minded) is
from_traces b moves i race (StillWaits lowering d m line named step event leaves other after names is) =
    LoweredWhileAwaited lowering d m line named step event (lowered_from b moves lowering.step lowering.channel lowering.go lowering.channel m event leaves).1 other after names is
from_traces b moves i race (Differ g h m line other_line x named other_named in_g in_h from_g from_h names differ is) = MetUnlike g h m line other_line x named other_named in_g in_h from_g from_h names differ is
from_traces b moves i race (StillAsks g d x line from_standing axes in_g took other after asked is) = TakenWhileAsked g d x line from_standing axes in_g took other after asked is

-- both tellings agree
pub races_agree : (b : Board) (moves : List Move) (i : ℕ) (race : Race) → IsRace b moves i race ↔ IsTracedRace b moves i race
races_agree b moves i race = (to_traces b moves i race, from_traces b moves i race)
