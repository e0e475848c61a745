-- Meaning. What is told of two zones: the first that holds of one group, a zone that is never on, boxes that are compared, and boxes that are all kept apart in time.
use Rattle.std.specs.Prelude.{ℕ, ◌==◌, Bool, true, false, if◌then◌else◌, Option, None, Some}
use Rattle.explain_pairs.specs.declared.pairs.Absent.{Absent}
use Rattle.explain_pairs.specs.declared.pairs.Absent.TheVariants.{First, Second, Both}
use Rattle.explain_pairs.specs.declared.pairs.Comparison.{Comparison}
use Rattle.explain_pairs.specs.declared.pairs.PairKind.{PairKind}
use Rattle.explain_pairs.specs.declared.pairs.PairKind.TheVariants.{OneGroup, NeverOn, Compared, OneChannel, Coordinated}
use Rattle.explain_pairs.specs.declared.pairs.Presence.{Presence}
use Rattle.explain_pairs.specs.declared.pairs.Presence.TheVariants.{Never, HeldBy, Changing}
use Rattle.explain_pairs.specs.declared.pairs.ZoneFacts.{ZoneFacts}
use Rattle.explain_pairs.specs.declared.pairs.ZonePair.{ZonePair}

-- a zone is never on
abbrev pub is_never : Presence → Bool
is_never Never = true
is_never (HeldBy channel) = false
is_never Changing = false

-- which of two zones are never on, by whether each is
abbrev pub absent_by : Bool → Bool → Option Absent
absent_by true true = Some Both
absent_by true false = Some First
absent_by false true = Some Second
absent_by false false = None

-- a zone is on only while this channel holds it
abbrev pub is_held_by : ℕ → Presence → Bool
is_held_by channel Never = false
is_held_by channel (HeldBy holder) = holder == channel
is_held_by channel Changing = false

-- Boxes are kept apart in time by the order of a channel's own blocks, where it holds each of the two zones whenever that is on. Else
-- marks or other coordination of channels do it.
unfoldable pub apart_by : Presence → Presence → PairKind
apart_by Never other = Coordinated
apart_by (HeldBy channel) other = if is_held_by channel other then OneChannel channel else Coordinated
apart_by Changing other = Coordinated

-- of two zones that are on at times: what is found of their boxes, or what keeps these apart
unfoldable pub kind_on : Presence → Presence → Option Comparison → PairKind
kind_on one other None = apart_by one other
kind_on one other (Some found) = Compared found

-- the same, unless one of them is never on
abbrev pub kind_by : Option Absent → PairKind → PairKind
kind_by None kind = kind
kind_by (Some absent) kind = NeverOn absent

-- of two zones, of whose boxes this is found
unfoldable pub kind_of : ZoneFacts → ZoneFacts → Option Comparison → PairKind
kind_of one other found =
    if one.group == other.group then OneGroup
    else kind_by (absent_by (is_never one.presence) (is_never other.presence)) (kind_on one.presence other.presence found)

-- with their numbers
unfoldable pub pair_of : ZoneFacts → ZoneFacts → Option Comparison → ZonePair
pair_of one other found = record { zones = (one.zone, other.zone); kind = kind_of one other found }
