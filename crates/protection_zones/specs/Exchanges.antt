-- Steps. The events in which axes change hands, and the tenures of a zone by these alone.
use Rattle.std.specs.Prelude.{◌≡◌, ℕ, ◌==◌, List, [], ◌∷◌, ◌++◌, filter, length, slice_index, if◌then◌else◌}
use Rattle.job_types.specs.declared.job.ZoneLine.{ZoneLine}
use Rattle.protection_zones.specs.Notes.{shown_note}
use Rattle.protection_zones.specs.declared.exchanges.HandOver.{HandOver}
use Rattle.zone_stretches.specs.Occurrences.{OccurrenceView}
use Rattle.zone_stretches.specs.Tenures.{TenureView, changes_hands, tenure_after, tenure_until, tenures_from}

-- how many events of each channel have been
abbrev pub counts_in : List ℕ → ℕ → ℕ
counts_in counts c = slice_index counts c

-- how many of these events are of a channel
abbrev pub count_in : List OccurrenceView → ℕ → ℕ
count_in os c = length (filter (λ o. o.channel == c) os)

-- an event, how many events of each channel have been before it, and the number of the span that begins with it
pub record HandOverView : Type 0 where
  pub event : OccurrenceView
  pub counts : ℕ → ℕ
  pub next : ℕ

abbrev pub shown_exchange : HandOver → HandOverView
shown_exchange e = record { event = shown_note e.note e.at; counts = counts_in e.counts; next = e.next }

-- the tenure that begins with it
abbrev pub tenure_from : ZoneLine → HandOverView → TenureView
tenure_from zone h = record (tenure_after zone h.counts h.event) { from = h.next }

-- the tenures of a zone from one on in these events, and then those from the last on
abbrev pub tenures_then : ZoneLine → (TenureView → List TenureView) → TenureView → List HandOverView → List TenureView
tenures_then zone later t [] = later t
tenures_then zone later t (h ∷ hs) =
    if changes_hands zone h.event
    then tenure_until h.counts t h.event ∷ tenures_then zone later (tenure_from zone h) hs
    else tenures_then zone later t hs

-- the tenures of each zone in a run that begins with these events are those by these exchanges, and then those of the later events
pub record AreExchanges (os : List OccurrenceView) (hs : List HandOverView) : Type 0 where
  pub tenures : (zone : ZoneLine) (t : TenureView) (later : List OccurrenceView)
      → tenures_from zone (λ c. 0) t (os ++ later) ≡ tenures_then zone (λ last. tenures_from zone (count_in os) last later) t hs
