-- The tenures of a zone as the code keeps them.
use Rattle.std.proofs.Common.{◌≡◌, ℕ, ℤ, ◌+◌, ◌<◌, ◌||◌, Bool, true, false, cond, List, ◌∷◌, length, map, drop, get_or, Option, Some, None, refl, sym, add-one}
use Rattle.std.specs.Prelude.{unwrap_or}
use Rattle.std.specs.Option.{option_map_or}
use Rattle.std.proofs.Math.Seq.{drop-cons}
use mathlib.Core.Path.{fun_ext}
use Rattle.axis_sets.specs.Positions.{stands}
use Rattle.axis_sets.specs.Sets.{has}
use Rattle.job_types.specs.declared.job.ZoneLine.{ZoneLine}
use Rattle.protection_zones.specs.Exchanges.{HandOverView, counts_in, shown_exchange, tenure_from, tenures_then}
use Rattle.protection_zones.specs.Notes.{shown_note}
use Rattle.protection_zones.specs.Terms.{changes, shown_term}
use Rattle.protection_zones.specs.declared.exchanges.HandOver.{HandOver}
use Rattle.protection_zones.specs.declared.notes.Occurrence.{Occurrence}
use Rattle.protection_zones.specs.declared.tenures.Tenure.{Tenure}
use Rattle.sync_types.specs.declared.runs.EventId.{EventId}
use Rattle.zone_stretches.proofs.HandLaws.{carry_none}
use Rattle.zone_stretches.specs.Occurrences.{OccurrenceView}
use Rattle.zone_stretches.specs.Rows.{positions_in}
use Rattle.zone_stretches.specs.Tenures.{TenureView, carry, changes_hands, tenure_until}

or_false : (b : Bool) → (b || false) ≡ b
or_false true = refl
or_false false = refl

-- axes of the zone change hands in the event of a note
pub changes_alike : (zone : ZoneLine) (note : Occurrence) (at : List (Option ℤ)) → changes_hands zone (shown_note note at) ≡ changes zone note
unfolding shown_note
changes_alike zone note at = by_go note.name.go
  where
    by_go : (b : Bool) → (carry zone (cond b (λ axis. false) (has note.axes)) || carry zone (cond b (has note.axes) (λ axis. false))) ≡ carry zone (has note.axes)
    by_go true = rw (carry_none zone) refl
    by_go false = rw (carry_none zone) (or_false (carry zone (has note.axes)))

pub takes_alike : (zone : ZoneLine) (note : Occurrence) (at : List (Option ℤ)) → changes zone note ≡ true → carry zone (shown_note note at).takes ≡ note.name.go
unfolding shown_note
takes_alike zone note at on = by_go note.name.go
  where
    by_go : (b : Bool) → carry zone (cond b (has note.axes) (λ axis. false)) ≡ b
    by_go true = on
    by_go false = carry_none zone

-- the tenure that begins with an event
pub term_told : (zone : ZoneLine) (h : HandOverView) (goes : Bool) (owner : Option ℕ) (line : ℕ) (at : List ℤ) (on : List Bool) (name : EventId) → carry zone h.event.takes ≡ goes
    → owner ≡ cond goes (Some h.event.channel) None → line ≡ unwrap_or h.event.line 0 → ((axis : ℕ) → positions_in at axis ≡ stands h.event.at axis) → on ≡ h.event.on → name ≡ h.event.name
    → shown_term (record { owner = owner; from = h.next; upto = None; line = line; at = at; on = on; first = Some name; last = None }) ≡ tenure_from zone h
term_told zone h goes owner line at on name takes owner_is line_is stand on_is name_is =
    let at_is : positions_in at ≡ stands h.event.at = fun_ext stand in
    rw (owner_is, line_is, at_is, on_is, name_is, takes) refl

-- the tenure that ends with one
pub ended_told : (counts : ℕ → ℕ) (term : Tenure) (o : OccurrenceView) (upto : ℕ) (name : EventId) → upto ≡ option_map_or counts term.owner 0 → name ≡ o.name
    → shown_term (record term { upto = Some upto; last = Some name }) ≡ tenure_until counts (shown_term term) o
ended_told counts term o upto name upto_is name_is = rw (upto_is, name_is) refl

-- one exchange of the run
pub next_exchange : (zone : ZoneLine) (later : TenureView → List TenureView) (t : TenureView) (es : List HandOver) (i : ℕ) (e : HandOver) → i < length es → e ≡ get_or es i e
    → tenures_then zone later t (map shown_exchange (drop i es)) ≡ tenures_then zone later t (shown_exchange e ∷ map shown_exchange (drop (i + 1) es))
next_exchange zone later t es i e within is = rw (add-one, drop-cons es i e within, sym is) refl

pub hands_change : (zone : ZoneLine) (later : TenureView → List TenureView) (t : TenureView) (e : HandOver) (rest : List HandOverView) → changes zone e.note ≡ true
    → tenures_then zone later t (shown_exchange e ∷ rest) ≡ tenure_until (counts_in e.counts) t (shown_note e.note e.at) ∷ tenures_then zone later (tenure_from zone (shown_exchange e)) rest
hands_change zone later t e rest on = rw (changes_alike zone e.note e.at, on) refl

pub hands_stay : (zone : ZoneLine) (later : TenureView → List TenureView) (t : TenureView) (e : HandOver) (rest : List HandOverView) → changes zone e.note ≡ false
    → tenures_then zone later t (shown_exchange e ∷ rest) ≡ tenures_then zone later t rest
hands_stay zone later t e rest off = rw (changes_alike zone e.note e.at, off) refl
