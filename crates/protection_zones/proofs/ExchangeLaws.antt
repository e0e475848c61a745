-- The events in which axes change hands tell the tenures of a zone.
use Rattle.std.proofs.Common.{◌≡◌, ℕ, ℤ, suc, ◌==◌, Bool, true, false, cond, List, [], ◌∷◌, ◌++◌, length, map, filter, Option, append_assoc, refl, sym, ap, ◌∙◌, inl, inr}
use Rattle.std.proofs.lemmas.Bool.Decides.{eqb_tells}
use Rattle.std.proofs.lemmas.List.{append-nil, map-append}
use mathlib.Core.Path.{fun_ext}
use Rattle.axis_sets.specs.Sets.{has}
use Rattle.job_types.specs.Job.{JobView}
use Rattle.job_types.specs.declared.job.ZoneLine.{ZoneLine}
use Rattle.protection_zones.specs.Exchanges.{AreExchanges, HandOverView, count_in, counts_in, shown_exchange, tenure_from, tenures_then}
use Rattle.protection_zones.specs.Notes.{shown_note}
use Rattle.zone_stretches.specs.Occurrences.{OccurrenceView}
use Rattle.zone_stretches.specs.Tenures.{TenureView, carry, changes_hands, counted, first_tenure, tenures_from, tenures_of}
use Rattle.protection_zones.specs.declared.exchanges.HandOver.{HandOver}
use Rattle.protection_zones.specs.declared.notes.Occurrence.{Occurrence}
use Rattle.zone_stretches.proofs.HandLaws.{carry_none}
use Rattle.protection_zones.proofs.TenureLaws.{changes_alike}

-- ---- how many events of each channel have been

eqb_symmetric : (a b : ℕ) → (a == b) ≡ (b == a)
eqb_symmetric a b = elim (eqb_tells a b) [
  | inl same ↦ rw same.1 refl
  | inr apart ↦ elim (eqb_tells b a) [ inl same ↦ absurd (apart.1 (sym same.1)) | inr other ↦ apart.0 ∙ sym other.0 ]
]

count_first : (o : OccurrenceView) (os : List OccurrenceView) (c : ℕ) → count_in (o ∷ os) c ≡ cond (o.channel == c) (suc (count_in os c)) (count_in os c)
count_first o os c = by_test (o.channel == c)
  where
    by_test : (b : Bool) → length (cond b (o ∷ filter (λ p. p.channel == c) os) (filter (λ p. p.channel == c) os)) ≡ cond b (suc (count_in os c)) (count_in os c)
    by_test true = refl
    by_test false = refl

-- one event more
pub count_last : (os : List OccurrenceView) (o : OccurrenceView) (c : ℕ) → count_in (os ++ o ∷ []) c ≡ counted (count_in os) o.channel c
count_last [] o c = count_first o [] c ∙ rw (eqb_symmetric o.channel c) refl
count_last (p ∷ os) o c = count_first p (os ++ o ∷ []) c ∙ (rw (count_last os o c, count_first p os c) (by_tests (p.channel == c) (c == o.channel) (count_in os c)))
  where
    by_tests : (a b : Bool) (n : ℕ) → cond a (suc (cond b (suc n) n)) (cond b (suc n) n) ≡ cond b (suc (cond a (suc n) n)) (cond a (suc n) n)
    by_tests true true n = refl
    by_tests true false n = refl
    by_tests false true n = refl
    by_tests false false n = refl

-- ---- one event more of a run

-- the tenures by one exchange more
then_append : (zone : ZoneLine) (later : TenureView → List TenureView) (t : TenureView) (hs : List HandOverView) (h : HandOverView)
    → tenures_then zone later t (hs ++ h ∷ []) ≡ tenures_then zone (λ last. tenures_then zone later last (h ∷ [])) t hs
then_append zone later t [] h = refl
then_append zone later t (g ∷ hs) h = rw (then_append zone later (tenure_from zone g) hs h, then_append zone later t hs h) refl

-- the event as it is kept
abbrev pub handed_over : List OccurrenceView → OccurrenceView → HandOverView
handed_over os o = record { event = o; counts = count_in os; next = suc (count_in os o.channel) }

-- the tenures from an event on, by its exchange and the events after it
one_on : (os : List OccurrenceView) (o : OccurrenceView) (zone : ZoneLine) (later : List OccurrenceView) (last : TenureView)
    → tenures_from zone (count_in os) last (o ∷ later) ≡ tenures_then zone (λ t. tenures_from zone (count_in (os ++ o ∷ [])) t later) last (handed_over os o ∷ [])
one_on os o zone later last =
    let counts : count_in (os ++ o ∷ []) ≡ counted (count_in os) o.channel = fun_ext (count_last os o) in
    rw counts refl

pub exchanged : (os : List OccurrenceView) (o : OccurrenceView) (hs : List HandOverView) → AreExchanges os hs → AreExchanges (os ++ o ∷ []) (hs ++ handed_over os o ∷ [])
exchanged os o hs are = record {
  tenures = λ zone t later.
      let all : TenureView → List TenureView = λ last. tenures_from zone (count_in (os ++ o ∷ [])) last later in
      let next : (λ last. tenures_from zone (count_in os) last (o ∷ later)) ≡ (λ last. tenures_then zone all last (handed_over os o ∷ [])) = fun_ext (one_on os o zone later) in
      ap (tenures_from zone (λ c. 0) t) (append_assoc os (o ∷ []) later)
      ∙ (are.tenures zone t (o ∷ later)
      ∙ (ap (λ (onward : TenureView → List TenureView). tenures_then zone onward t hs) next ∙ sym (then_append zone all t hs (handed_over os o))));
}

-- an event in which no axis changes hands
none_change : (zone : ZoneLine) (note : Occurrence) (at : List (Option ℤ)) → ((x : ℕ) → has note.axes x ≡ false) → changes_hands zone (shown_note note at) ≡ false
none_change zone note at empty =
    let none : has note.axes ≡ (λ axis. false) = fun_ext empty in
    changes_alike zone note at ∙ (ap (carry zone) none ∙ carry_none zone)

pub passed : (os : List OccurrenceView) (note : Occurrence) (at : List (Option ℤ)) (hs : List HandOverView) → ((x : ℕ) → has note.axes x ≡ false) → AreExchanges os hs → AreExchanges (os ++ shown_note note at ∷ []) hs
passed os note at hs empty are = record {
  tenures = λ zone t later.
      let o : OccurrenceView = shown_note note at in
      let counts : count_in (os ++ o ∷ []) ≡ counted (count_in os) o.channel = fun_ext (count_last os o) in
      let next : (λ last. tenures_from zone (count_in os) last (o ∷ later)) ≡ (λ last. tenures_from zone (count_in (os ++ o ∷ [])) last later) =
      fun_ext (λ last. rw (none_change zone note at empty, counts) refl) in
      ap (tenures_from zone (λ c. 0) t) (append_assoc os (o ∷ []) later)
      ∙ (are.tenures zone t (o ∷ later) ∙ ap (λ (onward : TenureView → List TenureView). tenures_then zone onward t hs) next);
}

-- an exchange that is added
pub exchange_added : (os : List OccurrenceView) (es : List HandOver) (e : HandOver) → ((c : ℕ) → counts_in e.counts c ≡ count_in os c) → e.next ≡ suc (count_in os e.note.channel) → AreExchanges os (map shown_exchange es)
    → AreExchanges (os ++ shown_note e.note e.at ∷ []) (map shown_exchange (es ++ e ∷ []))
unfolding shown_note
exchange_added os es e counts next are =
    let counts_are : counts_in e.counts ≡ count_in os = fun_ext counts in
    let shown : shown_exchange e ≡ handed_over os (shown_note e.note e.at) = rw (counts_are, next) refl in
    rw (map-append shown_exchange es (e ∷ []), shown) (exchanged os (shown_note e.note e.at) (map shown_exchange es) are)

-- ---- the tenures of a zone in a whole run

pub first_exchanges : AreExchanges [] []
first_exchanges = record { tenures = λ zone t later. refl }

pub tenures_by : (job : JobView) (os : List OccurrenceView) (zone : ZoneLine) (hs : List HandOverView) → AreExchanges os hs → tenures_then zone (λ t. t ∷ []) (first_tenure job zone) hs ≡ tenures_of job os zone
unfolding tenures_of
tenures_by job os zone hs are = sym (are.tenures zone (first_tenure job zone) []) ∙ ap (tenures_from zone (λ c. 0) (first_tenure job zone)) (append-nil os)
