-- What holds of the spans and of the tenures of a run holds of its stretches.
use Rattle.std.proofs.Common.{ℕ, suc, ◌-◌, List, [], ◌∷◌, map, drop, Option, Some, None, All}
use Rattle.std.specs.List.{flat_map, zip}
use Rattle.std.proofs.lemmas.List.Elements.{All-nil, All-cons, All-head, All-tail, All-append, All-map, All-take, All-drop}
use Rattle.job_types.specs.Job.{JobView}
use Rattle.job_types.specs.Zones.{zones_in_order}
use Rattle.job_types.specs.declared.job.ZoneLine.{ZoneLine}
use Rattle.order_clocks.specs.Clocked.{moves_in}
use Rattle.sync_types.specs.Boards.{Board}
use Rattle.sync_types.specs.Views.{RunView}
use Rattle.sync_types.specs.declared.Item.{Item}
use Rattle.zone_stretches.specs.Occurrences.{OccurrenceView, occurrences_of}
use Rattle.zone_stretches.specs.Overlaps.{ZoneTime, zone_times}
use Rattle.zone_stretches.specs.Spans.{Span, spans_of}
use Rattle.zone_stretches.specs.Stretches.{StretchView, stretch_of_span, free_stretch, spans_between, spans_in, spans_until, stretches_held_by, stretches_in_tenure, stretches_of_zone, all_stretches}
use Rattle.zone_stretches.specs.Tenures.{TenureView, tenures_of}

-- ---- zones

paired : (f : ZoneLine → List StretchView) (P : ZoneTime → Type 0) → ((zone : ZoneLine) → P (record { zone = zone; stretches = f zone })) → (zones : List ZoneLine)
    → All P (map (λ p. record { zone = p.0; stretches = p.1 }) (zip zones (map f zones)))
paired f P each [] = All-nil P
paired f P each (zone ∷ zones) = All-cons P (record { zone = zone; stretches = f zone }) _ (each zone) (paired f P each zones)

-- what holds of each zone with its stretches
pub each_time : (job : JobView) (b : Board) (run : RunView) (P : ZoneTime → Type 0)
    → ((zone : ZoneLine) → P (record { zone = zone; stretches = stretches_of_zone job run.items (occurrences_of b (moves_in run.entries)) zone }))
    → All P (zone_times job (all_stretches job b run))
unfolding zone_times all_stretches
each_time job b run P each = paired (stretches_of_zone job run.items (occurrences_of b (moves_in run.entries))) P each (zones_in_order job)

-- the same where something holds of each zone of the job
paired_where : (f : ZoneLine → List StretchView) (P : ZoneTime → Type 0) (Q : ZoneLine → Type 0) → ((zone : ZoneLine) → Q zone → P (record { zone = zone; stretches = f zone })) → (zones : List ZoneLine) → All Q zones
    → All P (map (λ p. record { zone = p.0; stretches = p.1 }) (zip zones (map f zones)))
paired_where f P Q each [] all = All-nil P
paired_where f P Q each (zone ∷ zones) all =
    All-cons P (record { zone = zone; stretches = f zone }) _ (each zone (All-head Q zone zones all)) (paired_where f P Q each zones (All-tail Q zone zones all))

pub each_zone_time : (job : JobView) (b : Board) (run : RunView) (P : ZoneTime → Type 0) (Q : ZoneLine → Type 0)
    → ((zone : ZoneLine) → Q zone → P (record { zone = zone; stretches = stretches_of_zone job run.items (occurrences_of b (moves_in run.entries)) zone })) → All Q (zones_in_order job)
    → All P (zone_times job (all_stretches job b run))
unfolding zone_times all_stretches
each_zone_time job b run P Q each all = paired_where (stretches_of_zone job run.items (occurrences_of b (moves_in run.entries))) P Q each (zones_in_order job) all

-- ---- stretches

-- what holds of the spans of each channel, and of the time while nobody holds the zone
between : (P : Span → Type 0) (spans : List Span) (from : ℕ) (upto : Option ℕ) → All P spans → All P (spans_between spans from upto)
between P spans from None all = All-drop P from spans all
between P spans from (Some upto) all = All-take P (suc upto - from) (drop from spans) (All-drop P from spans all)

-- it holds of the stretch of a span, also where that ends with a tenure
abbrev pub HoldsOf : JobView → ZoneLine → (StretchView → Type 0) → ℕ → Span → Type 0
HoldsOf job zone P c span =
    P (stretch_of_span job zone c span) × ((t : TenureView) → P (free_stretch job zone t) → P (stretch_of_span job zone c (record span { last = t.last })))

until : (job : JobView) (zone : ZoneLine) (P : StretchView → Type 0) (c : ℕ) (t : TenureView) → P (free_stretch job zone t) → (spans : List Span) → All (HoldsOf job zone P c) spans
    → All (λ span. P (stretch_of_span job zone c span)) (spans_until t.last spans)
until job zone P c t free [] each = All-nil (λ span. P (stretch_of_span job zone c span))
until job zone P c t free (span ∷ []) each =
    All-cons (λ span. P (stretch_of_span job zone c span)) (record span { last = t.last }) [] ((All-head (HoldsOf job zone P c) span [] each).1 t free)
    (All-nil (λ span. P (stretch_of_span job zone c span)))
until job zone P c t free (span ∷ next ∷ spans) each =
    All-cons (λ span. P (stretch_of_span job zone c span)) span (spans_until t.last (next ∷ spans)) (All-head (HoldsOf job zone P c) span (next ∷ spans) each).0
    (until job zone P c t free (next ∷ spans) (All-tail (HoldsOf job zone P c) span (next ∷ spans) each))

held : (job : JobView) (zone : ZoneLine) (spans : ℕ → List Span) (P : StretchView → Type 0) → ((c : ℕ) → All (HoldsOf job zone P c) (spans c))
    → (t : TenureView) → P (free_stretch job zone t) → (owner : Option ℕ) → All P (stretches_held_by job zone spans t owner)
held job zone spans P each t free None = All-cons P (free_stretch job zone t) [] free (All-nil P)
held job zone spans P each t free (Some c) =
    All-map P (stretch_of_span job zone c) (spans_in (spans c) t)
    (until job zone P c t free (spans_between (spans c) t.from t.upto) (between (HoldsOf job zone P c) (spans c) t.from t.upto (each c)))

pub in_tenures : (job : JobView) (zone : ZoneLine) (spans : ℕ → List Span) (P : StretchView → Type 0) → ((c : ℕ) → All (HoldsOf job zone P c) (spans c))
    → (tenures : List TenureView) → All (λ t. P (free_stretch job zone t)) tenures → All P (flat_map (stretches_in_tenure job zone spans) tenures)
in_tenures job zone spans P each [] free = All-nil P
in_tenures job zone spans P each (t ∷ ts) free =
    All-append P (stretches_in_tenure job zone spans t) (flat_map (stretches_in_tenure job zone spans) ts)
    (held job zone spans P each t (All-head (λ t. P (free_stretch job zone t)) t ts free) t.owner)
    (in_tenures job zone spans P each ts (All-tail (λ t. P (free_stretch job zone t)) t ts free))

pub each_stretch : (job : JobView) (items : List (List Item)) (occurrences : List OccurrenceView) (zone : ZoneLine) (P : StretchView → Type 0)
    → ((c : ℕ) → All (HoldsOf job zone P c) (spans_of job items occurrences c))
    → All (λ t. P (free_stretch job zone t)) (tenures_of job occurrences zone) → All P (stretches_of_zone job items occurrences zone)
unfolding stretches_of_zone
each_stretch job items occurrences zone P each free = in_tenures job zone (spans_of job items occurrences) P each (tenures_of job occurrences zone) free
