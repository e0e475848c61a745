-- A point of space in a zone is in a piece of a box of a stretch that covers the zone's axes where they are.
use Rattle.std.proofs.Common.{◌≡◌, ◌≢◌, ◌∙◌, ℕ, suc, ℤ, ◌≤◌, ◌<◌, Bool, true, false, cond, ◌==◌, ◌&&◌, ◌||◌, List, [], ◌∷◌, length, find, get_or, slice_index_or, Option, None, Some, IfSome, AllPairs, inl, refl, sym, ap, arith}
use Rattle.std.proofs.lemmas.Bool.{eqb-true, ne_eqb}
use Rattle.std.specs.List.{list_any}
use Rattle.channel_machine.proofs.StartLaws.{zone_found}
use Rattle.channel_machine.specs.StartStates.{start_of}
use Rattle.job_types.specs.Job.{JobView}
use Rattle.job_types.specs.SoundJob.{IsSoundJob}
use Rattle.job_types.specs.Zones.{has_axis}
use Rattle.job_types.specs.declared.job.ZoneLine.{ZoneLine}
use Rattle.number_laws.proofs.Lists.{SomeOf, SomeOf-weaker, SomeOf-map}
use Rattle.number_laws.specs.Fractions.{Fraction}
use Rattle.path_geometry.specs.Path.{Point}
use Rattle.speed_laws.proofs.BoxPieces.{AxesWithin, some_piece}
use Rattle.speed_laws.proofs.ComparedPairs.{HoldsPlace, IsInPiece}
use Rattle.speed_laws.proofs.Covers.{Covers}
use Rattle.speed_laws.proofs.ZoneLemmas.{FractionsWithin, in_zone_box}
use Rattle.speed_laws.specs.Places.{StandsAt}
use Rattle.speed_laws.specs.Safety.{IsInZone}
use Rattle.swept_boxes.specs.Boxes.{SpacePoint, IsInBox}
use Rattle.sync_types.specs.Starts as start
use Rattle.sync_types.specs.Views.{RunView}
use Rattle.sync_types.specs.declared.Item.{Item}
use Rattle.sync_types.specs.declared.runs.EventId.{EventId}
use Rattle.zone_stretches.specs.Pieces.{piece_boxes}
use Rattle.zone_stretches.specs.Spans.{SpanStartView, is_on_at_first}
use Rattle.zone_stretches.specs.Stretches.{StretchView, stretch_between}
use Rattle.zone_stretches.specs.ZoneBoxes.{PlaceBox, boxes_of, shown_box}

-- a zone that stands has one box, which covers it
pub standing_covers : (zone : ZoneLine) (all : List Item) (line : ℕ) (at : ℕ → ℤ) (on : Bool) (point : Point) → on ≡ true
    → ((axis : ℕ) → has_axis zone axis ≡ true → StandsAt point axis (at axis)) → SomeOf (Covers zone all 0 point) (boxes_of zone on line at [])
unfolding boxes_of
standing_covers zone all line at true point is stand = inl (record { from = omega arith; upto = omega arith; named = tt; covered = stand })
standing_covers zone all line at false point is stand = absurd cc

-- a point of space in the zone is in a piece of a box of a stretch that covers the zone's axes where they are
pub in_stretch : (job : JobView) (run : RunView) (position : ℕ → Fraction) (zone : ZoneLine) → length zone.sides ≡ 3 → (channel : Option ℕ) (begins : SpanStartView) (last : Option EventId) (entry : ℕ) (items : List Item)
    → (places : ℕ → ℕ) (place : ℕ) (here : Point) → IfSome channel (λ c. places c ≡ place)
    → ((low high : ℕ → ℤ) → AxesWithin zone low high here → FractionsWithin zone low high position)
    → (point : SpacePoint) → IsInZone job.margin position zone point
    → SomeOf (Covers zone (slice_index_or run.items entry []) place here) (boxes_of zone (begins.on zone.zone) begins.line begins.at items)
    → SomeOf (λ box. HoldsPlace places (stretch_between job zone channel begins last entry items) box × IsInPiece job run point zone (stretch_between job zone channel begins last entry items) box)
    (stretch_between job zone channel begins last entry items).boxes
unfolding shown_box piece_boxes
in_stretch job run position zone three channel begins last entry items places place here at_place located point in_zone covered =
    SomeOf-map (λ box. HoldsPlace places stretch box × IsInPiece job run point zone stretch box) (shown_box job.margin zone) (boxes_of zone (begins.on zone.zone) begins.line begins.at items)
    (SomeOf-weaker (Covers zone (slice_index_or run.items entry []) place here) (λ box. HoldsPlace places stretch (shown_box job.margin zone box) × IsInPiece job run point zone stretch (shown_box job.margin zone box))
    (λ box covers. (
      holds channel at_place box covers,
      some_piece (λ piece. IsInBox piece point) job.margin zone job.depth (slice_index_or run.items entry []) place here box
          (λ low high within. in_zone_box job.margin zone low high position three (located low high within) point in_zone) covers,
    ))
    (boxes_of zone (begins.on zone.zone) begins.line begins.at items) covered)
  where
    stretch : StretchView
    stretch = stretch_between job zone channel begins last entry items

    holds : (channel : Option ℕ) → IfSome channel (λ c. places c ≡ place) → (box : PlaceBox) → Covers zone (slice_index_or run.items entry []) place here box
        → IfSome channel (λ c. (box.from ≤ places c) × (places c ≤ box.to))
    holds None at box covers = tt
    holds (Some c) at box covers = (omega (arith, covers.from, at), omega (arith, covers.upto, at))

-- ---- whether a zone is on at first

none_on : (zones : List ZoneLine) (n : ℕ) → ((k : ℕ) (d : ZoneLine) → k < length zones → (get_or zones k d).zone ≡ n → ⊥) → list_any (λ z. (z.zone == n) && z.on) zones ≡ false
none_on [] n others = refl
none_on (z ∷ zones) n others =
    rw (ne_eqb z.zone n (others 0 z (omega arith))) (none_on zones n (λ k d within. others (suc k) d (omega (arith, within))))

one_on : (zones : List ZoneLine) → AllPairs (λ zone other. zone.zone ≢ other.zone) zones → (n : ℕ) (zone : ZoneLine) → find (λ z. z.zone == n) zones ≡ Some zone
    → list_any (λ z. (z.zone == n) && z.on) zones ≡ zone.on
one_on [] distinct n zone found = absurd cc
one_on (z ∷ zones) distinct n zone found =
    by_number (z.zone == n) refl found (λ later. one_on zones (λ i j d less in_list. distinct (suc i) (suc j) d (omega (arith, less)) (omega (arith, in_list))) n zone later)
  where
    or_false : (b : Bool) → (b || false) ≡ b
    or_false true = refl
    or_false false = refl

    by_number : (t : Bool) → (z.zone == n) ≡ t → cond t (Some z) (find (λ z. z.zone == n) zones) ≡ Some zone
        → (find (λ z. z.zone == n) zones ≡ Some zone → list_any (λ z. (z.zone == n) && z.on) zones ≡ zone.on) → ((t && z.on) || list_any (λ z. (z.zone == n) && z.on) zones) ≡ zone.on
    by_number true is found rest =
        let same : z ≡ zone = cc in
        let number : z.zone ≡ n = eqb-true z.zone n is in
        rw (none_on zones n (λ k d within equal. distinct 0 (suc k) d (omega arith) (omega (arith, within)) (number ∙ sym equal))) (or_false z.on ∙ ap (λ (l : ZoneLine). l.on) same)
    by_number false is found rest = rest found

-- the board has a zone on at first as its line says, and so do the stretches
pub first_on : (job : JobView) → IsSoundJob job → (zone : ZoneLine) → find (λ z. z.zone == zone.zone) job.zones ≡ Some zone → start.is_on_at_first (start_of job) zone.zone ≡ is_on_at_first job zone.zone
unfolding start_of
first_on job sound zone there = rw (zone_found job sound zone.zone, there) (sym (one_on job.zones sound.zone_numbers zone.zone zone there))
