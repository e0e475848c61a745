-- Alike events end alike spans and begin alike ones.
use Rattle.std.proofs.Common.{◌≡◌, ◌⊎◌, ◌∙◌, ℕ, ℤ, zero, suc, ◌-◌, Bool, true, false, ◌==◌, List, [], ◌∷◌, map, filter, take, drop, slice_get, slice_index_or, Option, None, Some, All, inl, inr, unwrap_or, if◌then◌else◌, refl, sym, ap, ap₂, subst}
use Rattle.std.proofs.lemmas.List.Elements.{All-nil, All-cons, All-weaker}
use Rattle.std.specs.Option.{option_and_then}
use Rattle.axis_sets.specs.Positions.{position_of}
use Rattle.axis_sets.specs.Sets.{has}
use Rattle.job_types.specs.Job.{JobView}
use Rattle.job_types.specs.declared.job.ZoneLine.{ZoneLine}
use Rattle.speed_laws.proofs.AlikeEvents.{AreAlikeEvents, IsAlike}
use Rattle.speed_laws.proofs.AlikeNames.{AreAlikeEnds}
use Rattle.speed_laws.specs.AlikeRuns.{AreAlike}
use Rattle.sync_types.specs.Boards.{Board}
use Rattle.sync_types.specs.Items.{motion_of}
use Rattle.sync_types.specs.Turns.{Move}
use Rattle.sync_types.specs.Views.{RunView}
use Rattle.sync_types.specs.declared.runs.EventId.{EventId}
use Rattle.sync_types.specs.declared.Item.{Item}
use Rattle.sync_types.specs.declared.verdicts.PlaceName.{PlaceName}
use Rattle.sync_types.specs.declared.verdicts.StretchKind.{StretchKind}
use Rattle.zone_stretches.specs.Occurrences.{OccurrenceView}
use Rattle.zone_stretches.specs.Pieces.{motion_at}
use Rattle.zone_stretches.specs.Spans.{SpanStartView, Span, beginning_after, entry_of_beginning, first_beginning, span_until, spans_from, spans_of}
use Rattle.zone_stretches.specs.Stretches.{StretchView, spans_between, spans_until, stretch_between}
use Rattle.zone_stretches.specs.ZoneBoxes.{boxes_of, shown_box}
use Rattle.zone_stretches.specs.declared.stretches.ZoneBox.{ZoneBox}

-- a zone has boxes that stand where its holder does nothing
still_boxes : (margin : ℤ) (zone : ZoneLine) (on : Bool) (line : ℕ) (at : ℕ → ℤ) → All (λ box. box.motion ≡ None) (map (shown_box margin zone) (boxes_of zone on line at []))
unfolding boxes_of shown_box
still_boxes margin zone true line at = All-cons (λ (box : ZoneBox). box.motion ≡ None) _ [] refl (All-nil (λ (box : ZoneBox). box.motion ≡ None))
still_boxes margin zone false line at = All-nil (λ (box : ZoneBox). box.motion ≡ None)

all_boxes : (Q : ZoneBox → Type 0) → ((box : ZoneBox) → Q box) → (boxes : List ZoneBox) → All Q boxes
all_boxes Q each [] = All-nil Q
all_boxes Q each (box ∷ boxes) = All-cons Q box boxes (each box) (all_boxes Q each boxes)

module _ (b : Board) (ms ns : List Move) (run other : RunView) where
  abbrev Alike : OccurrenceView → OccurrenceView → Type 0
  Alike = IsAlike b ms ns run.items other.items

  pub record AreAlikeBeginnings (begins also : SpanStartView) : Type 0 where
    pub kind : begins.kind ≡ also.kind
    pub line : begins.line ≡ also.line
    pub at : begins.at ≡ also.at
    pub on : begins.on ≡ also.on
    pub first : AreAlikeEnds b ms ns begins.first also.first

  -- the same is done in both, which is nothing or all of the entry
  pub record AreAlikeSpans (span also : Span) : Type 0 where
    pub begins : AreAlikeBeginnings span.begins also.begins
    pub last : AreAlikeEnds b ms ns span.last also.last
    pub items : span.items ≡ also.items
    pub entry : (span.items ≡ []) ⊎ (slice_index_or run.items span.entry [] ≡ slice_index_or other.items also.entry [])

  abbrev pub AllAlikeSpans : List Span → List Span → Type 0
  AllAlikeSpans [] [] = Unit {0}
  AllAlikeSpans (span ∷ spans) (also ∷ others) = AreAlikeSpans span also × AllAlikeSpans spans others
  AllAlikeSpans spans others = ⊥

  -- ---- spans

  abbrev at_next : List (Option ℤ) → (ℕ → ℤ) → ℕ → ℤ
  at_next at before axis = unwrap_or (position_of at axis) (before axis)

  next_alike : (begins also : SpanStartView) (o p : OccurrenceView) → AreAlikeBeginnings begins also → Alike o p → AreAlikeBeginnings (beginning_after begins o) (beginning_after also p)
  next_alike begins also o p are event = record {
    kind = event.kind;
    line = ap₂ unwrap_or event.line are.line;
    at = ap₂ at_next event.at are.at;
    on = ap has event.on;
    first = event.names;
  }

  until_alike : (begins also : SpanStartView) (o p : OccurrenceView) → AreAlikeBeginnings begins also → Alike o p → AreAlikeSpans (span_until run.items begins o.name) (span_until other.items also p.name)
  until_alike begins also o p are event = record {
    begins = are;
    last = event.names;
    items = event.items;
    entry = by_go o.name.go p.name.go event.goes event.items;
  }
    where
      by_go : (s t : Bool) → s ≡ t → (if s then [] else slice_index_or run.items o.name.step []) ≡ (if t then [] else slice_index_or other.items p.name.step [])
          → ((if s then [] else slice_index_or run.items o.name.step []) ≡ [])
          ⊎ (slice_index_or run.items (if s then entry_of_beginning begins else o.name.step) [] ≡ slice_index_or other.items (if t then entry_of_beginning also else p.name.step) [])
      by_go true t is items = inl refl
      by_go false false is items = inr items
      by_go false true is items = absurd cc

  spans_alike : (begins also : SpanStartView) (os ps : List OccurrenceView) → AreAlikeBeginnings begins also → AreAlikeEvents b ms ns run.items other.items os ps
      → AllAlikeSpans (spans_from run.items begins os) (spans_from other.items also ps)
  spans_alike begins also [] [] are events = (record { begins = are; last = tt; items = refl; entry = inl refl }, tt)
  spans_alike begins also [] (p ∷ ps) are events = absurd events
  spans_alike begins also (o ∷ os) [] are events = absurd events
  spans_alike begins also (o ∷ os) (p ∷ ps) are events =
      (until_alike begins also o p are events.0, spans_alike (beginning_after begins o) (beginning_after also p) os ps (next_alike begins also o p are events.0) events.1)

  pub channel_alike : (job : JobView) (os ps : List OccurrenceView) (c : ℕ) → AreAlikeEvents b ms ns run.items other.items (filter (λ o. o.channel == c) os) (filter (λ o. o.channel == c) ps)
      → AllAlikeSpans (spans_of job run.items os c) (spans_of job other.items ps c)
  unfolding spans_of
  channel_alike job os ps c events =
      spans_alike (first_beginning job c) (first_beginning job c) (filter (λ o. o.channel == c) os) (filter (λ o. o.channel == c) ps) (record { kind = refl; line = refl; at = refl; on = refl; first = tt }) events

  -- ---- those of a tenure

  dropped_alike : (n : ℕ) (spans others : List Span) → AllAlikeSpans spans others → AllAlikeSpans (drop n spans) (drop n others)
  dropped_alike zero spans others are = are
  dropped_alike (suc n) [] [] are = are
  dropped_alike (suc n) [] (also ∷ others) are = absurd are
  dropped_alike (suc n) (span ∷ spans) [] are = absurd are
  dropped_alike (suc n) (span ∷ spans) (also ∷ others) are = dropped_alike n spans others are.1

  taken_alike : (n : ℕ) (spans others : List Span) → AllAlikeSpans spans others → AllAlikeSpans (take n spans) (take n others)
  taken_alike zero spans others are = tt
  taken_alike (suc n) [] [] are = are
  taken_alike (suc n) [] (also ∷ others) are = absurd are
  taken_alike (suc n) (span ∷ spans) [] are = absurd are
  taken_alike (suc n) (span ∷ spans) (also ∷ others) are = (are.0, taken_alike n spans others are.1)

  pub between_alike : (spans others : List Span) (from : ℕ) (upto : Option ℕ) → AllAlikeSpans spans others → AllAlikeSpans (spans_between spans from upto) (spans_between others from upto)
  between_alike spans others from None are = dropped_alike from spans others are
  between_alike spans others from (Some upto) are = taken_alike (suc upto - from) (drop from spans) (drop from others) (dropped_alike from spans others are)

  pub ended_alike : (last also : Option EventId) (spans others : List Span) → AreAlikeEnds b ms ns last also → AllAlikeSpans spans others → AllAlikeSpans (spans_until last spans) (spans_until also others)
  ended_alike last also [] [] ends are = are
  ended_alike last also [] (other ∷ others) ends are = absurd are
  ended_alike last also (span ∷ []) [] ends are = absurd are
  ended_alike last also (span ∷ []) (other ∷ []) ends are = (record { begins = are.0.begins; last = ends; items = are.0.items; entry = are.0.entry }, tt)
  ended_alike last also (span ∷ []) (other ∷ one ∷ others) ends are = absurd are.1
  ended_alike last also (span ∷ next ∷ spans) [] ends are = absurd are
  ended_alike last also (span ∷ next ∷ spans) (other ∷ []) ends are = absurd are.1
  ended_alike last also (span ∷ next ∷ spans) (other ∷ one ∷ others) ends are = (are.0, ended_alike last also (next ∷ spans) (one ∷ others) ends are.1)

  -- ---- stretches

  -- alike, with ends that are names of the same events
  pub record AreAlikeTold (left right : StretchView) : Type 0 where
    pub alike : AreAlike run other left right
    pub first : AreAlikeEnds b ms ns left.first right.first
    pub last : AreAlikeEnds b ms ns left.last right.last

  abbrev pub AllAlikeTold : List StretchView → List StretchView → Type 0
  AllAlikeTold [] [] = Unit {0}
  AllAlikeTold (left ∷ lefts) (right ∷ rights) = AreAlikeTold left right × AllAlikeTold lefts rights
  AllAlikeTold lefts rights = ⊥

  abbrev shown : JobView → ZoneLine → Bool → ℕ → (ℕ → ℤ) → List Item → List ZoneBox
  shown job zone on line at items = map (shown_box job.margin zone) (boxes_of zone on line at items)

  boxes_alike : (job : JobView) (zone : ZoneLine) (span also : Span) → AreAlikeSpans span also
      → shown job zone (span.begins.on zone.zone) span.begins.line span.begins.at span.items ≡ shown job zone (also.begins.on zone.zone) also.begins.line also.begins.at also.items
  boxes_alike job zone span also are =
      ap (λ (on : ℕ → Bool). shown job zone (on zone.zone) span.begins.line span.begins.at span.items) are.begins.on
      ∙ ap₂ (λ (line : ℕ) (at : ℕ → ℤ). shown job zone (also.begins.on zone.zone) line at span.items) are.begins.line are.begins.at
      ∙ ap (λ (items : List Item). shown job zone (also.begins.on zone.zone) also.begins.line also.begins.at items) are.items

  abbrev HasSameMotion : ℕ → ℕ → ZoneBox → Type 0
  HasSameMotion entry also box = motion_at run entry box.motion ≡ motion_at other also box.motion

  same_motion : (entry also : ℕ) → slice_index_or run.items entry [] ≡ slice_index_or other.items also [] → (place : Option ℕ) → motion_at run entry place ≡ motion_at other also place
  same_motion entry also same None = refl
  same_motion entry also same (Some k) = ap (λ (items : List Item). option_and_then motion_of (slice_get items (k - 1))) same

  motions_alike : (job : JobView) (zone : ZoneLine) (span : Span) (also : ℕ) → (span.items ≡ []) ⊎ (slice_index_or run.items span.entry [] ≡ slice_index_or other.items also [])
      → All (HasSameMotion span.entry also) (shown job zone (span.begins.on zone.zone) span.begins.line span.begins.at span.items)
  motions_alike job zone span also (inl none) =
      All-weaker (λ box. box.motion ≡ None) (HasSameMotion span.entry also)
      (λ box still. ap (motion_at run span.entry) still ∙ ap (motion_at other also) (sym still))
      (shown job zone (span.begins.on zone.zone) span.begins.line span.begins.at span.items)
      (subst (λ (items : List Item). All (λ box. box.motion ≡ None) (shown job zone (span.begins.on zone.zone) span.begins.line span.begins.at items)) (sym none)
      (still_boxes job.margin zone (span.begins.on zone.zone) span.begins.line span.begins.at))
  motions_alike job zone span also (inr same) =
      all_boxes (HasSameMotion span.entry also) (λ box. same_motion span.entry also same box.motion) (shown job zone (span.begins.on zone.zone) span.begins.line span.begins.at span.items)

  pub stretch_alike : (job : JobView) (zone : ZoneLine) (channel : Option ℕ) (span also : Span) → AreAlikeSpans span also
      → AreAlikeTold (stretch_between job zone channel span.begins span.last span.entry span.items) (stretch_between job zone channel also.begins also.last also.entry also.items)
  stretch_alike job zone channel span also are = record {
    alike = record {
      name = ap₂ (λ (kind : StretchKind) (line : ℕ). let name : PlaceName = record { zone = zone.zone; channel = channel; kind = kind; line = line } in name) are.begins.kind are.begins.line;
      boxes = boxes_alike job zone span also are;
      motions = motions_alike job zone span also.entry are.entry;
    };
    first = are.begins.first;
    last = are.last;
  }
