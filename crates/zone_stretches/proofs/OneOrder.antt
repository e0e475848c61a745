-- Two tests that both tell the order of the events let the same boxes be compared.
use Rattle.std.proofs.Common.{◌≡◌, ◌∙◌, ◌&&◌, ◌||◌, not, Bool, true, false, cond, List, [], ◌∷◌, Option, None, Some, All, refl, sym, ap}
use Rattle.std.specs.Prelude.{IfSome, ◌↔◌}
use Rattle.std.specs.List.{flat_map}
use Rattle.std.proofs.lemmas.List.Elements.{All-head, All-tail}
use Rattle.job_types.specs.Job.{JobView}
use Rattle.job_types.specs.declared.job.ZoneLine.{ZoneLine}
use Rattle.order_clocks.specs.Before.{Before}
use Rattle.order_clocks.specs.Clocked.{IsOrderOf, moves_in}
use Rattle.sync_types.specs.Boards.{Board}
use Rattle.sync_types.specs.Events.{IsLowestName, is_same_event}
use Rattle.sync_types.specs.Turns.{Move}
use Rattle.sync_types.specs.Views.{RunView}
use Rattle.sync_types.specs.declared.runs.EventId.{EventId}
use Rattle.zone_stretches.proofs.BoxCounts.{each_pair}
use Rattle.zone_stretches.proofs.NameLaws.{ends_are_lowest_names}
use Rattle.zone_stretches.specs.Overlaps.{Order, ZoneTime, box_pairs, compared_pairs, is_open_at, may_overlap, pairs_by_group, pairs_of_zones, stretch_pairs, zone_times}
use Rattle.zone_stretches.specs.SoundStretches.{HasLowNames, OrdersCompareTheSame}
use Rattle.zone_stretches.specs.Stretches.{StretchView, all_stretches}

-- ---- lists

-- two that agree on each of these agree on all together
flat_alike : {A C : Type 0} (P : A → Type 0) (f g : A → List C) → ((x : A) → P x → f x ≡ g x) → (xs : List A) → All P xs → flat_map f xs ≡ flat_map g xs
flat_alike P f g each [] all = refl
flat_alike P f g each (x ∷ xs) all = rw (each x (All-head P x xs all), flat_alike P f g each xs (All-tail P x xs all)) refl

-- two tests that tell the same are one
one_answer : (p : Type 0) (s t : Bool) → (s ≡ true) ↔ p → (t ≡ true) ↔ p → s ≡ t
one_answer p true t one two = sym (two.1 (one.0 refl))
one_answer p false true one two = one.1 (two.0 refl)
one_answer p false false one two = refl

-- ---- two tests of one order

module _ (b : Board) (moves : List Move) (before other : Order) (one : IsOrderOf b moves before) (two : IsOrderOf b moves other) where
  open_alike : (last first : Option EventId) → IfSome last (IsLowestName b moves) → IfSome first (IsLowestName b moves) → is_open_at before last first ≡ is_open_at other last first
  open_alike None first low high = refl
  open_alike (Some l) None low high = refl
  open_alike (Some l) (Some f) low high =
      let same : before l f ≡ other l f = one_answer (Before b moves l f) (before l f) (other l f) (one l f low high) (two l f low high) in
      ap (λ (t : Bool). not (is_same_event l f || t)) same

  overlap_alike : (left right : StretchView) → HasLowNames b moves left → HasLowNames b moves right → may_overlap before left right ≡ may_overlap other left right
  unfolding may_overlap
  overlap_alike left right low high =
      ap (λ (t : Bool). t && is_open_at before right.last left.first) (open_alike left.last right.first low.last high.first)
      ∙ ap (λ (t : Bool). is_open_at other left.last right.first && t) (open_alike right.last left.first high.last low.first)

  pairs_alike : (zone later : ZoneLine) (left right : StretchView) → HasLowNames b moves left → HasLowNames b moves right → stretch_pairs before zone left later right ≡ stretch_pairs other zone left later right
  pairs_alike zone later left right low high = ap (λ (t : Bool). cond t (box_pairs zone left later right) []) (overlap_alike left right low high)

  zones_alike : (left right : ZoneTime) → All (HasLowNames b moves) left.stretches → All (HasLowNames b moves) right.stretches → pairs_of_zones before left right ≡ pairs_of_zones other left right
  unfolding pairs_of_zones
  zones_alike left right lows highs =
      flat_alike (HasLowNames b moves) (λ own. flat_map (λ later. stretch_pairs before left.zone own right.zone later) right.stretches)
      (λ own. flat_map (λ later. stretch_pairs other left.zone own right.zone later) right.stretches)
      (λ own low. flat_alike (HasLowNames b moves) (λ later. stretch_pairs before left.zone own right.zone later) (λ later. stretch_pairs other left.zone own right.zone later)
      (λ later high. pairs_alike left.zone right.zone own later low high) right.stretches highs) left.stretches lows

-- the ends of all stretches are lowest names, and tests that tell the order agree on them
pub orders_compare_the_same : (before other : Order) (job : JobView) (b : Board) (run : RunView) → OrdersCompareTheSame before other job b run
unfolding compared_pairs
orders_compare_the_same before other job b run one two =
    let times : List ZoneTime = zone_times job (all_stretches job b run) in
    flat_alike (λ pair. All (HasLowNames b (moves_in run.entries)) pair.0.stretches × All (HasLowNames b (moves_in run.entries)) pair.1.stretches)
    (λ pair. pairs_of_zones before pair.0 pair.1) (λ pair. pairs_of_zones other pair.0 pair.1)
    (λ pair low. zones_alike b (moves_in run.entries) before other one two pair.0 pair.1 low.0 low.1) (pairs_by_group times)
    (each_pair (λ time. All (HasLowNames b (moves_in run.entries)) time.stretches) times (ends_are_lowest_names job b run))
