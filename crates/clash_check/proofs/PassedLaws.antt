-- Boxes that met none of the boxes of a stretch.
use Rattle.std.proofs.Common.{◌≡◌, ◌∙◌, ◌&&◌, not, Bool, true, false, cond, List, [], ◌∷◌, map, Option, None, Some, refl, sym, ap, subst}
use Rattle.std.proofs.lemmas.Bool.{and_parts}
use Rattle.std.proofs.lemmas.List.Elements.{All-nil, All-same}
use Rattle.std.specs.List.{list_all}
use Rattle.std.specs.Option.{option_or}
use Rattle.box_tree.specs.Rows.{IsRowOf}
use Rattle.clash_check.proofs.KeptLaws.{no_rows}
use Rattle.clash_check.specs.FirstAnswer.{first_some}
use Rattle.clash_check.specs.Passing.{ArePassed, IsMemory, meets_none}
use Rattle.clash_check.specs.Meetings.{Names, compared, names_where_met, touches}
use Rattle.zone_stretches.specs.Cases.{Case, place_of}
use Rattle.clash_check.specs.Verdicts.{name_of}
use Rattle.clash_check.specs.declared.nearby.Memory.{Memory}
use Rattle.job_types.specs.Job.{JobView}
use Rattle.job_types.specs.declared.job.ZoneLine.{ZoneLine}
use Rattle.passed_boxes.specs.declared.passed.PassedBox.{PassedBox}
use Rattle.zone_stretches.specs.Overlaps.{BoxPlace}
use Rattle.zone_stretches.specs.Pieces.{motion_at, piece_boxes}
use Rattle.zone_stretches.specs.Stretches.{StretchView}
use Rattle.zone_stretches.specs.declared.stretches.ZoneBox.{ZoneBox}
use Rattle.swept_boxes.specs.declared.Box3.{Box3}
use Rattle.sync_types.specs.Views.{RunView}

-- where nothing is kept, all that is kept met none
pub none_passed : (job : JobView) (run : RunView) (own zone : ZoneLine) (stretch : StretchView) (boxes : List ZoneBox) (kept : List PassedBox) → kept ≡ []
    → ArePassed job run own zone stretch boxes kept
none_passed job run own zone stretch boxes kept none =
    All-same (λ (box : PassedBox). meets_none job run own zone stretch boxes box.cover box.motion ≡ true) kept [] none
    (All-nil (λ (box : PassedBox). meets_none job run own zone stretch boxes box.cover box.motion ≡ true))

-- so a memory in which nothing is kept is of any stretch
pub empty_memory : (job : JobView) (run : RunView) (own zone : ZoneLine) (stretch : StretchView) (memory : Memory) → memory.kept.covers ≡ None → memory.kept.pieces.rows ≡ [] → memory.passed ≡ []
    → IsMemory job run own zone stretch memory
empty_memory job run own zone stretch memory covers pieces passed = record {
  kept = record {
    covers = subst (λ (row : Option (List Box3)). IsRowOf (map (λ (b : ZoneBox). b.cover) stretch.boxes) row) (sym covers) tt;
    pieces = no_rows job run zone stretch stretch.boxes memory.kept.pieces.rows pieces;
  };
  passed = none_passed job run own zone stretch stretch.boxes memory.passed passed;
}

both_true : (a b : Bool) → a ≡ true → b ≡ true → (a && b) ≡ true
both_true a b p q = rw (p, q) refl

module _ (case : Case) (shared : Bool) (left : BoxPlace) (other : ZoneLine) (right : StretchView) where
  touch : ZoneBox → Bool
  touch later = touches left.box.cover (piece_boxes case.job case.run left) later.cover (piece_boxes case.job case.run (place_of other right later))

  abbrev met : ZoneBox → Option Names
  met later = names_where_met case shared left (place_of other right later)

  not_met : (later : ZoneBox) → not (touches left.box.cover (piece_boxes case.job case.run left) later.cover (piece_boxes case.job case.run (place_of other right later))) ≡ true → met later ≡ None
  unfolding names_where_met
  not_met later off =
      by_touch (compared shared left.box later) (touches left.box.cover (piece_boxes case.job case.run left) later.cover (piece_boxes case.job case.run (place_of other right later))) off
    where
      by_touch : (q t : Bool) → not t ≡ true → cond {A = Option Names} (q && t) (Some (name_of left, name_of (place_of other right later))) None ≡ None
      by_touch q true off = absurd cc
      by_touch true false off = refl
      by_touch false false off = refl

  -- a box that meets none of some boxes has no names
  pub no_names : (boxes : List ZoneBox) → meets_none case.job case.run left.zone other right boxes left.box.cover (motion_at case.run left.stretch.entry left.box.motion) ≡ true → first_some met boxes ≡ None
  unfolding meets_none piece_boxes
  no_names [] none = refl
  no_names (later ∷ boxes) none =
      let parts = and_parts (not (touches left.box.cover (piece_boxes case.job case.run left) later.cover (piece_boxes case.job case.run (place_of other right later)))) (list_all
      (λ later. not (touches left.box.cover (piece_boxes case.job case.run left) later.cover (piece_boxes case.job case.run (place_of other right later)))) boxes) none in
      ap (λ (r : Option Names). option_or r (first_some met boxes)) (not_met later parts.0) ∙ no_names boxes parts.1

-- and where the stretches share no channel, one that has no names meets none
module _ (case : Case) (left : BoxPlace) (other : ZoneLine) (right : StretchView) where
  not_touched : (later : ZoneBox) → names_where_met case false left (place_of other right later) ≡ None
      → not (touches left.box.cover (piece_boxes case.job case.run left) later.cover (piece_boxes case.job case.run (place_of other right later))) ≡ true
  unfolding names_where_met
  not_touched later none = by_touch (touches left.box.cover (piece_boxes case.job case.run left) later.cover (piece_boxes case.job case.run (place_of other right later))) none
    where
      by_touch : (t : Bool) → cond {A = Option Names} (true && t) (Some (name_of left, name_of (place_of other right later))) None ≡ None → not t ≡ true
      by_touch true e = absurd cc
      by_touch false e = refl

  pub none_met : (boxes : List ZoneBox) → first_some (λ later. names_where_met case false left (place_of other right later)) boxes ≡ None
      → meets_none case.job case.run left.zone other right boxes left.box.cover (motion_at case.run left.stretch.entry left.box.motion) ≡ true
  unfolding meets_none piece_boxes
  none_met [] none = refl
  none_met (later ∷ boxes) none =
      let parts = both_none (names_where_met case false left (place_of other right later)) (first_some (λ later. names_where_met case false left (place_of other right later)) boxes) none in
      both_true (not (touches left.box.cover (piece_boxes case.job case.run left) later.cover (piece_boxes case.job case.run (place_of other right later)))) (meets_none case.job case.run left.zone other right boxes left.box.cover (motion_at case.run left.stretch.entry left.box.motion)) (not_touched later parts.0) (none_met boxes parts.1)
    where
      both_none : (first rest : Option Names) → option_or first rest ≡ None → (first ≡ None) × (rest ≡ None)
      both_none None rest none = (refl, none)
      both_none (Some names) rest none = absurd cc
