-- Boxes that are far from a box, and what is kept of the boxes of a stretch.
use Rattle.std.proofs.Common.{◌≡◌, ◌∙◌, ℕ, zero, suc, ◌+◌, ◌<◌, ◌≤◌, ◌⊎◌, inl, inr, ◌&&◌, Bool, true, false, cond, List, [], ◌∷◌, get_or, length, drop, map, Option, None, Some, refl, sym, ap, subst, arith}
use Rattle.std.proofs.lemmas.Bool.{and_parts}
use Rattle.std.proofs.lemmas.List.{get_or_default, get_or-map, length-map}
use Rattle.std.specs.Option.{option_or}
use Rattle.box_tree.proofs.HullLaws.{below_or_not, meet_swapped}
use Rattle.box_tree.specs.Firsts.{NoneBetween}
use Rattle.box_tree.specs.Rows.{IsRowOf, row_of}
use Rattle.clash_check.proofs.FirstLaws.{first_some-past, first_some-drop_more}
use Rattle.clash_check.proofs.MeetLaws.{far_none}
use Rattle.clash_check.specs.FirstAnswer.{first_some}
use Rattle.clash_check.specs.Keeping.{is_near, AreRows}
use Rattle.clash_check.specs.Meetings.{Names, compared, names_where_met, pieces_touch}
use Rattle.clash_check.specs.Verdicts.{name_of}
use Rattle.job_types.specs.Job.{JobView}
use Rattle.job_types.specs.declared.job.ZoneLine.{ZoneLine}
use Rattle.swept_boxes.specs.Boxes.{boxes_meet}
use Rattle.swept_boxes.specs.declared.Box3.{Box3}
use Rattle.sync_types.specs.Views.{RunView}
use Rattle.sync_types.specs.declared.verdicts.PlaceName.{PlaceName}
use Rattle.zone_stretches.specs.Cases.{Case, place_of}
use Rattle.zone_stretches.specs.Overlaps.{BoxPlace}
use Rattle.zone_stretches.specs.Pieces.{piece_boxes}
use Rattle.zone_stretches.specs.Stretches.{StretchView}
use Rattle.zone_stretches.specs.declared.stretches.ZoneBox.{ZoneBox}

-- ---- boxes that are far

abbrev pub Covers : List ZoneBox → List Box3
Covers boxes = map (λ own. own.cover) boxes

-- what a tree over covers passes over
pub far_by_tree : (own : Box3) (boxes : List ZoneBox) (covers : List Box3) (from upto : ℕ) → covers ≡ Covers boxes → upto ≤ length boxes → NoneBetween (λ box. boxes_meet box own) covers from upto
    → (k : ℕ) (d : ZoneBox) → from ≤ k → k < upto → boxes_meet own (get_or boxes k d).cover ≡ false
far_by_tree own boxes covers from upto are within none k d low high =
    meet_swapped own (get_or boxes k d).cover
    ∙ ap (λ (b : Box3). boxes_meet b own) (sym (get_or-map (λ (b : ZoneBox). b.cover) boxes k d own (omega (arith, high, within))) ∙ ap (λ (bs : List Box3). get_or bs k own) (sym are))
    ∙ none k own low high

-- and what it finds
pub far_by_row : (own : Box3) (boxes : List ZoneBox) (row : Option (List Box3)) (tree : List Box3) (from upto : ℕ) → IsRowOf (Covers boxes) row → row ≡ Some tree → upto ≤ length boxes
    → NoneBetween (λ box. boxes_meet box own) tree from upto → (k : ℕ) (d : ZoneBox) → from ≤ k → k < upto → boxes_meet own (get_or boxes k d).cover ≡ false
far_by_row own boxes row tree from upto are is within none = far_by_tree own boxes tree from upto (subst (λ (r : Option (List Box3)). IsRowOf (Covers boxes) r) is are) within none

pub row_length : (boxes : List ZoneBox) (row : Option (List Box3)) (tree : List Box3) → IsRowOf (Covers boxes) row → row ≡ Some tree → length tree ≡ length boxes
row_length boxes row tree are is =
    ap (λ (bs : List Box3). length bs) (let same : tree ≡ Covers boxes = subst (λ (r : Option (List Box3)). IsRowOf (Covers boxes) r) is are in same) ∙ length-map boxes (λ (own : ZoneBox). own.cover)

neither : (q m : Bool) → m ≡ false → (q && m) ≡ false
neither true m off = off
neither false m off = refl

pub far_first : (shared : Bool) (own : ZoneBox) (boxes : List ZoneBox) (from upto : ℕ) → ((k : ℕ) (d : ZoneBox) → from ≤ k → k < upto → boxes_meet own.cover (get_or boxes k d).cover ≡ false)
    → (k : ℕ) (d : ZoneBox) → from ≤ k → k < upto → is_near shared own (get_or boxes k d) ≡ false
far_first shared own boxes from upto far k d low high = neither (compared shared own (get_or boxes k d)) (boxes_meet own.cover (get_or boxes k d).cover) (far k d low high)

-- one box that is not near, and those after it that a tree passes over
pub far_more : (shared : Bool) (own : ZoneBox) (boxes : List ZoneBox) (from place upto : ℕ) (e : ZoneBox) → place < length boxes → is_near shared own (get_or boxes place e) ≡ false
    → ((k : ℕ) (d : ZoneBox) → from ≤ k → k < place → is_near shared own (get_or boxes k d) ≡ false)
    → ((k : ℕ) (d : ZoneBox) → place + 1 ≤ k → k < upto → boxes_meet own.cover (get_or boxes k d).cover ≡ false)
    → (k : ℕ) (d : ZoneBox) → from ≤ k → k < upto → is_near shared own (get_or boxes k d) ≡ false
far_more shared own boxes from place upto e within off far past k d low high = by_order (below_or_not k place) (below_or_not place k)
  where
    by_order : (k < place) ⊎ (place ≤ k) → (place < k) ⊎ (k ≤ place) → is_near shared own (get_or boxes k d) ≡ false
    by_order (inl less) o = far k d low less
    by_order (inr most) (inl more) = neither (compared shared own (get_or boxes k d)) (boxes_meet own.cover (get_or boxes k d).cover) (past k d (omega (arith, more)) high)
    by_order (inr most) (inr least) =
        let same : place ≡ k = omega (arith, most, least) in
        ap (λ (b : ZoneBox). is_near shared own b) (sym (get_or_default boxes place e d within ∙ ap (λ (n : ℕ). get_or boxes n d) same)) ∙ off

-- ---- first answers

no_more_answers : {X Y : Type 0} (f : X → Option Y) (xs : List X) (n : ℕ) → length xs ≤ n → first_some f (drop n xs) ≡ None
no_more_answers f [] zero past = refl
no_more_answers f [] (suc n) past = refl
no_more_answers f (x ∷ xs) zero past = absurd (omega arith)
no_more_answers f (x ∷ xs) (suc n) past = no_more_answers f xs n (omega arith)

module _ (case : Case) (shared : Bool) (left : BoxPlace) (other : ZoneLine) (right : StretchView) (boxes : List ZoneBox) where
  abbrev pub met : ZoneBox → Option Names
  met later = names_where_met case shared left (place_of other right later)

  -- boxes that are far may be passed over
  pub past_far : (from upto : ℕ) → from ≤ upto → ((k : ℕ) (d : ZoneBox) → from ≤ k → k < upto → is_near shared left.box (get_or boxes k d) ≡ false)
      → first_some met (drop from boxes) ≡ first_some met (drop upto boxes)
  past_far from upto on far = first_some-past met boxes from upto on (λ k d low high within. far_none case shared left (place_of other right (get_or boxes k d)) (far k d low high))

  pub all_far : (upto : ℕ) → length boxes ≤ upto → ((k : ℕ) (d : ZoneBox) → 0 ≤ k → k < upto → is_near shared left.box (get_or boxes k d) ≡ false) → first_some met boxes ≡ None
  all_far upto past far = past_far 0 upto (omega arith) far ∙ no_more_answers met boxes upto past

  -- the answer of one box, and those from the next on that is near
  pub one_and_near : (place next : ℕ) (d : ZoneBox) (answer : Option Names) → place < length boxes → place + 1 ≤ next
      → ((k : ℕ) (e : ZoneBox) → place + 1 ≤ k → k < next → is_near shared left.box (get_or boxes k e) ≡ false) → answer ≡ met (get_or boxes place d)
      → first_some met (drop place boxes) ≡ option_or answer (first_some met (drop next boxes))
  one_and_near place next d answer within on far is =
      first_some-drop_more met boxes place (get_or boxes place d) within (get_or_default boxes place d (get_or boxes place d) within)
      ∙ ap (λ (r : Option Names). option_or r (first_some met (drop (place + 1) boxes))) (sym is)
      ∙ ap (λ (r : Option Names). option_or answer r) (past_far (place + 1) next on far)

-- the names of a box that is compared with one whose cover its own meets
pub named_near : (case : Case) (shared : Bool) (left right : BoxPlace) (touch : Bool) → is_near shared left.box right.box ≡ true
    → touch ≡ pieces_touch (piece_boxes case.job case.run left) right.box.cover (piece_boxes case.job case.run right)
    → cond touch (Some (name_of left, name_of right)) None ≡ names_where_met case shared left right
unfolding names_where_met
named_near case shared left right touch near is =
    let parts = and_parts (compared shared left.box right.box) (boxes_meet left.box.cover right.box.cover) near in
    rw (parts.0, parts.1, is) refl

-- so where they touch
pub named_met : (case : Case) (shared : Bool) (left : BoxPlace) (other : ZoneLine) (right : StretchView) (boxes : List ZoneBox) (place : ℕ) (d e : ZoneBox) (pieces : List Box3) (touch : Bool) (n m : PlaceName)
    → place < length boxes → pieces ≡ piece_boxes case.job case.run left → is_near shared left.box (get_or boxes place d) ≡ true
    → touch ≡ pieces_touch pieces (get_or boxes place d).cover (piece_boxes case.job case.run (place_of other right (get_or boxes place d))) → touch ≡ true → n ≡ name_of left
    → m ≡ name_of (place_of other right (get_or boxes place e)) → Some (n, m) ≡ names_where_met case shared left (place_of other right (get_or boxes place d))
named_met case shared left other right boxes place d e pieces touch n m within pieces_are near is on n_is m_is =
    let met : BoxPlace = place_of other right (get_or boxes place d) in
    ap (λ (x : PlaceName). Some (x, m)) n_is
    ∙ ap (λ (x : PlaceName). Some (name_of left, x)) (m_is ∙ ap (λ (b : ZoneBox). name_of (place_of other right b)) (get_or_default boxes place e d within))
    ∙ ap (λ (b : Bool). cond b (Some (name_of left, name_of met)) None) (sym on)
    ∙ named_near case shared left met touch near (is ∙ ap (λ (ps : List Box3). pieces_touch ps met.box.cover (piece_boxes case.job case.run met)) pieces_are)

-- and where they do not
pub not_named : (case : Case) (shared : Bool) (left : BoxPlace) (other : ZoneLine) (right : StretchView) (boxes : List ZoneBox) (place : ℕ) (d : ZoneBox) (pieces : List Box3) (touch : Bool)
    → pieces ≡ piece_boxes case.job case.run left → is_near shared left.box (get_or boxes place d) ≡ true
    → touch ≡ pieces_touch pieces (get_or boxes place d).cover (piece_boxes case.job case.run (place_of other right (get_or boxes place d))) → touch ≡ false
    → None ≡ names_where_met case shared left (place_of other right (get_or boxes place d))
not_named case shared left other right boxes place d pieces touch pieces_are near is off =
    let met : BoxPlace = place_of other right (get_or boxes place d) in
    ap (λ (b : Bool). cond b (Some (name_of left, name_of met)) None) (sym off)
    ∙ named_near case shared left met touch near (is ∙ ap (λ (ps : List Box3). pieces_touch ps met.box.cover (piece_boxes case.job case.run met)) pieces_are)

-- ---- what is kept

-- a row more of the boxes by which the box of its place is compared
pub rows_more : (job : JobView) (run : RunView) (zone : ZoneLine) (stretch : StretchView) (boxes : List ZoneBox) (old new : List (Option (List Box3))) (place : ℕ) (e : ZoneBox) (row : List Box3)
    → place < length boxes → row ≡ piece_boxes job run (place_of zone stretch (get_or boxes place e)) → AreRows job run zone stretch boxes old → IsRowOf row (row_of new place)
    → ((k : ℕ) → (k ≡ place → ⊥) → row_of new k ≡ row_of old k) → AreRows job run zone stretch boxes new
rows_more job run zone stretch boxes old new place e row within row_is rows here others k d below = by_order (below_or_not k place) (below_or_not place k)
  where
    at_place : (d : ZoneBox) → IsRowOf (piece_boxes job run (place_of zone stretch (get_or boxes place d))) (row_of new place)
    at_place d =
        let is : row ≡ piece_boxes job run (place_of zone stretch (get_or boxes place d)) =
        row_is ∙ ap (λ (b : ZoneBox). piece_boxes job run (place_of zone stretch b)) (get_or_default boxes place e d within) in
        subst (λ (bs : List Box3). IsRowOf bs (row_of new place)) is here

    by_order : (k < place) ⊎ (place ≤ k) → (place < k) ⊎ (k ≤ place) → IsRowOf (piece_boxes job run (place_of zone stretch (get_or boxes k d))) (row_of new k)
    by_order (inl less) o =
        subst (λ (r : Option (List Box3)). IsRowOf (piece_boxes job run (place_of zone stretch (get_or boxes k d))) r) (sym (others k (λ at. omega (arith, at, less)))) (rows k d below)
    by_order (inr most) (inl less) =
        subst (λ (r : Option (List Box3)). IsRowOf (piece_boxes job run (place_of zone stretch (get_or boxes k d))) r) (sym (others k (λ at. omega (arith, at, less)))) (rows k d below)
    by_order (inr most) (inr least) =
        let same_place : place ≡ k = omega (arith, most, least) in
        subst (λ (n : ℕ). IsRowOf (piece_boxes job run (place_of zone stretch (get_or boxes n d))) (row_of new n)) same_place (at_place d)

-- where nothing is kept, it is of any stretch
pub no_rows : (job : JobView) (run : RunView) (zone : ZoneLine) (stretch : StretchView) (boxes : List ZoneBox) (rows : List (Option (List Box3))) → rows ≡ [] → AreRows job run zone stretch boxes rows
no_rows job run zone stretch boxes rows none k d below = subst (λ (rs : List (Option (List Box3))). IsRowOf (piece_boxes job run (place_of zone stretch (get_or boxes k d))) (row_of rs k)) (sym none) tt
