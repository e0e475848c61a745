-- The first two boxes that meet, as they are sought, are the first compared pair that meets.
use Rattle.std.proofs.Common.{◌≡◌, ◌∙◌, ◌==◌, ◌&&◌, ◌||◌, not, Bool, true, false, cond, List, [], ◌∷◌, map, filter, find, length, Option, None, Some, All, refl, sym, ap}
use Rattle.std.proofs.lemmas.List.Elements.{All-head, All-tail, All-weaker}
use Rattle.std.specs.List.{flat_map, list_any}
use Rattle.std.specs.Option.{option_map, option_or}
use Rattle.box_tree.proofs.HullLaws.{meet_wider, meet_wider_last}
use Rattle.box_tree.specs.Hulls.{LiesIn}
use Rattle.clash_check.proofs.FirstLaws.{find-flat_map, find-made, first_some-append, first_some-each, first_some-filter, first_some-map, first_some-none, unless, unless_empty}
use Rattle.clash_check.specs.FirstAnswer.{first_some}
use Rattle.clash_check.specs.Meetings.{Names, touches, compared, names_where_met, first_touched, first_touched_among, first_in_stretches, first_against, first_of_zones, first_in_times}
use Rattle.clash_check.specs.Verdicts.{name_of}
use Rattle.job_types.specs.Job.{JobView}
use Rattle.job_types.specs.declared.job.ZoneLine.{ZoneLine}
use Rattle.swept_boxes.specs.Boxes.{boxes_meet}
use Rattle.swept_boxes.specs.declared.Box3.{Box3}
use Rattle.sync_types.specs.Views.{RunView}
use Rattle.zone_stretches.specs.Cases.{Case, place_of}
use Rattle.zone_stretches.specs.InCovers.{IsWithin, IsInCover, AreInCover, IsTimeInCover}
use Rattle.zone_stretches.specs.Overlaps.{BoxPlace, Pair, ZoneTime, may_overlap, share_channel, box_pairs, stretch_pairs, pairs_of_zones, pairs_by_group, zone_times, compared_pairs}
use Rattle.zone_stretches.specs.Pieces.{piece_boxes, pair_meets}
use Rattle.zone_stretches.specs.Stretches.{StretchView, StretchesView}
use Rattle.zone_stretches.specs.declared.stretches.ZoneBox.{ZoneBox}

-- ---- covers first

-- a test that passes only where another one does may be made after that one
pub guarded : (c x : Bool) → (x ≡ true → c ≡ true) → (c && x) ≡ x
guarded true x implies = refl
guarded false true implies = absurd (let e : false ≡ true = implies refl in cc)
guarded false false implies = refl

-- where any that passes implies it
pub any_implies : {X : Type 0} (test : X → Bool) (c : Bool) (xs : List X) → All (λ x. test x ≡ true → c ≡ true) xs → list_any test xs ≡ true → c ≡ true
any_implies test c [] all e = absurd cc
any_implies test c (x ∷ xs) all e =
    by_test (test x) (All-head (λ x. test x ≡ true → c ≡ true) x xs all) (any_implies test c xs (All-tail (λ x. test x ≡ true → c ≡ true) x xs all)) e
  where
    by_test : (b : Bool) → (b ≡ true → c ≡ true) → (list_any test xs ≡ true → c ≡ true) → (b || list_any test xs) ≡ true → c ≡ true
    by_test true here later e = here refl
    by_test false here later e = later e

any_weaker : {X : Type 0} (test other : X → Bool) → ((x : X) → test x ≡ true → other x ≡ true) → (xs : List X) → list_any test xs ≡ true → list_any other xs ≡ true
any_weaker test other weaker [] e = absurd cc
any_weaker test other weaker (x ∷ xs) e = by_test (test x) (other x) (weaker x) (any_weaker test other weaker xs) e
  where
    by_test : (b c : Bool) → (b ≡ true → c ≡ true) → (list_any test xs ≡ true → list_any other xs ≡ true) → (b || list_any test xs) ≡ true → (c || list_any other xs) ≡ true
    by_test true c here later e = rw (here refl) refl
    by_test false true here later e = refl
    by_test false false here later e = later e

-- a piece within a cover lies in it
lies : (cover piece : Box3) → IsWithin cover piece → LiesIn piece cover
lies cover piece within = record { low = within.low; high = within.high }

-- two boxes meet, covers first
touch_is : (job : JobView) (run : RunView) (left right : BoxPlace) → IsInCover job run left → IsInCover job run right
    → touches left.box.cover (piece_boxes job run left) right.box.cover (piece_boxes job run right) ≡ pair_meets job run (left, right)
unfolding pair_meets
touch_is job run left right in_left in_right =
    let met : Bool = list_any (λ l. list_any (boxes_meet l) (piece_boxes job run right)) (piece_boxes job run left) in
    let near : Bool = list_any (λ l. boxes_meet l right.box.cover) (piece_boxes job run left) in
    let reaches : (l : Box3) → list_any (boxes_meet l) (piece_boxes job run right) ≡ true → boxes_meet l right.box.cover ≡ true =
    λ (l : Box3) e. any_implies (boxes_meet l) (boxes_meet l right.box.cover) (piece_boxes job run right)
    (All-weaker (IsWithin right.box.cover) (λ piece. boxes_meet l piece ≡ true → boxes_meet l right.box.cover ≡ true)
    (λ piece within. meet_wider_last l piece right.box.cover (lies right.box.cover piece within)) (piece_boxes job run right) in_right) e in
    let inner : met ≡ true → near ≡ true = any_weaker (λ l. list_any (boxes_meet l) (piece_boxes job run right)) (λ l. boxes_meet l right.box.cover) reaches (piece_boxes job run left) in
    let outer : near ≡ true → boxes_meet left.box.cover right.box.cover ≡ true =
    any_implies (λ l. boxes_meet l right.box.cover) (boxes_meet left.box.cover right.box.cover) (piece_boxes job run left)
    (All-weaker (IsWithin left.box.cover) (λ piece. boxes_meet piece right.box.cover ≡ true → boxes_meet left.box.cover right.box.cover ≡ true)
    (λ piece within. meet_wider piece left.box.cover right.box.cover (lies left.box.cover piece within)) (piece_boxes job run left) in_left) in
    ap (λ (b : Bool). boxes_meet left.box.cover right.box.cover && b) (guarded near met inner) ∙ guarded (boxes_meet left.box.cover right.box.cover) met (λ e. outer (inner e))

-- ---- a box with the boxes of a stretch

abbrev pub names_of : Pair → Names
names_of pair = (name_of pair.0, name_of pair.1)

-- the names of the first of some pairs that meets
abbrev first_named : Case → List Pair → Option Names
first_named case pairs = option_map names_of (find (pair_meets case.job case.run) pairs)

met_is : (case : Case) (shared : Bool) (left right : BoxPlace) → IsInCover case.job case.run left → IsInCover case.job case.run right
    → cond (compared shared left.box right.box && pair_meets case.job case.run (left, right)) (Some (names_of (left, right))) None ≡ names_where_met case shared left right
unfolding names_where_met
met_is case shared left right in_left in_right = rw (touch_is case.job case.run left right in_left in_right) refl

pub far_none : (case : Case) (shared : Bool) (left right : BoxPlace) → (compared shared left.box right.box && boxes_meet left.box.cover right.box.cover) ≡ false → names_where_met case shared left right ≡ None
unfolding names_where_met
far_none case shared left right far = by_tests (compared shared left.box right.box) (boxes_meet left.box.cover right.box.cover) far
  where
    by_tests : (q m : Bool) → (q && m) ≡ false
        → cond (q && (m && (list_any (λ piece. boxes_meet piece right.box.cover) (piece_boxes case.job case.run left)
        && list_any (λ piece. list_any (boxes_meet piece) (piece_boxes case.job case.run right)) (piece_boxes case.job case.run left)))) (Some (names_of (left, right))) None ≡ None
    by_tests false m far = refl
    by_tests true false far = refl
    by_tests true true far = absurd cc

touched_is : (case : Case) (zone : ZoneLine) (left : StretchView) (other : ZoneLine) (right : StretchView) (own : ZoneBox) → AreInCover case.job case.run other right
    → IsInCover case.job case.run (place_of zone left own)
    → first_named case (map (λ later. (place_of zone left own, place_of other right later)) (filter (λ later. compared (share_channel left.name.channel right.name.channel) own later) right.boxes))
    ≡ first_touched case (share_channel left.name.channel right.name.channel) (place_of zone left own) other right
unfolding first_touched_among
touched_is case zone left other right own in_right in_left =
    let shared : Bool = share_channel left.name.channel right.name.channel in
    find-made names_of (pair_meets case.job case.run) (λ (later : ZoneBox). (place_of zone left own, place_of other right later)) (compared shared own) right.boxes
    ∙ first_some-each (λ later. IsInCover case.job case.run (place_of other right later))
    (λ later. cond (compared shared own later && pair_meets case.job case.run (place_of zone left own, place_of other right later)) (Some (names_of (place_of zone left own, place_of other right later))) None)
    (λ later. names_where_met case shared (place_of zone left own) (place_of other right later))
    (λ later in_later. met_is case shared (place_of zone left own) (place_of other right later) in_left in_later) right.boxes in_right

-- ---- two stretches

untouched : (case : Case) (shared : Bool) (left : BoxPlace) (other : ZoneLine) (right : StretchView) → right.boxes ≡ [] → first_touched case shared left other right ≡ None
unfolding first_touched_among
untouched case shared left other right none = rw none refl

stretches_are : (case : Case) (zone : ZoneLine) (left : StretchView) (other : ZoneLine) (right : StretchView) → AreInCover case.job case.run zone left → AreInCover case.job case.run other right
    → first_named case (stretch_pairs case.before zone left other right) ≡ first_in_stretches case zone left other right
unfolding first_in_stretches
stretches_are case zone left other right in_left in_right =
    by_overlap (may_overlap case.before left right)
    ∙ sym (unless_empty right.boxes (cond (may_overlap case.before left right) touched None) (λ none. empty none (may_overlap case.before left right)))
  where
    shared : Bool
    shared = share_channel left.name.channel right.name.channel

    touched : Option Names
    touched = first_some (λ own. first_touched case shared (place_of zone left own) other right) left.boxes

    empty : right.boxes ≡ [] → (b : Bool) → cond b touched None ≡ None
    empty none true = first_some-none (λ own. first_touched case shared (place_of zone left own) other right) (λ own. untouched case shared (place_of zone left own) other right none) left.boxes
    empty none false = refl

    all : first_named case (box_pairs zone left other right) ≡ touched
    all =
        find-flat_map names_of (pair_meets case.job case.run)
        (λ (own : ZoneBox). map (λ later. (place_of zone left own, place_of other right later)) (filter (λ later. compared shared own later) right.boxes)) left.boxes
        ∙ first_some-each (λ own. IsInCover case.job case.run (place_of zone left own))
        (λ own. first_named case (map (λ later. (place_of zone left own, place_of other right later)) (filter (λ later. compared shared own later) right.boxes)))
        (λ own. first_touched case shared (place_of zone left own) other right)
        (λ own in_own. touched_is case zone left other right own in_right in_own) left.boxes in_left

    by_overlap : (b : Bool) → first_named case (cond b (box_pairs zone left other right) []) ≡ cond b touched None
    by_overlap true = all
    by_overlap false = refl

-- ---- two zones

against_none : (case : Case) (zone : ZoneLine) (left : StretchView) (other : ZoneLine) (right : StretchView) → left.boxes ≡ [] → first_in_stretches case zone left other right ≡ None
unfolding first_in_stretches may_overlap
against_none case zone left other right none = rw none (by_tests (length right.boxes == 0) _)
  where
    by_tests : (e o : Bool) → cond {A = Option Names} e None (cond {A = Option Names} o None None) ≡ None
    by_tests true o = refl
    by_tests false true = refl
    by_tests false false = refl

against_is : (case : Case) (zone : ZoneLine) (two : ZoneTime) (left : StretchView) → IsTimeInCover case.job case.run two → AreInCover case.job case.run zone left
    → first_named case (flat_map (λ right. stretch_pairs case.before zone left two.zone right) two.stretches) ≡ first_against case zone two left
unfolding first_against
against_is case zone two left in_two in_left =
    find-flat_map names_of (pair_meets case.job case.run) (λ (right : StretchView). stretch_pairs case.before zone left two.zone right) two.stretches
    ∙ first_some-each (AreInCover case.job case.run two.zone) (λ right. first_named case (stretch_pairs case.before zone left two.zone right)) (first_in_stretches case zone left two.zone)
    (λ right in_right. stretches_are case zone left two.zone right in_left in_right) two.stretches in_two
    ∙ sym (unless_empty left.boxes (first_some (first_in_stretches case zone left two.zone) two.stretches)
    (λ none. first_some-none (first_in_stretches case zone left two.zone) (λ right. against_none case zone left two.zone right none) two.stretches))

zones_are : (case : Case) (one two : ZoneTime) → IsTimeInCover case.job case.run one → IsTimeInCover case.job case.run two
    → first_named case (pairs_of_zones case.before one two) ≡ first_some (first_against case one.zone two) one.stretches
unfolding pairs_of_zones
zones_are case one two in_one in_two =
    find-flat_map names_of (pair_meets case.job case.run) (λ (left : StretchView). flat_map (λ right. stretch_pairs case.before one.zone left two.zone right) two.stretches) one.stretches
    ∙ first_some-each (AreInCover case.job case.run one.zone) (λ left. first_named case (flat_map (λ right. stretch_pairs case.before one.zone left two.zone right) two.stretches))
    (first_against case one.zone two) (λ left in_left. against_is case one.zone two left in_two in_left) one.stretches in_one

-- ---- all zones

of_pair : Case → ZoneTime × ZoneTime → Option Names
of_pair case pair = first_named case (pairs_of_zones case.before pair.0 pair.1)

groups_are : (case : Case) (times : List ZoneTime) → All (IsTimeInCover case.job case.run) times → first_some (of_pair case) (pairs_by_group times) ≡ first_in_times case times
unfolding of_pair first_of_zones
groups_are case [] all = refl
groups_are case (one ∷ others) all =
    let own : IsTimeInCover case.job case.run one = All-head (IsTimeInCover case.job case.run) one others all in
    let rest : All (IsTimeInCover case.job case.run) others = All-tail (IsTimeInCover case.job case.run) one others all in
    first_some-append (of_pair case) (map (λ (two : ZoneTime). (one, two)) (filter (λ two. not (one.zone.group == two.zone.group)) others)) (pairs_by_group others)
    ∙ ap (λ (r : Option Names). option_or r (first_some (of_pair case) (pairs_by_group others)))
    (first_some-map (of_pair case) (λ (two : ZoneTime). (one, two)) (filter (λ two. not (one.zone.group == two.zone.group)) others)
    ∙ first_some-filter (λ (two : ZoneTime). of_pair case (one, two)) (λ two. not (one.zone.group == two.zone.group)) others
    ∙ first_some-each (IsTimeInCover case.job case.run) (λ (two : ZoneTime). cond (not (one.zone.group == two.zone.group)) (of_pair case (one, two)) None) (first_of_zones case one)
    (λ two in_two. unless (one.zone.group == two.zone.group) _ _ (zones_are case one two own in_two)) others rest)
    ∙ ap (λ (r : Option Names). option_or (first_some (first_of_zones case one) others) r) (groups_are case others rest)

-- the first compared pair that meets, and how its boxes are named
pub meetings_are : (case : Case) (stretches : StretchesView) → All (IsTimeInCover case.job case.run) (zone_times case.job stretches)
    → option_map names_of (find (pair_meets case.job case.run) (compared_pairs case.before case.job stretches)) ≡ first_in_times case (zone_times case.job stretches)
unfolding compared_pairs of_pair
meetings_are case stretches all =
    find-flat_map names_of (pair_meets case.job case.run) (λ (pair : ZoneTime × ZoneTime). pairs_of_zones case.before pair.0 pair.1) (pairs_by_group (zone_times case.job stretches))
    ∙ groups_are case (zone_times case.job stretches) all
