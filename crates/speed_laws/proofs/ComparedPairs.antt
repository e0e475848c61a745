-- Stretches that are current at once may overlap, boxes of them that hold the present places are compared, and what meets there is a compared pair that meets.
use Rattle.std.proofs.Common.{◌≡◌, ◌≢◌, ◌⊎◌, ◌∙◌, ℕ, zero, suc, ◌+◌, ◌≤◌, ◌<◌, Bool, true, false, cond, not, ◌==◌, ◌&&◌, ◌||◌, nat_le, List, [], ◌∷◌, map, length, get_or, filter, find, filter_map, flat_map, Option, None, Some, IfSome, AllPairs, Contains, inl, inr, refl, sym, ap, subst, arith}
use Rattle.std.proofs.lemmas.Bool.{eqb-true, eq-eqb, ne_eqb, le-leb, cases_eq}
use Rattle.std.specs.List.{cons_option, range_with_len, list_any, zip}
use Rattle.axis_sets.specs.declared.limits.TheConstants.{ZONE_LIMIT}
use Rattle.job_types.specs.Job.{JobView}
use Rattle.job_types.specs.Zones.{zones_in_order}
use Rattle.job_types.specs.declared.job.ZoneLine.{ZoneLine}
use Rattle.number_laws.proofs.Lists.{SomeOf, SomeOf-weaker, SomeOf-append_left, SomeOf-append_right, SomeOf-map, SomeOf-flat_map, SomeOf-filter, list_any-some}
use Rattle.swept_boxes.proofs.MeetTests.{meet_passes}
use Rattle.swept_boxes.specs.Boxes.{SpacePoint, IsInBox, boxes_meet}
use Rattle.sync_types.specs.Events.{is_same_event}
use Rattle.sync_types.specs.Views.{RunView}
use Rattle.sync_types.specs.declared.runs.EventId.{EventId}
use Rattle.zone_stretches.specs.Overlaps.{Order, is_open_at, may_overlap, share_channel, share_place, are_compared, ZoneTime, Pair, box_pairs, stretch_pairs, pairs_of_zones, pairs_by_group, zone_times, compared_pairs}
use Rattle.zone_stretches.specs.Pieces.{piece_boxes, pair_meets}
use Rattle.zone_stretches.specs.Stretches.{StretchView}
use Rattle.zone_stretches.specs.declared.stretches.ZoneBox.{ZoneBox}

-- ---- stretches

-- of these events some are past: the stretch has begun and is not over
pub record IsCurrent (Named : EventId → Type 0) (past : EventId → Bool) (stretch : StretchView) : Type 0 where
  pub begun : IfSome stretch.first (λ e. Named e × (past e ≡ true))
  pub not_over : IfSome stretch.last (λ e. Named e × (past e ≡ false))

-- with each event that is past, all that are before it are past
abbrev pub IsCut : Order → (EventId → Type 0) → (EventId → Bool) → Type 0
IsCut before Named past = (e f : EventId) → Named e → Named f → before e f ≡ true → past f ≡ true → past e ≡ true

both_pass : (a b : Bool) → (a && b) ≡ true → (a ≡ true) × (b ≡ true)
both_pass true b e = (refl, e)
both_pass false b e = absurd cc

same_go : (a b : Bool) → cond a b (not b) ≡ true → a ≡ b
same_go true true e = refl
same_go true false e = absurd cc
same_go false true e = absurd cc
same_go false false e = refl

-- one event is past, or not
past_alike : (past : EventId → Bool) (e f : EventId) → is_same_event e f ≡ true → past e ≡ past f
past_alike past e f is =
    let one = both_pass (e.step == f.step) ((e.channel == f.channel) && cond e.go f.go (not f.go)) is in
    let two = both_pass (e.channel == f.channel) (cond e.go f.go (not f.go)) one.1 in
    let named : ℕ → ℕ → Bool → EventId = λ step channel go. record { step = step; channel = channel; go = go } in
    ap (λ step. past (named step e.channel e.go)) (eqb-true e.step f.step one.0)
    ∙ (ap (λ channel. past (named f.step channel e.go)) (eqb-true e.channel f.channel two.0) ∙ ap (λ go. past (named f.step f.channel go)) (same_go e.go f.go two.1))

still_open : (before : Order) (Named : EventId → Type 0) (past : EventId → Bool) → IsCut before Named past → (last first : Option EventId)
    → IfSome last (λ e. Named e × (past e ≡ false)) → IfSome first (λ e. Named e × (past e ≡ true)) → is_open_at before last first ≡ true
still_open before Named past cut None first not_over begun = refl
still_open before Named past cut (Some last) None not_over begun = refl
still_open before Named past cut (Some last) (Some first) not_over begun = by_tests (is_same_event last first) (before last first) refl refl
  where
    by_tests : (same earlier : Bool) → is_same_event last first ≡ same → before last first ≡ earlier → not (same || earlier) ≡ true
    by_tests true earlier is is' = let alike : past last ≡ past first = past_alike past last first is in absurd cc
    by_tests false true is is' = let is_past : past last ≡ true = cut last first not_over.0 begun.0 is' begun.1 in absurd cc
    by_tests false false is is' = refl

-- two stretches that are current at once may overlap
pub current_overlap : (before : Order) (Named : EventId → Type 0) (past : EventId → Bool) → IsCut before Named past → (left right : StretchView)
    → IsCurrent Named past left → IsCurrent Named past right → may_overlap before left right ≡ true
unfolding may_overlap
current_overlap before Named past cut left right l r =
    rw (still_open before Named past cut left.last right.first l.not_over r.begun, still_open before Named past cut right.last left.first r.not_over l.begun) refl

-- ---- boxes

-- the box holds the present place of the stretch's channel
abbrev pub HoldsPlace : (ℕ → ℕ) → StretchView → ZoneBox → Type 0
HoldsPlace place stretch box = IfSome stretch.name.channel (λ c. (box.from ≤ place c) × (place c ≤ box.to))

compared_of : (place : ℕ → ℕ) (own later : ZoneBox) (left right : Option ℕ) → IfSome left (λ c. (own.from ≤ place c) × (place c ≤ own.to))
    → IfSome right (λ c. (later.from ≤ place c) × (place c ≤ later.to)) → (not (share_channel left right) || share_place own later) ≡ true
compared_of place own later None right here there = refl
compared_of place own later (Some c) None here there = refl
compared_of place own later (Some c) (Some d) here there = by_channel (cases_eq d c)
  where
    by_channel : (d ≡ c) ⊎ (d ≡ c → ⊥) → (not (d == c) || share_place own later) ≡ true
    by_channel (inl same) =
        let at : place d ≡ place c = ap place same in
        let forth : nat_le own.from later.to ≡ true = le-leb own.from later.to (omega (arith, here.0, there.1)) in
        let back : nat_le later.from own.to ≡ true = le-leb later.from own.to (omega (arith, there.0, here.1)) in
        rw (eq-eqb d c same, forth, back) refl
    by_channel (inr apart) = rw (ne_eqb d c apart) refl

-- a current stretch has a box that holds the present place, and of which Q holds
abbrev pub HasBox : (EventId → Type 0) → (EventId → Bool) → (ℕ → ℕ) → List StretchView → (StretchView → ZoneBox → Type 0) → Type 0
HasBox Named past place stretches Q = SomeOf (λ stretch. IsCurrent Named past stretch × SomeOf (λ box. HoldsPlace place stretch box × Q stretch box) stretch.boxes) stretches

-- such boxes of two zones are compared
pub in_compared_pair : (before : Order) (Named : EventId → Type 0) (past : EventId → Bool) → IsCut before Named past → (place : ℕ → ℕ) (one two : ZoneTime)
    (Q R : StretchView → ZoneBox → Type 0) (P : Pair → Type 0)
    → ((stretch later : StretchView) (box next : ZoneBox) → Q stretch box → R later next
    → P (record { zone = one.zone; stretch = stretch; box = box }, record { zone = two.zone; stretch = later; box = next }))
    → HasBox Named past place one.stretches Q → HasBox Named past place two.stretches R → SomeOf P (pairs_of_zones before one two)
unfolding pairs_of_zones
in_compared_pair before Named past cut place one two Q R P holds left right =
    SomeOf-flat_map P (λ stretch. flat_map (λ later. stretch_pairs before one.zone stretch two.zone later) two.stretches) one.stretches
    (SomeOf-weaker (λ stretch. IsCurrent Named past stretch × SomeOf (λ box. HoldsPlace place stretch box × Q stretch box) stretch.boxes)
    (λ stretch. SomeOf P (flat_map (λ later. stretch_pairs before one.zone stretch two.zone later) two.stretches))
    (λ stretch here. SomeOf-flat_map P (λ later. stretch_pairs before one.zone stretch two.zone later) two.stretches
    (SomeOf-weaker (λ later. IsCurrent Named past later × SomeOf (λ box. HoldsPlace place later box × R later box) later.boxes) (λ later. SomeOf P (stretch_pairs before one.zone stretch two.zone later))
    (λ later there. both stretch later here there) two.stretches right))
    one.stretches left)
  where
    made : StretchView → StretchView → ZoneBox → ZoneBox → Pair
    made stretch later box next = (record { zone = one.zone; stretch = stretch; box = box }, record { zone = two.zone; stretch = later; box = next })

    boxes : (stretch later : StretchView) → SomeOf (λ box. HoldsPlace place stretch box × Q stretch box) stretch.boxes → SomeOf (λ box. HoldsPlace place later box × R later box) later.boxes
        → SomeOf P (box_pairs one.zone stretch two.zone later)
    boxes stretch later some some' =
        SomeOf-flat_map P (λ box. map (made stretch later box) (filter (are_compared stretch later box) later.boxes)) stretch.boxes
        (SomeOf-weaker (λ box. HoldsPlace place stretch box × Q stretch box) (λ box. SomeOf P (map (made stretch later box) (filter (are_compared stretch later box) later.boxes)))
        (λ box q. SomeOf-map P (made stretch later box) (filter (are_compared stretch later box) later.boxes)
        (SomeOf-filter (λ next. P (made stretch later box next)) (are_compared stretch later box) later.boxes
        (SomeOf-weaker (λ next. HoldsPlace place later next × R later next) (λ next. (are_compared stretch later box next ≡ true) × P (made stretch later box next))
        (λ next r. (compared_of place box next stretch.name.channel later.name.channel q.0 r.0, holds stretch later box next q.1 r.1)) later.boxes some')))
        stretch.boxes some)

    both : (stretch later : StretchView) → IsCurrent Named past stretch × SomeOf (λ box. HoldsPlace place stretch box × Q stretch box) stretch.boxes
        → IsCurrent Named past later × SomeOf (λ box. HoldsPlace place later box × R later box) later.boxes → SomeOf P (stretch_pairs before one.zone stretch two.zone later)
    both stretch later here there = rw (current_overlap before Named past cut stretch later here.0 there.0) (boxes stretch later here.1 there.1)

-- ---- zones

-- the zone is found by its number
find_is : (zones : List ZoneLine) → AllPairs (λ zone other. zone.zone ≢ other.zone) zones → (k : ℕ) (zone : ZoneLine) → k < length zones → get_or zones k zone ≡ zone
    → find (λ z. z.zone == zone.zone) zones ≡ Some zone
find_is [] distinct k zone within is = absurd (omega arith)
find_is (first ∷ zones) distinct zero zone within is = rw (is, eq-eqb zone.zone zone.zone refl) refl
find_is (first ∷ zones) distinct (suc k) zone within is =
    let other : first.zone ≢ zone.zone = subst (λ (z : ZoneLine). first.zone ≢ z.zone) is (distinct 0 (suc k) zone (omega arith) within) in
    rw (ne_eqb first.zone zone.zone other) (find_is zones (λ i j d less in_list. distinct (suc i) (suc j) d (omega arith) (omega arith)) k zone (omega arith) is)

pub zone_by_number : (job : JobView) → AllPairs (λ zone other. zone.zone ≢ other.zone) job.zones → (zone : ZoneLine) → Contains job.zones zone
    → find (λ z. z.zone == zone.zone) job.zones ≡ Some zone
zone_by_number job distinct zone (k, within, is) = find_is job.zones distinct k zone within is

some_in_range : {X : Type 0} (h : ℕ → Option X) (x : X) (low n number : ℕ) → low ≤ number → number < low + n → h number ≡ Some x
    → SomeOf (λ y. y ≡ x) (filter_map h (range_with_len low n))
some_in_range h x low zero number above below is = absurd (omega arith)
some_in_range {X = X} h x low (suc n) number above below is = by_order (cases_eq low number) (λ above' below'. some_in_range h x (low + 1) n number above' below' is)
  where
    past : (o : Option X) → SomeOf (λ y. y ≡ x) (filter_map h (range_with_len (low + 1) n)) → SomeOf (λ y. y ≡ x) (cons_option o (filter_map h (range_with_len (low + 1) n)))
    past None some = some
    past (Some y) some = inr some

    by_order : (low ≡ number) ⊎ (low ≡ number → ⊥) → (low + 1 ≤ number → number < low + 1 + n → SomeOf (λ y. y ≡ x) (filter_map h (range_with_len (low + 1) n)))
        → SomeOf (λ y. y ≡ x) (filter_map h (range_with_len low (suc n)))
    by_order (inl same) rest = let here : h low ≡ Some x = ap h same ∙ is in rw here (inl refl)
    by_order (inr other) rest = past (h low) (rest (omega arith) (omega arith))

-- so it is among the zones in order
pub is_in_order : (job : JobView) → AllPairs (λ zone other. zone.zone ≢ other.zone) job.zones → (zone : ZoneLine) → 1 ≤ zone.zone → zone.zone ≤ ZONE_LIMIT → Contains job.zones zone
    → SomeOf (λ z. z ≡ zone) (zones_in_order job)
unfolding zones_in_order
is_in_order job distinct zone low high there =
    some_in_range (λ number. find (λ z. z.zone == number) job.zones) zone 1 ZONE_LIMIT zone.zone low (omega arith) (zone_by_number job distinct zone there)

-- a zone with its stretches
abbrev pub time_of : (ZoneLine → List StretchView) → ZoneLine → ZoneTime
time_of stretches zone = record { zone = zone; stretches = stretches zone }

some_time : (stretches : ZoneLine → List StretchView) (zone : ZoneLine) (zones : List ZoneLine) → SomeOf (λ z. z ≡ zone) zones
    → SomeOf (λ t. t ≡ time_of stretches zone) (map (λ (p : ZoneLine × List StretchView). let t : ZoneTime = record { zone = p.0; stretches = p.1 } in t) (zip zones (map stretches zones)))
some_time stretches zone [] some = absurd some
some_time stretches zone (z ∷ zones) (inl same) = inl (ap (time_of stretches) same)
some_time stretches zone (z ∷ zones) (inr there) = inr (some_time stretches zone zones there)

-- each zone with a later one of another group
with_later : (P : ZoneTime × ZoneTime → Type 0) (first later : ZoneTime) (times : List ZoneTime) → first.zone.group ≢ later.zone.group → P (first, later) → SomeOf (λ t. t ≡ later) times
    → SomeOf P (map (λ two. (first, two)) (filter (λ two. not (first.zone.group == two.zone.group)) times))
with_later P first later times apart holds some =
    SomeOf-map P (λ two. (first, two)) (filter (λ two. not (first.zone.group == two.zone.group)) times)
    (SomeOf-filter (λ two. P (first, two)) (λ two. not (first.zone.group == two.zone.group)) times
    (SomeOf-weaker (λ t. t ≡ later) (λ t. (not (first.zone.group == t.zone.group) ≡ true) × P (first, t))
    (λ t same. subst (λ y. (not (first.zone.group == y.zone.group) ≡ true) × P (first, y)) (sym same) (ap not (ne_eqb first.zone.group later.zone.group apart), holds))
    times some))

some_zone_pair : (P : ZoneTime × ZoneTime → Type 0) (one two : ZoneTime) → one.zone.group ≢ two.zone.group → P (one, two) → P (two, one) → (times : List ZoneTime)
    → SomeOf (λ t. t ≡ one) times → SomeOf (λ t. t ≡ two) times → SomeOf P (pairs_by_group times)
some_zone_pair P one two apart forth back [] is is' = absurd is
some_zone_pair P one two apart forth back (first ∷ times) (inl here) (inl here') = absurd (apart (ap (λ (t : ZoneTime). t.zone.group) (sym here ∙ here')))
some_zone_pair P one two apart forth back (first ∷ times) (inl here) (inr there) =
    SomeOf-append_left P (map (λ t. (first, t)) (filter (λ t. not (first.zone.group == t.zone.group)) times)) (pairs_by_group times)
    (with_later P first two times (subst (λ (t : ZoneTime). t.zone.group ≢ two.zone.group) (sym here) apart) (subst (λ (t : ZoneTime). P (t, two)) (sym here) forth) there)
some_zone_pair P one two apart forth back (first ∷ times) (inr there) (inl here) =
    SomeOf-append_left P (map (λ t. (first, t)) (filter (λ t. not (first.zone.group == t.zone.group)) times)) (pairs_by_group times)
    (with_later P first one times (subst (λ (t : ZoneTime). t.zone.group ≢ one.zone.group) (sym here) (λ same. apart (sym same))) (subst (λ (t : ZoneTime). P (t, one)) (sym here) back) there)
some_zone_pair P one two apart forth back (first ∷ times) (inr there) (inr there') =
    SomeOf-append_right P (map (λ t. (first, t)) (filter (λ t. not (first.zone.group == t.zone.group)) times)) (pairs_by_group times)
    (some_zone_pair P one two apart forth back times there there')

-- ---- pairs that meet

-- a point of space is in a piece of the box
abbrev pub IsInPiece : JobView → RunView → SpacePoint → ZoneLine → StretchView → ZoneBox → Type 0
IsInPiece job run point zone stretch box = SomeOf (λ piece. IsInBox piece point) (piece_boxes job run (record { zone = zone; stretch = stretch; box = box }))

-- a pair meets where a point of space is in a piece of the one and in a piece of the other
pub pair_is : (job : JobView) (run : RunView) (pair : Pair) (point : SpacePoint)
    → IsInPiece job run point pair.0.zone pair.0.stretch pair.0.box → IsInPiece job run point pair.1.zone pair.1.stretch pair.1.box → pair_meets job run pair ≡ true
unfolding pair_meets
pair_is job run pair point left right =
    list_any-some (λ l. list_any (boxes_meet l) (piece_boxes job run pair.1)) (piece_boxes job run pair.0)
    (SomeOf-weaker (λ piece. IsInBox piece point) (λ l. list_any (boxes_meet l) (piece_boxes job run pair.1) ≡ true)
    (λ l in_left. list_any-some (boxes_meet l) (piece_boxes job run pair.1)
    (SomeOf-weaker (λ piece. IsInBox piece point) (λ r. boxes_meet l r ≡ true) (λ r in_right. meet_passes l r (point, in_left, in_right)) (piece_boxes job run pair.1) right))
    (piece_boxes job run pair.0) left)

-- Where two zones of different groups share a point of space in boxes of current stretches, a compared pair meets.
pub some_pair_meets : (job : JobView) (run : RunView) (before : Order) (Named : EventId → Type 0) (past : EventId → Bool) → IsCut before Named past → (place : ℕ → ℕ)
    (stretches : ZoneLine → List StretchView) (zone other : ZoneLine) → SomeOf (λ z. z ≡ zone) (zones_in_order job) → SomeOf (λ z. z ≡ other) (zones_in_order job)
    → zone.group ≢ other.group → (point : SpacePoint)
    → HasBox Named past place (stretches zone) (IsInPiece job run point zone) → HasBox Named past place (stretches other) (IsInPiece job run point other)
    → SomeOf (λ pair. pair_meets job run pair ≡ true) (compared_pairs before job (record { zones = map stretches (zones_in_order job) }))
unfolding compared_pairs zone_times
some_pair_meets job run before Named past cut place stretches zone other in_job in_job' apart point here there =
    let times = zone_times job (record { zones = map stretches (zones_in_order job) }) in
    SomeOf-flat_map (λ pair. pair_meets job run pair ≡ true) (λ pair. pairs_of_zones before pair.0 pair.1) (pairs_by_group times)
    (some_zone_pair (λ pair. SomeOf (λ p. pair_meets job run p ≡ true) (pairs_of_zones before pair.0 pair.1)) (time_of stretches zone) (time_of stretches other) apart
    (compared zone other here there) (compared other zone there here) times
    (some_time stretches zone (zones_in_order job) in_job) (some_time stretches other (zones_in_order job) in_job'))
  where
    compared : (left right : ZoneLine) → HasBox Named past place (stretches left) (IsInPiece job run point left) → HasBox Named past place (stretches right) (IsInPiece job run point right)
        → SomeOf (λ pair. pair_meets job run pair ≡ true) (pairs_of_zones before (time_of stretches left) (time_of stretches right))
    compared left right here there =
        in_compared_pair before Named past cut place (time_of stretches left) (time_of stretches right) (IsInPiece job run point left) (IsInPiece job run point right) (λ pair. pair_meets job run pair ≡ true)
        (λ stretch later box next q r. pair_is job run (record { zone = left; stretch = stretch; box = box }, record { zone = right; stretch = later; box = next }) point q r) here there
