-- What the arrays of last places show.
use Rattle.axis_sets.specs.declared.limits.TheConstants.{AXIS_LIMIT, CHANNEL_PLACES}
use Rattle.std.proofs.Common.{◌≡◌, ℕ, suc, ◌<◌, ◌⊎◌, ◌==◌, ◌&&◌, max, Bool, true, false, inl, inr, List, [], ◌∷◌, ◌++◌, map, Option, Some, None, slice_index_or, replicate, refl, sym, ap, ◌∙◌, arith, if◌then◌else◌}
use Rattle.std.proofs.lemmas.Bool.{cases_Bool, eqb-true, eq-eqb, and_parts, true≢false}
use Rattle.axis_sets.specs.Sets.{members_of}
use Rattle.counter_rows.specs.Rows.{count_of, top, IsMissed}
use Rattle.counter_rows.specs.declared.table.StepClocks.{StepClocks}
use Rattle.counter_rows.proofs.GatherLaws.{max_assoc}
use Rattle.order_clocks.specs.Chains.{IsIn}
use Rattle.order_clocks.specs.Counters.{row}
use Rattle.order_clocks.specs.Courses.{Course, IsEventIn}
use Rattle.order_clocks.specs.TracedRaces.{Trace, Lowered, Needed, Took, Touched}
use Rattle.order_clocks.specs.LastPlaces.{deed_leaves, leaves_of, hold_minds, deed_minds, departure_minds, IsTracked, spot_at, AreLast}
use Rattle.order_clocks.specs.Steps.{act_name, go_name, IsStep, AreRows}
use Rattle.order_clocks.specs.Tracks.{Tracks, IsRacyAt, after_act, last_place}
use Rattle.step_deeds.specs.declared.deed.StepEvents.{StepEvents}
use Rattle.step_deeds.specs.declared.deed.Wakeup.{Wakeup}
use Rattle.step_deeds.specs.declared.deed.Hold.{Hold}
use Rattle.step_deeds.specs.declared.deed.Hold.TheVariants.{Marks, Axes}
use Rattle.order_clocks.specs.declared.places.LastTouches.{LastTouches}
use Rattle.order_clocks.proofs.CountLaws.{IsUncounted, racy_steps}
use Rattle.order_clocks.proofs.CounterLaws.{top_above, top_attained}
use Rattle.order_clocks.proofs.CountingLaws.{zero_row}
use Rattle.sync_types.specs.Boards.{among}
use Rattle.sync_types.specs.declared.runs.EventId.{EventId}
use Rattle.step_deeds.specs.Holds.{departure_of, goes_in, is_given}

pub hold_marks : (begins : Option Hold) (h : Hold) (m : ℕ) (named : List Bool) → begins ≡ Some h → h ≡ Marks m named → hold_minds begins ≡ map (λ d. Lowered d m) (members_of named)
hold_marks begins h m named one two = rw (one, two) refl

pub hold_axes : (begins : Option Hold) (h : Hold) (axes : List Bool) → begins ≡ Some h → h ≡ Axes axes → hold_minds begins ≡ map Took (members_of axes)
hold_axes begins h axes one two = rw (one, two) refl

pub from_zero : (n zero_count : ℕ) → zero_count ≡ 0 → max zero_count n ≡ n
from_zero n z e = omega arith

pub top_append : {A : Type 0} (f : A → ℕ) (xs ys : List A) → top f (xs ++ ys) ≡ max (top f xs) (top f ys)
top_append f [] ys = omega arith
top_append f (x ∷ xs) ys = ap (λ (n : ℕ). max (f x) n) (top_append f xs ys) ∙ sym (max_assoc (f x) (top f xs) (top f ys))

pub three_tops : {A : Type 0} (f : A → ℕ) (xs ys zs : List A) (hold touched : ℕ) → hold ≡ top f xs → touched ≡ max hold (top f ys) → max touched (top f zs) ≡ top f (xs ++ (ys ++ zs))
three_tops f xs ys zs hold touched one two =
    ap (λ (n : ℕ). max n (top f zs)) (two ∙ ap (λ (n : ℕ). max n (top f ys)) one)
    ∙ (max_assoc (top f xs) (top f ys) (top f zs)
    ∙ (ap (λ (n : ℕ). max (top f xs) n) (sym (top_append f ys zs)) ∙ sym (top_append f xs (ys ++ zs))))

-- one step more
if_same : (b d : Bool) (x y u v : ℕ) → b ≡ d → x ≡ y → u ≡ v → (if b then x else u) ≡ (if d then y else v)
if_same b d x y u v one two three = rw (one, two, three) refl

swap_and : (b d : Bool) → (b && d) ≡ (d && b)
swap_and true true = refl
swap_and true false = refl
swap_and false true = refl
swap_and false false = refl

and_same : (b d p q : Bool) → b ≡ d → (d ≡ true → p ≡ q) → (b && p) ≡ (d && q)
and_same b true p q one two = rw (one, two refl) refl
and_same b false p q one two = rw one refl

if_alike : (b : Bool) (x y u : ℕ) → (b ≡ true → x ≡ y) → (if b then x else u) ≡ (if b then y else u)
if_alike true x y u e = e refl
if_alike false x y u e = refl

leaves_given : (c : ℕ) (gone : Option Wakeup) (t : Trace) → leaves_of c gone t ≡ (is_given gone && leaves_of c gone t)
leaves_given c (Some g) t = refl
leaves_given c None t = refl

pub last_more : (run : Course) (tracks : Tracks) (i : ℕ) (deed : StepEvents) (rows : StepClocks) (p q r : LastTouches) (place : ℕ)
    → IsStep run i deed → IsTracked tracks i deed → AreRows run i rows → AreLast run tracks i p
    → place ≡ count_of rows.act deed.channel
    → ((t : Trace) (c : ℕ) → count_of (spot_at q t) c ≡ (if deed_leaves deed t && (c == deed.channel) then place else count_of (spot_at p t) c))
    → ((t : Trace) (c : ℕ) → count_of (spot_at r t) c ≡ (if leaves_of c (departure_of deed c) t then count_of (slice_index_or rows.goes c []) c else count_of (spot_at q t) c))
    → AreLast run tracks (suc i) r
last_more run tracks i deed rows p q r place is tracked are last e act goes = record {
  places = λ c t.
      let first : count_of (spot_at q t) c ≡ after_act run tracks c t i (last_place run tracks c t i) = act t c ∙ by_act t c in
      goes t c ∙ by_goes t c first;
}
  where
    by_act : (t : Trace) (c : ℕ) → (if deed_leaves deed t && (c == deed.channel) then place else count_of (spot_at p t) c) ≡ after_act run tracks c t i (last_place run tracks c t i)
    by_act t c = elim (cases_Bool (c == deed.channel)) [
      | inl on ↦
          let here : c ≡ deed.channel = eqb-true c deed.channel on in
          let acts : (run.actor i == c) ≡ true = eq-eqb (run.actor i) c (is.actor ∙ sym here) in
          let leaves : tracks.leaves (act_name i c) t ≡ deed_leaves deed t = ap (λ (d : ℕ). tracks.leaves (act_name i d) t) here ∙ tracked.act_leaves t in
          let test : (deed_leaves deed t && (c == deed.channel)) ≡ ((run.actor i == c) && tracks.leaves (act_name i c) t) =
          swap_and (deed_leaves deed t) (c == deed.channel) ∙ rw (on, acts) (sym leaves) in
          let value : place ≡ row run (act_name i c) c = e ∙ (ap (λ (d : ℕ). count_of rows.act d) (sym here) ∙ (are.act c ∙ ap (λ (d : ℕ). row run (act_name i d) c) (is.actor ∙ sym here))) in
          if_same (deed_leaves deed t && (c == deed.channel)) ((run.actor i == c) && tracks.leaves (act_name i c) t) place (row run (act_name i c) c) _ _ test value (last.places c t)
      | inr off ↦
          let other : (run.actor i == c) ≡ false = elim (cases_Bool (run.actor i == c)) [ inl bad ↦ absurd (true≢false (sym (eq-eqb c deed.channel (sym (eqb-true (run.actor i) c bad) ∙ is.actor)) ∙ off)) | inr good ↦ good ] in
          let test : (deed_leaves deed t && (c == deed.channel)) ≡ ((run.actor i == c) && tracks.leaves (act_name i c) t) =
          swap_and (deed_leaves deed t) (c == deed.channel) ∙ rw (off, other) refl in
          let none : (deed_leaves deed t && (c == deed.channel)) ≡ false = swap_and (deed_leaves deed t) (c == deed.channel) ∙ rw off refl in
          let nor : ((run.actor i == c) && tracks.leaves (act_name i c) t) ≡ false = rw other refl in
          rw (none, nor) (last.places c t)
    ]

    by_goes : (t : Trace) (c : ℕ) → count_of (spot_at q t) c ≡ after_act run tracks c t i (last_place run tracks c t i)
        → (if leaves_of c (departure_of deed c) t then count_of (slice_index_or rows.goes c []) c else count_of (spot_at q t) c) ≡ last_place run tracks c t (suc i)
    by_goes t c first =
        let test : leaves_of c (departure_of deed c) t ≡ (among (run.goers i) c && tracks.leaves (go_name i c) t) =
        leaves_given c (departure_of deed c) t ∙ sym (and_same (among (run.goers i) c) (goes_in deed c) (tracks.leaves (go_name i c) t) (leaves_of c (departure_of deed c) t) (is.goers c) (λ on. tracked.go_leaves c t on)) in
        rw (test, first) (if_alike (among (run.goers i) c && tracks.leaves (go_name i c) t) _ _ _ (λ on. are.goes c c (and_parts (among (run.goers i) c) (tracks.leaves (go_name i c) t) on).0))

-- some event is apart
pub above_some : {A : Type 0} (f : A → ℕ) (xs : List A) (n : ℕ) → n < top f xs → (a : A) × (IsIn a xs × (n < f a))
above_some f xs n h = elim (top_attained f xs) [
  | inl none ↦ absurd (omega arith)
  | inr w ↦ let e : f w.0 ≡ top f xs = w.1.1 in (w.0, (w.1.0, omega arith))
]

pub some_above : {A : Type 0} (f : A → ℕ) (xs : List A) (n : ℕ) (a : A) → IsIn a xs → n < f a → n < top f xs
some_above f xs n a within h = let up = top_above f xs a within in omega arith

minded_goes : (c : ℕ) (gone : Option Wakeup) (t : Trace) → IsIn t (departure_minds c gone) → is_given gone ≡ true
minded_goes c (Some g) t within = refl
minded_goes c None t within = absurd within

racy_at : (run : Course) (tracks : Tracks) (i : ℕ) (late : EventId) (c : ℕ) (t : Trace) → IsUncounted run tracks i late c t → IsRacyAt run tracks i
racy_at run tracks i late c t u =
    let w = (racy_steps run tracks i).0 (late, (c, (t, u))) in
    let r = w.1.1.1 in
    record { early = w.0; late = w.1.0; trace = w.1.1.0; step = r.step; apart = r.apart }

pub racy_from_act : (run : Course) (tracks : Tracks) (i : ℕ) (deed : StepEvents) (rows : StepClocks) (p : LastTouches) (limit : List ℕ)
    → IsStep run i deed → IsTracked tracks i deed → AreRows run i rows → AreLast run tracks i p
    → ((x : ℕ) → count_of limit x ≡ top (λ t. count_of (spot_at p t) x) (deed_minds deed))
    → IsMissed deed.channel rows.act limit → IsRacyAt run tracks i
racy_from_act run tracks i deed rows p limit is tracked are last limits missed =
    let c = missed.0 in
    let less = missed.1.1 in
    let same = limits c in
    let w = above_some (λ t. count_of (spot_at p t) c) (deed_minds deed) (count_of rows.act c) (omega arith) in
    let place = last.places c w.0 in
    let count : count_of rows.act c ≡ row run (act_name i deed.channel) c = are.act c in
    let above = w.1.1 in
    racy_at run tracks i (act_name i deed.channel) c w.0 (record {
      step = refl;
      event = is.actor;
      other = missed.1.0;
      minds = (tracked.act_minds w.0).1 w.1.0;
      above = omega arith;
    })

abbrev pub HasRacyGo : LastTouches → StepEvents → StepClocks → Type 0
HasRacyGo p deed rows = (c d : ℕ) × (((d == c) ≡ false) × (count_of (slice_index_or rows.goes c []) d < top (λ t. count_of (spot_at p t) d) (departure_minds c (departure_of deed c))))

pub racy_from_go : (run : Course) (tracks : Tracks) (i : ℕ) (deed : StepEvents) (rows : StepClocks) (p : LastTouches)
    → IsStep run i deed → IsTracked tracks i deed → AreRows run i rows → AreLast run tracks i p
    → HasRacyGo p deed rows → IsRacyAt run tracks i
racy_from_go run tracks i deed rows p is tracked are last found =
    let c = found.0 in
    let d = found.1 in
    let w = above_some (λ t. count_of (spot_at p t) d) (departure_minds c (departure_of deed c)) (count_of (slice_index_or rows.goes c []) d) found.2.1 in
    let here : goes_in deed c ≡ true = minded_goes c (departure_of deed c) w.0 w.1.0 in
    let place = last.places d w.0 in
    let count : count_of (slice_index_or rows.goes c []) d ≡ row run (go_name i c) d = are.goes c d (is.goers c ∙ here) in
    let above = w.1.1 in
    racy_at run tracks i (go_name i c) d w.0 (record {
      step = refl;
      event = is.goers c ∙ here;
      other = found.2.0;
      minds = (tracked.go_minds c w.0 here).1 w.1.0;
      above = omega arith;
    })

pub racy_back : (run : Course) (tracks : Tracks) (i : ℕ) (deed : StepEvents) (rows : StepClocks) (p : LastTouches) (limit : List ℕ)
    → IsStep run i deed → IsTracked tracks i deed → AreRows run i rows → AreLast run tracks i p
    → ((x : ℕ) → count_of limit x ≡ top (λ t. count_of (spot_at p t) x) (deed_minds deed))
    → IsRacyAt run tracks i → IsMissed deed.channel rows.act limit ⊎ HasRacyGo p deed rows
racy_back run tracks i deed rows p limit is tracked are last limits racy =
    let w = (racy_steps run tracks i).1 (racy.early, (racy.late, (racy.trace, record { step = racy.step; apart = racy.apart }))) in
    let u = w.1.1.1 in
    by_kind w.0.step w.0.channel w.0.go w.1.0 w.1.1.0 u.step u.event u.other u.minds u.above
  where
    name : ℕ → ℕ → Bool → EventId
    name j e g = record { step = j; channel = e; go = g }

    by_kind : (j e : ℕ) (g : Bool) (c : ℕ) (t : Trace) → j ≡ i → IsEventIn run (record { step = j; channel = e; go = g }) → (c == e) ≡ false
        → tracks.minds (record { step = j; channel = e; go = g }) t ≡ true → row run (record { step = j; channel = e; go = g }) c < last_place run tracks c t j
        → IsMissed deed.channel rows.act limit ⊎ HasRacyGo p deed rows
    by_kind j e false c t here event other minds above =
        let actor : e ≡ deed.channel = sym event ∙ (ap (λ (k : ℕ). run.actor k) here ∙ is.actor) in
        let low : row run (act_name i (run.actor i)) c < last_place run tracks c t i = rw here at above in
        let minded : IsIn t (deed_minds deed) = (tracked.act_minds t).0 (rw (here, actor) at minds) in
        let up = top_above (λ q. count_of (spot_at p q) c) (deed_minds deed) t minded in
        let place = last.places c t in
        let count = are.act c in
        let same = limits c in
        inl (c, (rw actor at other, omega arith))
    by_kind j e true c t here event other minds above =
        let low : row run (go_name i e) c < last_place run tracks c t i = rw here at above in
        let on : among (run.goers i) e ≡ true = rw here at event in
        let goes : goes_in deed e ≡ true = sym (is.goers e) ∙ on in
        let minded : IsIn t (departure_minds e (departure_of deed e)) = (tracked.go_minds e t goes).0 (rw here at minds) in
        let up = top_above (λ q. count_of (spot_at p q) c) (departure_minds e (departure_of deed e)) t minded in
        let place = last.places c t in
        let count = are.goes e c on in
        inr (e, c, (other, omega arith))

-- before all events
pub zero_spots : (p : LastTouches) (row : List ℕ) → ((y : ℕ) → count_of row y ≡ 0)
    → ((m c x : ℕ) → count_of (slice_index_or (slice_index_or p.lowered m []) c []) x ≡ 0) → ((m c x : ℕ) → count_of (slice_index_or (slice_index_or p.needed m []) c []) x ≡ 0) → p.took ≡ replicate AXIS_LIMIT row → p.touched ≡ replicate CHANNEL_PLACES row
    → (t : Trace) (x : ℕ) → count_of (spot_at p t) x ≡ 0
zero_spots p row none lowered needed took touched (Lowered c m) x = lowered m c x
zero_spots p row none lowered needed took touched (Needed c m) x = needed m c x
zero_spots p row none lowered needed took touched (Took a) x = ap (λ (r : List (List ℕ)). count_of (slice_index_or r a []) x) took ∙ zero_row AXIS_LIMIT a x row none
zero_spots p row none lowered needed took touched (Touched c) x = ap (λ (r : List (List ℕ)). count_of (slice_index_or r c []) x) touched ∙ zero_row CHANNEL_PLACES c x row none
