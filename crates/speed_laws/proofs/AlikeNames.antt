-- Names of events in two runs, and when they are of one event: then the tests of what is before what tell the same of them.
use Rattle.std.proofs.Common.{◌≡◌, ◌∙◌, ℕ, ◌≤◌, Bool, true, false, not, ◌==◌, ◌&&◌, ◌||◌, nat_le, List, Option, None, Some, inl, inr, if◌then◌else◌, refl, sym, ap, ap₂, arith}
use Rattle.std.proofs.lemmas.Bool.{and_parts, cases_Bool, eqb-true, eq-eqb, le-leb, leb-true, or_cases}
use Rattle.order_clocks.proofs.CounterLaws.{before_from, before_to, one_row}
use Rattle.order_clocks.proofs.OrderLaws.{event_in, event_within, one_from, one_in, order_from, order_in}
use Rattle.order_clocks.specs.Clocked.{IsOrderOf}
use Rattle.order_clocks.specs.Counters.{row}
use Rattle.order_clocks.specs.CourseOf.{course_of}
use Rattle.order_clocks.specs.Courses.{AreOneIn}
use Rattle.sync_types.proofs.BoardTests.{no_truth}
use Rattle.sync_types.proofs.Links.{are_one_alike, has_one_lowest_name}
use Rattle.sync_types.specs.Boards.{Board}
use Rattle.sync_types.specs.Events.{AreOne, IsLowestName, is_same_event}
use Rattle.sync_types.specs.Turns.{Move}
use Rattle.sync_types.specs.declared.runs.EventId.{EventId}
use Rattle.zone_stretches.specs.Overlaps.{Order, is_open_at, may_overlap}
use Rattle.zone_stretches.specs.Stretches.{StretchView}

-- ---- one run

alike : (s t : Bool) → (s ≡ true → t ≡ true) → (t ≡ true → s ≡ true) → s ≡ t
alike true t to from = sym (to refl)
alike false true to from = from refl
alike false false to from = refl

same_name : (e f : EventId) → is_same_event e f ≡ true → e ≡ f
same_name e f same =
    let one = and_parts (e.step == f.step) ((e.channel == f.channel) && (if e.go then f.go else not f.go)) same in
    let two = and_parts (e.channel == f.channel) (if e.go then f.go else not f.go) one.1 in
    ap (λ (i : ℕ). record { step = i; channel = e.channel; go = e.go }) (eqb-true e.step f.step one.0)
    ∙ ap (λ (c : ℕ). record { step = f.step; channel = c; go = e.go }) (eqb-true e.channel f.channel two.0)
    ∙ ap (λ (g : Bool). record { step = f.step; channel = f.channel; go = g }) (same_bit e.go f.go two.1)
  where
    same_bit : (s t : Bool) → (if s then t else not t) ≡ true → s ≡ t
    same_bit true t is = sym is
    same_bit false true is = absurd cc
    same_bit false false is = refl

name_itself : (e : EventId) → is_same_event e e ≡ true
name_itself e = rw (eq-eqb e.step e.step refl, eq-eqb e.channel e.channel refl) (itself e.go)
  where
    itself : (t : Bool) → (if t then t else not t) ≡ true
    itself true = refl
    itself false = refl

or_left : (s t : Bool) → s ≡ true → (s || t) ≡ true
or_left true t on = refl
or_left false t on = absurd cc

or_right : (s t : Bool) → t ≡ true → (s || t) ≡ true
or_right true t on = refl
or_right false t on = on

-- an event is another or before it where the other counts it
module _ (b : Board) (moves : List Move) (before : Order) (order : IsOrderOf b moves before) where
  order_told : (e own f : EventId) → IsLowestName b moves e → AreOne b moves e own → IsLowestName b moves f
      → (is_same_event e f || before e f) ≡ nat_le (row (course_of b moves) e own.channel) (row (course_of b moves) f own.channel)
  order_told e own f low one high = alike (is_same_event e f || before e f) (nat_le (row (course_of b moves) e own.channel) (row (course_of b moves) f own.channel)) to from
    where
      to : (is_same_event e f || before e f) ≡ true → nat_le (row (course_of b moves) e own.channel) (row (course_of b moves) f own.channel) ≡ true
      to on = le-leb (row (course_of b moves) e own.channel) (row (course_of b moves) f own.channel) (elim (or_cases (is_same_event e f) (before e f) on) [
        | inl same ↦ let is : e ≡ f = same_name e f same in let counts = ap (λ (d : EventId). row (course_of b moves) d own.channel) is in omega (arith, counts)
        | inr earlier ↦ (before_to (course_of b moves) e f own.channel (order_in b moves e f ((order e f low high).0 earlier))).0
      ])

      from : nat_le (row (course_of b moves) e own.channel) (row (course_of b moves) f own.channel) ≡ true → (is_same_event e f || before e f) ≡ true
      from counted = elim (cases_Bool (is_same_event e f)) [
        | inl same ↦ or_left (is_same_event e f) (before e f) same
        | inr apart ↦
            let not_one : AreOne b moves e f → ⊥ = λ same. no_truth (is_same_event e f) (ap (is_same_event e) (sym (has_one_lowest_name b moves e f low high same)) ∙ name_itself e) apart in
            let inside = event_within b moves own one.second in
            let own_not : AreOneIn (course_of b moves) own f → ⊥ = λ same. not_one ((are_one_alike b moves e own f).onwards one (one_from b moves own f inside same)) in
            let least : row (course_of b moves) e own.channel ≤ row (course_of b moves) f own.channel = leb-true (row (course_of b moves) e own.channel) (row (course_of b moves) f own.channel) counted in
            let same_row = one_row (course_of b moves) e own (one_in b moves e own one) in
            let at_own = same_row own.channel in
            let path = before_from (course_of b moves) own f (event_in b moves own one.second) (event_in b moves f high.event) (omega (arith, least, at_own)) own_not in
            let more = (before_to (course_of b moves) own f e.channel path).0 in
            let at_low = same_row e.channel in
            let e_not : AreOneIn (course_of b moves) e f → ⊥ = λ same. not_one (one_from b moves e f (event_within b moves e low.event) same) in
            or_right (is_same_event e f) (before e f)
            ((order e f low high).1 (order_from b moves e f (event_within b moves f high.event)
            (before_from (course_of b moves) e f (event_in b moves e low.event) (event_in b moves f high.event) (omega (arith, more, at_low)) e_not)))
      ]

-- ---- two runs

-- two names of one event: it is an event of one channel, and counts as many events of each channel
pub record AreAlikeNames (b : Board) (ms ns : List Move) (e f : EventId) : Type 0 where
  pub own : EventId
  pub other : EventId
  pub one : AreOne b ms e own
  pub two : AreOne b ns f other
  pub channel : own.channel ≡ other.channel
  pub rows : (x : ℕ) → row (course_of b ms) e x ≡ row (course_of b ns) f x
  pub low : IsLowestName b ms e
  pub high : IsLowestName b ns f

abbrev pub AreAlikeEnds : Board → List Move → List Move → Option EventId → Option EventId → Type 0
AreAlikeEnds b ms ns None None = Unit {0}
AreAlikeEnds b ms ns (Some e) (Some f) = AreAlikeNames b ms ns e f
AreAlikeEnds b ms ns e f = ⊥

module _ (b : Board) (ms ns : List Move) (before after : Order) (order : IsOrderOf b ms before) (other : IsOrderOf b ns after) where
  tests_alike : (e f same_e same_f : EventId) → AreAlikeNames b ms ns e same_e → AreAlikeNames b ms ns f same_f → (is_same_event e f || before e f) ≡ (is_same_event same_e same_f || after same_e same_f)
  tests_alike e f same_e same_f one two =
      order_told b ms before order e one.own f one.low one.one two.low
      ∙ ap₂ nat_le (one.rows one.own.channel) (two.rows one.own.channel)
      ∙ ap (λ (c : ℕ). nat_le (row (course_of b ns) same_e c) (row (course_of b ns) same_f c)) one.channel
      ∙ sym (order_told b ns after other same_e one.other same_f one.high one.two two.high)

  open_alike : (last first same_last same_first : Option EventId) → AreAlikeEnds b ms ns last same_last → AreAlikeEnds b ms ns first same_first → is_open_at before last first ≡ is_open_at after same_last same_first
  open_alike None first None same_first one two = refl
  open_alike None first (Some l) same_first one two = absurd one
  open_alike (Some l) first None same_first one two = absurd one
  open_alike (Some l) None (Some k) None one two = refl
  open_alike (Some l) None (Some k) (Some f) one two = absurd two
  open_alike (Some l) (Some f) (Some k) None one two = absurd two
  open_alike (Some l) (Some f) (Some k) (Some g) one two = ap not (tests_alike l f k g one two)

  pub overlaps_alike : (left right same_left same_right : StretchView)
      → AreAlikeEnds b ms ns left.first same_left.first → AreAlikeEnds b ms ns left.last same_left.last
      → AreAlikeEnds b ms ns right.first same_right.first → AreAlikeEnds b ms ns right.last same_right.last → may_overlap before left right ≡ may_overlap after same_left same_right
  unfolding may_overlap
  overlaps_alike left right same_left same_right left_first left_last right_first right_last =
      ap₂ (λ (s t : Bool). s && t) (open_alike left.last right.first same_left.last same_right.first left_last right_first)
      (open_alike right.last left.first same_right.last same_left.first right_last left_first)
