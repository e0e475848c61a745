-- Each run has a test that tells the order of its events: by how many events of a channel are before each.
use Rattle.std.proofs.Common.{◌≡◌, ℕ, ◌≤◌, ◌==◌, ◌&&◌, not, nat_lt, Bool, true, false, inl, inr, List, refl, ap, ◌∙◌, arith, if◌then◌else◌}
use Rattle.std.proofs.lemmas.Bool.{cases_Bool, and_parts, eqb-true, eq-eqb, ltb-false, le-ltb}
use Rattle.order_clocks.proofs.CounterLaws.{before_from, before_to, one_back, one_itself}
use Rattle.order_clocks.proofs.OrderLaws.{event_in, event_within, one_from, order_from, order_in}
use Rattle.order_clocks.specs.Before.{Before}
use Rattle.order_clocks.specs.Clocked.{IsOrderOf}
use Rattle.order_clocks.specs.Counters.{row}
use Rattle.order_clocks.specs.CourseOf.{course_of}
use Rattle.order_clocks.specs.Courses.{AreOneIn}
use Rattle.sync_types.proofs.BoardTests.{no_truth}
use Rattle.sync_types.specs.Boards.{Board}
use Rattle.sync_types.specs.Events.{AreOne, IsLowestName, is_same_event}
use Rattle.sync_types.specs.Turns.{Move}
use Rattle.sync_types.specs.declared.runs.EventId.{EventId}

-- another event, at or before which are as many events of the first one's channel as at or before the first
abbrev pub comes_before : Board → List Move → EventId → EventId → Bool
comes_before b moves e f = not (is_same_event e f) && not (nat_lt (row (course_of b moves) f e.channel) (row (course_of b moves) e e.channel))

-- ---- two names of one event

same_go : (g h : Bool) → (if g then h else not h) ≡ true → g ≡ h
same_go true true on = refl
same_go true false on = no_truth false on refl
same_go false true on = no_truth false on refl
same_go false false on = refl

go_same : (g : Bool) → (if g then g else not g) ≡ true
go_same true = refl
go_same false = refl

is_same_from : (a b : EventId) → is_same_event a b ≡ true → a ≡ b
is_same_from a b on =
    let one = and_parts (a.step == b.step) _ on in
    let two = and_parts (a.channel == b.channel) _ one.1 in
    ap (λ (s : ℕ). let e : EventId = record { step = s; channel = a.channel; go = a.go } in e) (eqb-true a.step b.step one.0)
    ∙ (ap (λ (c : ℕ). let e : EventId = record { step = b.step; channel = c; go = a.go } in e) (eqb-true a.channel b.channel two.0)
    ∙ ap (λ (g : Bool). let e : EventId = record { step = b.step; channel = b.channel; go = g } in e) (same_go a.go b.go two.1))

same_itself : (a : EventId) → is_same_event a a ≡ true
same_itself a = rw (eq-eqb a.step a.step refl, eq-eqb a.channel a.channel refl) (go_same a.go)

same_name : (b : Board) (moves : List Move) (e f : EventId) → IsLowestName b moves e → IsLowestName b moves f → AreOne b moves e f → AreOne b moves f e → e ≡ f
same_name b moves e f low_e low_f one back =
    let low = low_e.lowest f one in
    let high = low_f.lowest e back in
    let channel : e.channel ≡ f.channel = omega arith in
    ap (λ (s : ℕ). let d : EventId = record { step = s; channel = e.channel; go = e.go } in d) one.step
    ∙ (ap (λ (c : ℕ). let d : EventId = record { step = f.step; channel = c; go = e.go } in d) channel
    ∙ ap (λ (g : Bool). let d : EventId = record { step = f.step; channel = f.channel; go = g } in d) one.go)

not_true : (t : Bool) → not t ≡ true → t ≡ false
not_true true bad = no_truth false bad refl
not_true false on = refl

-- ---- the order

module _ (b : Board) (moves : List Move) (e f : EventId) (low_e : IsLowestName b moves e) (low_f : IsLowestName b moves f) where
  to_before : comes_before b moves e f ≡ true → Before b moves e f
  to_before on =
      let parts = and_parts (not (is_same_event e f)) _ on in
      let rows : row (course_of b moves) e e.channel ≤ row (course_of b moves) f e.channel =
      ltb-false (row (course_of b moves) f e.channel) (row (course_of b moves) e e.channel) (not_true _ parts.1) in
      let e_in = event_within b moves e low_e.event in
      let f_in = event_within b moves f low_f.event in
      order_from b moves e f f_in (before_from (course_of b moves) e f (event_in b moves e low_e.event) (event_in b moves f low_f.event) rows
      (λ one. no_truth (is_same_event e f)
      (rw (same_name b moves e f low_e low_f (one_from b moves e f e_in one) (one_from b moves f e f_in (one_back (course_of b moves) e f one))) (same_itself f))
      (not_true _ parts.0)))

  not_same : (AreOneIn (course_of b moves) e f → ⊥) → is_same_event e f ≡ false
  not_same apart = elim (cases_Bool (is_same_event e f)) [
    | inl on ↦ absurd (apart (rw (is_same_from e f on) (one_itself (course_of b moves) f (event_in b moves f low_f.event))))
    | inr off ↦ off
  ]

  from_before : Before b moves e f → comes_before b moves e f ≡ true
  from_before path =
      let r = before_to (course_of b moves) e f e.channel (order_in b moves e f path) in
      rw (not_same r.1, le-ltb (row (course_of b moves) f e.channel) (row (course_of b moves) e e.channel) r.0) refl

pub row_order : (b : Board) (moves : List Move) → IsOrderOf b moves (comes_before b moves)
row_order b moves e f low_e low_f = (to_before b moves e f low_e low_f, from_before b moves e f low_e low_f)
