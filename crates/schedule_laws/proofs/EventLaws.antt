-- The events of a channel by their places, and their clocks.
use Rattle.std.proofs.Math.Path.{fun_ext}
use Rattle.std.proofs.Common.{◌≡◌, ℕ, zero, suc, ◌+◌, ◌≤◌, ◌<◌, ◌⊎◌, ◌==◌, Bool, true, false, List, [], ◌∷◌, ◌++◌, length, length-append, Option, Some, inl, inr, refl, sym, ap, ap₂, subst, ◌∙◌, arith, if◌then◌else◌}
use Rattle.std.proofs.lemmas.Bool.{cases_Bool, eqb-true, eq-eqb, ne_eqb, true≢false}
use Rattle.sync_types.specs.Boards.{Board, among, is_this}
use Rattle.sync_types.specs.Events.{AreOne, actor_at, goings_at, channels_in}
use Rattle.sync_types.specs.GoingOn.{Going}
use Rattle.sync_types.specs.Turns.{Move, after_step}
use Rattle.sync_types.specs.declared.runs.EventId.{EventId}
use Rattle.order_clocks.specs.Before.{Before, moment}
use Rattle.order_clocks.specs.Chains.{IsPath}
use Rattle.order_clocks.specs.Counters.{row, members, own_row}
use Rattle.order_clocks.specs.CourseOf.{course_of}
use Rattle.order_clocks.specs.Courses.{Course, IsEventIn, AreJoinedIn, AreOneIn, FollowsIn, IsBeforeIn}
use Rattle.order_clocks.proofs.CounterLaws.{opened_actor, opened_other, closed_goer, closed_other, member, contains_from, top_above, one_back, one_row, before_from, before_to, follows_later}
use Rattle.order_clocks.proofs.OrderLaws.{goings_are, one_in, one_from, order_in, order_from}
use Rattle.board_laws.specs.Machine.{Clock, with_value_at}
use Rattle.board_laws.proofs.Basics.{no}
use Rattle.schedule_laws.specs.EventPlaces.{act_in, going_in, event_in, events_upto, IsEventAt, IsSameEvent, HaveSameOrder}
use Rattle.schedule_laws.specs.Tracked.{rows_at, rows_in, actor, goes_in, clocks_in, clocks_at}
use Rattle.schedule_laws.proofs.Within.{rows_within, opened_within, own_within, own_past, go_self, act_self, top_under}
use Rattle.schedule_laws.proofs.Places.{event}

actor_is : (b : Board) (moves : List Move) (i : ℕ) → i < length moves → actor_at moves i ≡ Some (actor b moves i)
actor_is b [] i inside = absurd (omega arith)
actor_is b (m ∷ ms) zero inside = refl
actor_is b (m ∷ ms) (suc i) inside = actor_is (after_step b m.channel m.step) ms i (omega arith)

pub acts : (b : Board) (moves : List Move) (i c : ℕ) → i < length moves → is_this (actor_at moves i) c ≡ (actor b moves i == c)
acts b moves i c inside = ap (λ (o : Option ℕ). is_this o c) (actor_is b moves i inside)

pub goes : (b : Board) (moves : List Move) (i c : ℕ) → among (channels_in (goings_at b moves i)) c ≡ goes_in b moves i c
goes b moves i c = ap (λ (gs : List Going). among (channels_in gs) c) (sym (goings_are b moves i))

-- the own counter rises by one at each event
pub count_act : (b : Board) (moves : List Move) (i c : ℕ) → actor b moves i ≡ c → (rows_in b moves i).past c c ≡ suc ((rows_at b moves i).past c c)
count_act b moves i c s =
    opened_actor (course_of b moves) i (rows_at b moves i) c c s ∙ ap (λ (z : ℕ). act_row_of b moves i z) (sym s) ∙ act_self (course_of b moves) i (rows_at b moves i) ∙ ap (λ (z : ℕ). suc ((rows_at b moves i).past z z)) s
  where
    act_row_of : Board → List Move → ℕ → ℕ → ℕ
    act_row_of b moves i z = row (course_of b moves) (event i z false) z

pub count_go : (b : Board) (moves : List Move) (i c : ℕ) → goes_in b moves i c ≡ true → (rows_at b moves (suc i)).past c c ≡ suc ((rows_in b moves i).past c c)
count_go b moves i c on =
    let run = course_of b moves in
    let m = member run i c on in
    let e = closed_goer run i (rows_in b moves i) c c on in
    let l = go_self run i (rows_in b moves i) (run.group i c) c (contains_from (members run i (run.group i c)) c m) in
    let up = top_under (λ d. own_row run i (rows_in b moves i) d c) (members run i (run.group i c)) ((rows_in b moves i).past c c)
    (λ d in_it. own_within run i (rows_in b moves i) d c (opened_within run i (rows_at b moves i) (rows_within run i))) in
    let low = top_above (λ d. own_row run i (rows_in b moves i) d c) (members run i (run.group i c)) c m in
    let past = own_past run i (rows_in b moves i) c c in
    omega (arith, e, l, up, low, past)

pub nth_append : (xs ys : List EventId) (n : ℕ) (e : EventId) → event_in (xs ++ ys) n ≡ Some e → (event_in xs n ≡ Some e) ⊎ ((k : ℕ) × ((n ≡ length xs + k) × (event_in ys k ≡ Some e)))
nth_append [] ys n e on = inr (n, (omega arith, on))
nth_append (x ∷ xs) ys zero e on = inl on
nth_append (x ∷ xs) ys (suc n) e on = elim (nth_append xs ys n e on) [
  | inl l ↦ inl l
  | inr r ↦ let s = r.1.0 in inr (r.0, (omega (arith, s), r.1.1))
]

pub nth_within : (xs : List EventId) (n : ℕ) (e : EventId) → event_in xs n ≡ Some e → n < length xs
nth_within [] n e on = let bad : ⊥ = cc in absurd bad
nth_within (x ∷ xs) zero e on = omega arith
nth_within (x ∷ xs) (suc n) e on = let l = nth_within xs n e on in omega (arith, l)

pub append_none : (xs : List EventId) → xs ++ [] ≡ xs
append_none [] = refl
append_none (x ∷ xs) = ap (λ (ws : List EventId). x ∷ ws) (append_none xs)

-- the events of a channel so far, and their clocks by their places
pub record Phase (b : Board) (moves : List Move) (c : ℕ) (xs : List EventId) (log : ℕ → Clock) (limit : ℕ) : Type 0 where
  pub channel : (n : ℕ) (e : EventId) → event_in xs n ≡ Some e → e.channel ≡ c
  pub there : (n : ℕ) (e : EventId) → event_in xs n ≡ Some e → IsEventIn (course_of b moves) e
  pub early : (n : ℕ) (e : EventId) → event_in xs n ≡ Some e → e.step < limit
  pub place : (n : ℕ) (e : EventId) → event_in xs n ≡ Some e → row (course_of b moves) e c ≡ suc n
  pub clock : (n : ℕ) (e : EventId) (x : ℕ) → event_in xs n ≡ Some e → log (suc n) x ≡ row (course_of b moves) e x

pub only_one : (e f : EventId) (k : ℕ) → event_in (e ∷ []) k ≡ Some f → (k ≡ 0) × (f ≡ e)
only_one e f zero on = (refl, let s : f ≡ e = cc in s)
only_one e f (suc k) on = let bad : ⊥ = cc in absurd bad

phase_add : (b : Board) (moves : List Move) (c : ℕ) (xs : List EventId) (log : ℕ → Clock) (limit : ℕ) (new : EventId) → Phase b moves c xs log limit → new.channel ≡ c → IsEventIn (course_of b moves) new → new.step < limit
    → row (course_of b moves) new c ≡ suc (length xs) → Phase b moves c (xs ++ new ∷ []) (with_value_at (suc (length xs)) (row (course_of b moves) new) log) limit
phase_add b moves c xs log limit new w channel there early place = record {
  channel = λ n e on. either n e on (λ o. w.channel n e o) (λ s t. ap (λ (z : EventId). z.channel) t ∙ channel);
  there = λ n e on. either n e on (λ o. w.there n e o) (λ s t. subst (λ (z : EventId). IsEventIn (course_of b moves) z) (sym t) there);
  early = λ n e on. either n e on (λ o. w.early n e o) (λ s t. subst (λ (z : EventId). z.step < limit) (sym t) early);
  place = λ n e on. either n e on (λ o. w.place n e o) (λ s t. ap (λ (z : EventId). row (course_of b moves) z c) t ∙ place ∙ ap suc (sym s));
  clock = λ n e x on. either n e on
      (λ o. let l = nth_within xs n e o in kept (suc n) (suc (length xs)) (row (course_of b moves) new) log x (ne_eqb (suc n) (suc (length xs)) (λ s. absurd (omega (arith, l, s)))) ∙ w.clock n e x o)
      (λ s t. chosen (suc n) (suc (length xs)) (row (course_of b moves) new) log x (eq-eqb (suc n) (suc (length xs)) (ap suc s)) ∙ ap (λ (z : EventId). row (course_of b moves) z x) (sym t));
}
  where
    either : {P : Type 0} (n : ℕ) (e : EventId) → event_in (xs ++ new ∷ []) n ≡ Some e → (event_in xs n ≡ Some e → P) → (n ≡ length xs → e ≡ new → P) → P
    either n e on old fresh = elim (nth_append xs (new ∷ []) n e on) [
      | inl o ↦ old o
      | inr r ↦ let z = only_one new e r.0 r.1.1 in let s = r.1.0 in let t = z.0 in fresh (omega (arith, s, t)) z.1
    ]

    kept : (j i : ℕ) (f : Clock) (old : ℕ → Clock) (x : ℕ) → (j == i) ≡ false → with_value_at i f old j x ≡ old j x
    kept j i f old x off = ap (λ (t : Bool). (if t then f else old j) x) off

    chosen : (j i : ℕ) (f : Clock) (old : ℕ → Clock) (x : ℕ) → (j == i) ≡ true → with_value_at i f old j x ≡ f x
    chosen j i f old x on = ap (λ (t : Bool). (if t then f else old j) x) on

phase_wider : (b : Board) (moves : List Move) (c : ℕ) (xs : List EventId) (log : ℕ → Clock) (i : ℕ) → Phase b moves c xs log i → Phase b moves c xs log (suc i)
phase_wider b moves c xs log i w = record { channel = w.channel; there = w.there; early = λ n e on. let l = w.early n e on in omega (arith, l); place = w.place; clock = w.clock }

-- so it is after each step
pub record EventsTold (b : Board) (moves : List Move) (c i : ℕ) : Type 0 where
  pub count : length (events_upto b moves c i) ≡ (rows_at b moves i).past c c
  pub phase : Phase b moves c (events_upto b moves c i) (clocks_at b moves i c) i

pub if_true : {A : Type 0} (t : Bool) (x y : A) → t ≡ true → (if t then x else y) ≡ x
if_true t x y on = rw on refl

pub if_false : {A : Type 0} (t : Bool) (x y : A) → t ≡ false → (if t then x else y) ≡ y
if_false t x y off = rw off refl

pub eqb_back : (x y : ℕ) → (x == y) ≡ (y == x)
eqb_back x y = elim (cases_Bool (x == y)) [
  | inl on ↦ on ∙ sym (eq-eqb y x (sym (eqb-true x y on)))
  | inr off ↦ off ∙ sym (ne_eqb y x (λ e. no (eq-eqb x y (sym e)) off))
]

-- after the act
pub record ActTold (b : Board) (moves : List Move) (c i : ℕ) (xs : List EventId) : Type 0 where
  pub count : length xs ≡ (rows_in b moves i).past c c
  pub phase : Phase b moves c xs (clocks_in b moves i (clocks_at b moves i c) c) (suc i)

pub act_told : (b : Board) (moves : List Move) (c i : ℕ) → i < length moves → EventsTold b moves c i → ActTold b moves c i (events_upto b moves c i ++ act_in moves c i)
act_told b moves c i inside w = elim (cases_Bool (actor b moves i == c)) [
  | inl y ↦
      let s : actor b moves i ≡ c = eqb-true (actor b moves i) c y in
      let one : act_in moves c i ≡ event i c false ∷ [] = if_true (is_this (actor_at moves i) c) (event i c false ∷ []) [] (acts b moves i c inside ∙ y) in
      let k = w.count in
      let n = count_act b moves i c s in
      let r = opened_actor (course_of b moves) i (rows_at b moves i) c in
      let more = phase_add b moves c (events_upto b moves c i) (clocks_at b moves i c) (suc i) (event i c false) (phase_wider b moves c (events_upto b moves c i) (clocks_at b moves i c) i w.phase) refl s (omega arith)
      (sym (r c s) ∙ n ∙ ap suc (sym k)) in
      let log : with_value_at (suc (length (events_upto b moves c i))) (row (course_of b moves) (event i c false)) (clocks_at b moves i c) ≡ clocks_in b moves i (clocks_at b moves i c) c =
      ap₂ (λ (m : ℕ) (f : Clock). with_value_at m f (clocks_at b moves i c)) (ap suc k ∙ sym n) (fun_ext λ x. sym (r x s))
      ∙ sym (if_true (c == actor b moves i) (with_value_at ((rows_in b moves i).past c c) ((rows_in b moves i).past c) (clocks_at b moves i c)) (clocks_at b moves i c) (eqb_back c (actor b moves i) ∙ y)) in
      record {
        count = ap (λ (zs : List EventId). length (events_upto b moves c i ++ zs)) one ∙ length-append (events_upto b moves c i) (event i c false ∷ []) ∙ (omega (arith, k, n));
        phase = subst (λ (zs : List EventId). Phase b moves c (events_upto b moves c i ++ zs) (clocks_in b moves i (clocks_at b moves i c) c) (suc i)) (sym one)
            (subst (λ (f : ℕ → Clock). Phase b moves c (events_upto b moves c i ++ event i c false ∷ []) f (suc i)) log more);
      }
  | inr off ↦
      let none : act_in moves c i ≡ [] = if_false (is_this (actor_at moves i) c) (event i c false ∷ []) [] (acts b moves i c inside ∙ off) in
      let k = w.count in
      let r = opened_other (course_of b moves) i (rows_at b moves i) c c (eqb_back c (actor b moves i) ∙ off) in
      let log : clocks_in b moves i (clocks_at b moves i c) c ≡ clocks_at b moves i c =
      if_false (c == actor b moves i) (with_value_at ((rows_in b moves i).past c c) ((rows_in b moves i).past c) (clocks_at b moves i c)) (clocks_at b moves i c) (eqb_back c (actor b moves i) ∙ off) in
      let same : events_upto b moves c i ++ act_in moves c i ≡ events_upto b moves c i = ap (λ (zs : List EventId). events_upto b moves c i ++ zs) none ∙ append_none (events_upto b moves c i) in
      record {
        count = ap length same ∙ k ∙ sym r;
        phase = subst (λ (zs : List EventId). Phase b moves c zs (clocks_in b moves i (clocks_at b moves i c) c) (suc i)) (sym same)
            (subst (λ (f : ℕ → Clock). Phase b moves c (events_upto b moves c i) f (suc i)) (sym log) (phase_wider b moves c (events_upto b moves c i) (clocks_at b moves i c) i w.phase));
      }
]

go_told : (b : Board) (moves : List Move) (c i : ℕ) (xs : List EventId) → ActTold b moves c i xs → (length (xs ++ going_in b moves c i) ≡ (rows_at b moves (suc i)).past c c) × Phase b moves c (xs ++ going_in b moves c i) (clocks_at b moves (suc i) c) (suc i)
go_told b moves c i xs w = elim (cases_Bool (goes_in b moves i c)) [
  | inl y ↦
      let one : going_in b moves c i ≡ event i c true ∷ [] = if_true (among (channels_in (goings_at b moves i)) c) (event i c true ∷ []) [] (goes b moves i c ∙ y) in
      let k = w.count in
      let n = count_go b moves i c y in
      let r : (x : ℕ) → (rows_at b moves (suc i)).past c x ≡ row (course_of b moves) (event i c true) x = λ x. closed_goer (course_of b moves) i (rows_in b moves i) c x y in
      let more = phase_add b moves c xs (clocks_in b moves i (clocks_at b moves i c) c) (suc i) (event i c true) w.phase refl y (omega arith) (sym (r c) ∙ n ∙ ap suc (sym k)) in
      let log : with_value_at (suc (length xs)) (row (course_of b moves) (event i c true)) (clocks_in b moves i (clocks_at b moves i c) c) ≡ clocks_at b moves (suc i) c =
      ap₂ (λ (m : ℕ) (f : Clock). with_value_at m f (clocks_in b moves i (clocks_at b moves i c) c)) (ap suc k ∙ sym n) (fun_ext λ x. sym (r x))
      ∙ sym (if_true (goes_in b moves i c) (with_value_at ((rows_at b moves (suc i)).past c c) ((rows_at b moves (suc i)).past c) (clocks_in b moves i (clocks_at b moves i c) c)) (clocks_in b moves i (clocks_at b moves i c) c) y) in (
        ap (λ (zs : List EventId). length (xs ++ zs)) one ∙ length-append xs (event i c true ∷ []) ∙ omega (arith, k, n),
        subst (λ (zs : List EventId). Phase b moves c (xs ++ zs) (clocks_at b moves (suc i) c) (suc i)) (sym one) (subst (λ (f : ℕ → Clock). Phase b moves c (xs ++ event i c true ∷ []) f (suc i)) log more),
      )
  | inr off ↦
      let none : going_in b moves c i ≡ [] = if_false (among (channels_in (goings_at b moves i)) c) (event i c true ∷ []) [] (goes b moves i c ∙ off) in
      let r = closed_other (course_of b moves) i (rows_in b moves i) c c off in
      let log : clocks_at b moves (suc i) c ≡ clocks_in b moves i (clocks_at b moves i c) c =
      if_false (goes_in b moves i c) (with_value_at ((rows_at b moves (suc i)).past c c) ((rows_at b moves (suc i)).past c) (clocks_in b moves i (clocks_at b moves i c) c)) (clocks_in b moves i (clocks_at b moves i c) c) off in
      let same : xs ++ going_in b moves c i ≡ xs = ap (λ (zs : List EventId). xs ++ zs) none ∙ append_none xs in (
        ap length same ∙ w.count ∙ sym r,
        subst (λ (zs : List EventId). Phase b moves c zs (clocks_at b moves (suc i) c) (suc i)) (sym same) (subst (λ (f : ℕ → Clock). Phase b moves c xs f (suc i)) (sym log) w.phase),
      )
]

pub append_on : (xs ys zs : List EventId) → (xs ++ ys) ++ zs ≡ xs ++ (ys ++ zs)
append_on [] ys zs = refl
append_on (x ∷ xs) ys zs = ap (λ (ws : List EventId). x ∷ ws) (append_on xs ys zs)

pub events_told : (b : Board) (moves : List Move) (c i : ℕ) → i ≤ length moves → EventsTold b moves c i
events_told b moves c zero inside = record {
  count = refl;
  phase = record {
    channel = λ n e on. nothing n e on;
    there = λ n e on. nothing n e on;
    early = λ n e on. nothing n e on;
    place = λ n e on. nothing n e on;
    clock = λ n e x on. nothing n e on;
  };
}
  where
    nothing : {P : Type 0} (n : ℕ) (e : EventId) → event_in [] n ≡ Some e → P
    nothing n e on = let bad : ⊥ = cc in absurd bad
events_told b moves c (suc i) inside =
    let w = act_told b moves c i (omega (arith, inside)) (events_told b moves c i (omega (arith, inside))) in
    let r = go_told b moves c i (events_upto b moves c i ++ act_in moves c i) w in
    let same = append_on (events_upto b moves c i) (act_in moves c i) (going_in b moves c i) in
    record {
      count = ap length (sym same) ∙ r.0;
      phase = subst (λ (zs : List EventId). Phase b moves c zs (clocks_at b moves (suc i) c) (suc i)) same r.1;
    }

-- an event that is before another is earlier
path_later : (b : Board) (moves : List Move) (es : List EventId) (e f : EventId) → IsPath (FollowsIn (course_of b moves)) e es f → moment e < moment f
path_later b moves [] e f on = follows_later (course_of b moves) e f on
path_later b moves (d ∷ es) e f on = let l = follows_later (course_of b moves) e d on.0 in let r = path_later b moves es d f on.1 in omega (arith, l, r)

not_both : (b : Board) (moves : List Move) (e f : EventId) → IsBeforeIn (course_of b moves) e f → IsBeforeIn (course_of b moves) f e → ⊥
not_both b moves e f one two = let l = path_later b moves one.0 e f one.1 in let r = path_later b moves two.0 f e two.1 in absurd (omega (arith, l, r))

-- two runs whose clocks and kinds of events by places are the same have the same order
pub record SameClocks (b : Board) (ms ns : List Move) : Type 0 where
  pub count : (c : ℕ) → (rows_at b ms (length ms)).past c c ≡ (rows_at b ns (length ns)).past c c
  pub log : (c n x : ℕ) → clocks_at b ms (length ms) c n x ≡ clocks_at b ns (length ns) c n x
  pub kind : (c n : ℕ) (e same_e : EventId) → IsEventAt b ms c n e → IsEventAt b ns c n same_e → e.go ≡ same_e.go

before_too : (b : Board) (ms ns : List Move) → SameClocks b ms ns → (c n d k : ℕ) (e f same_e same_f : EventId) → IsEventAt b ms c n e → IsEventAt b ms d k f → IsEventAt b ns c n same_e → IsEventAt b ns d k same_f → Before b ms e f → Before b ns same_e same_f
before_too b ms ns same c n d k e f se sf at_e at_f at_se at_sf path =
    let mc = (events_told b ms c (length ms) (omega arith)).phase in
    let md = (events_told b ms d (length ms) (omega arith)).phase in
    let nc = (events_told b ns c (length ns) (omega arith)).phase in
    let nd = (events_told b ns d (length ns) (omega arith)).phase in
    let row_e : (x : ℕ) → row (course_of b ms) e x ≡ row (course_of b ns) se x = λ x. sym (mc.clock n e x at_e) ∙ same.log c (suc n) x ∙ nc.clock n se x at_se in
    let row_f : (x : ℕ) → row (course_of b ms) f x ≡ row (course_of b ns) sf x = λ x. sym (md.clock k f x at_f) ∙ same.log d (suc k) x ∙ nd.clock k sf x at_sf in
    let path' = order_in b ms e f path in
    let le = (before_to (course_of b ms) e f c path').0 in
    let apart = (before_to (course_of b ms) e f c path').1 in
    let channel : se.channel ≡ c = nc.channel n se at_se in
    let up : row (course_of b ns) se se.channel ≤ row (course_of b ns) sf se.channel = subst (λ (z : ℕ). row (course_of b ns) se z ≤ row (course_of b ns) sf z) (sym channel) (let l = row_e c in let r = row_f c in omega (arith, l, r, le)) in
    order_from b ns se sf (nd.early k sf at_sf) (before_from (course_of b ns) se sf (nc.there n se at_se) (nd.there k sf at_sf) up (λ one.
    let back : row (course_of b ms) f f.channel ≤ row (course_of b ms) e f.channel = let l = row_e f.channel in let r = row_f f.channel in let o = one_row (course_of b ns) se sf one f.channel in omega (arith, l, r, o) in
    not_both b ms e f path' (before_from (course_of b ms) f e (md.there k f at_f) (mc.there n e at_e) back (λ o. apart (one_back (course_of b ms) f e o)))))

pub clocks_back : (b : Board) (ms ns : List Move) → SameClocks b ms ns → SameClocks b ns ms
clocks_back b ms ns same = record { count = λ c. sym (same.count c); log = λ c n x. sym (same.log c n x); kind = λ c n e same_e at_e at_same. sym (same.kind c n same_e e at_same at_e) }

event_back : (b : Board) (ms ns : List Move) (e same_e : EventId) → IsSameEvent b ms ns e same_e → IsSameEvent b ns ms same_e e
event_back b ms ns e same_e one = record { channel = one.channel; place = one.place; in_one = one.in_other; in_other = one.in_one }

-- whether two names are of one event can be told
numbers_cases : (x y : ℕ) → (x ≡ y) ⊎ (x ≡ y → ⊥)
numbers_cases x y = elim (cases_Bool (x == y)) [ inl on ↦ inl (eqb-true x y on) | inr off ↦ inr (λ e. no (eq-eqb x y e) off) ]

kinds_cases : (s t : Bool) → (s ≡ t) ⊎ (s ≡ t → ⊥)
kinds_cases true true = inl refl
kinds_cases true false = inr (λ e. true≢false e)
kinds_cases false true = inr (λ e. true≢false (sym e))
kinds_cases false false = inl refl

joined_cases : (run : Course) (a d : EventId) (go : Bool) → AreJoinedIn run a d go ⊎ (AreJoinedIn run a d go → ⊥)
joined_cases run a d true = numbers_cases (run.group a.step a.channel) (run.group d.step d.channel)
joined_cases run a d false = numbers_cases a.channel d.channel

one_cases : (run : Course) (a d : EventId) → IsEventIn run a → IsEventIn run d → AreOneIn run a d ⊎ (AreOneIn run a d → ⊥)
one_cases run a d at_a at_d = elim (numbers_cases a.step d.step) [
  | inr off ↦ inr (λ one. off one.step)
  | inl step ↦ elim (kinds_cases a.go d.go) [
    | inr off ↦ inr (λ one. off one.go)
    | inl go ↦ elim (joined_cases run a d a.go) [
      | inr off ↦ inr (λ one. off one.joined)
      | inl joined ↦ inl (record { first = at_a; second = at_d; step = step; go = go; joined = joined })
    ]
  ]
]

-- two names are of one event where each clock counts the other
one_too : (b : Board) (ms ns : List Move) → SameClocks b ms ns → (e f same_e same_f : EventId) → IsSameEvent b ms ns e same_e → IsSameEvent b ms ns f same_f → AreOne b ms e f → AreOne b ns same_e same_f
one_too b ms ns same e f se sf at_e at_f one =
    let run = course_of b ns in
    let mc = (events_told b ms at_e.channel (length ms) (omega arith)).phase in
    let md = (events_told b ms at_f.channel (length ms) (omega arith)).phase in
    let nc = (events_told b ns at_e.channel (length ns) (omega arith)).phase in
    let nd = (events_told b ns at_f.channel (length ns) (omega arith)).phase in
    let counts : (x : ℕ) → row run se x ≡ row run sf x =
    λ x. sym (nc.clock at_e.place se x at_e.in_other) ∙ sym (same.log at_e.channel (suc at_e.place) x) ∙ mc.clock at_e.place e x at_e.in_one
    ∙ one_row (course_of b ms) e f (one_in b ms e f one) x
    ∙ sym (md.clock at_f.place f x at_f.in_one) ∙ same.log at_f.channel (suc at_f.place) x ∙ nd.clock at_f.place sf x at_f.in_other in
    let there_e = nc.there at_e.place se at_e.in_other in
    let there_f = nd.there at_f.place sf at_f.in_other in
    let up : row run se se.channel ≤ row run sf se.channel = let s = counts se.channel in omega (arith, s) in
    let back : row run sf sf.channel ≤ row run se sf.channel = let s = counts sf.channel in omega (arith, s) in
    elim (one_cases run se sf there_e there_f) [
      | inl are ↦ one_from b ns se sf (nc.early at_e.place se at_e.in_other) are
      | inr apart ↦ absurd (not_both b ns se sf (before_from run se sf there_e there_f up apart) (before_from run sf se there_f there_e back (λ o. apart (one_back run sf se o))))
    ]

pub same_order : (b : Board) (ms ns : List Move) → SameClocks b ms ns → HaveSameOrder b ms ns
same_order b ms ns same = record {
  events = λ c. (events_told b ms c (length ms) (omega arith)).count ∙ same.count c ∙ sym (events_told b ns c (length ns) (omega arith)).count;
  kind = λ e se at_e. same.kind at_e.channel at_e.place e se at_e.in_one at_e.in_other;
  one = λ e f se sf at_e at_f. (
    one_too b ms ns same e f se sf at_e at_f,
    one_too b ns ms (clocks_back b ms ns same) se sf e f (event_back b ms ns e se at_e) (event_back b ms ns f sf at_f),
  );
  before = λ e f se sf at_e at_f. (
    before_too b ms ns same at_e.channel at_e.place at_f.channel at_f.place e f se sf at_e.in_one at_f.in_one at_e.in_other at_f.in_other,
    before_too b ns ms (clocks_back b ms ns same) at_e.channel at_e.place at_f.channel at_f.place se sf e f at_e.in_other at_f.in_other at_e.in_one at_f.in_one,
  );
}
