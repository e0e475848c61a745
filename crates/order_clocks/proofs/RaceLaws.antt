-- The last event of each channel that left a trace suffices.
use Rattle.std.proofs.Common.{◌≡◌, ℕ, zero, suc, ◌*◌, ◌<◌, ◌≤◌, ◌⊎◌, ◌↔◌, ◌==◌, ◌&&◌, Bool, true, false, inl, inr, refl, sym, ◌∙◌, arith}
use Rattle.std.proofs.lemmas.Bool.{cases_Bool, eqb-true, eq-eqb, and_parts, and_from, cases_lt, true≢false}
use Rattle.order_clocks.specs.Before.{moment}
use Rattle.order_clocks.specs.Counters.{row}
use Rattle.order_clocks.specs.Courses.{Course, IsEventIn, IsBeforeIn}
use Rattle.order_clocks.specs.TracedRaces.{Trace}
use Rattle.order_clocks.specs.Steps.{act_name, go_name}
use Rattle.order_clocks.specs.Tracks.{Tracks, AreApartIn, after_act, after_goings, last_place}
use Rattle.order_clocks.proofs.CounterLaws.{order_grows, before_from, before_to}
use Rattle.sync_types.specs.Boards.{among}
use Rattle.sync_types.specs.declared.runs.EventId.{EventId}

abbrev at_name : ℕ → ℕ → Bool → EventId
at_name j c g = record { step = j; channel = c; go = g }

-- what a number says of all events of the channel before a moment that left the trace
record IsLastUpTo (run : Course) (tracks : Tracks) (c : ℕ) (t : Trace) (m last : ℕ) : Type 0 where
  bound : (j : ℕ) (g : Bool) → IsEventIn run (at_name j c g) → moment (at_name j c g) < m → tracks.leaves (at_name j c g) t ≡ true → row run (at_name j c g) c ≤ last
  origin : (last ≡ 0) ⊎ ((j : ℕ) × ((g : Bool) × (IsEventIn run (at_name j c g) × (moment (at_name j c g) < m) × (tracks.leaves (at_name j c g) t ≡ true) × (row run (at_name j c g) c ≡ last))))

-- one event more, or none
more : (run : Course) (tracks : Tracks) (c : ℕ) (t : Trace) (m last i : ℕ) (h : Bool) → IsLastUpTo run tracks c t m last → m ≡ moment (at_name i c h)
    → IsEventIn run (at_name i c h) → tracks.leaves (at_name i c h) t ≡ true → IsLastUpTo run tracks c t (suc m) (row run (at_name i c h) c)
more run tracks c t m last i h known e event leaves = record {
  bound = λ j g there early left. elim (cases_lt (moment (at_name j c g)) m) [
    | inl before ↦
        let less : moment (at_name j c g) < moment (at_name i c h) = omega arith in
        let up = (order_grows run j i c g h there event less).1 in
        omega arith
    | inr same ↦ same_row j i g h (omega arith)
  ];
  origin = inr (i, (h, (event, omega arith, leaves, refl)));
}
  where
    same_row : (j i : ℕ) (g h : Bool) → moment (at_name j c g) ≡ moment (at_name i c h) → row run (at_name j c g) c ≤ row run (at_name i c h) c
    same_row j i true true s = let k : j ≡ i = omega arith in rw k (omega arith)
    same_row j i false false s = let k : j ≡ i = omega arith in rw k (omega arith)
    same_row j i true false s = absurd (omega arith)
    same_row j i false true s = absurd (omega arith)

same : (run : Course) (tracks : Tracks) (c : ℕ) (t : Trace) (m last i : ℕ) (h : Bool) → IsLastUpTo run tracks c t m last → m ≡ moment (at_name i c h)
    → (IsEventIn run (at_name i c h) → tracks.leaves (at_name i c h) t ≡ true → ⊥) → IsLastUpTo run tracks c t (suc m) last
same run tracks c t m last i h known e none = record {
  bound = λ j g there early left. elim (cases_lt (moment (at_name j c g)) m) [
    | inl before ↦ known.bound j g there before left
    | inr here ↦ absurd (not_here j i g h (omega arith) there left none)
  ];
  origin = elim known.origin [
    | inl zero_last ↦ inl zero_last
    | inr w ↦ let early = w.1.1.1 in inr (w.0, (w.1.0, (w.1.1.0, omega arith, w.1.1.2, w.1.1.3)))
  ];
}
  where
    not_here : (j i : ℕ) (g h : Bool) → moment (at_name j c g) ≡ moment (at_name i c h) → IsEventIn run (at_name j c g) → tracks.leaves (at_name j c g) t ≡ true
        → (IsEventIn run (at_name i c h) → tracks.leaves (at_name i c h) t ≡ true → ⊥) → ⊥
    not_here j i true true s there left never = let k : j ≡ i = omega arith in never (rw k at there) (rw k at left)
    not_here j i false false s there left never = let k : j ≡ i = omega arith in never (rw k at there) (rw k at left)
    not_here j i true false s there left never = absurd (omega arith)
    not_here j i false true s there left never = absurd (omega arith)

last_known : (run : Course) (tracks : Tracks) (c : ℕ) (t : Trace) (i : ℕ) → IsLastUpTo run tracks c t (2 * i) (last_place run tracks c t i)
last_known run tracks c t zero = record { bound = λ j g there early left. absurd (omega arith); origin = inl refl }
last_known run tracks c t (suc i) =
    let old = last_known run tracks c t i in
    let mid : IsLastUpTo run tracks c t (suc (2 * i)) (after_act run tracks c t i (last_place run tracks c t i)) =
    elim (cases_Bool ((run.actor i == c) && tracks.leaves (act_name i c) t)) [
      | inl on ↦
          let parts = and_parts (run.actor i == c) (tracks.leaves (act_name i c) t) on in
          rw on (more run tracks c t (2 * i) (last_place run tracks c t i) i false old (omega arith) (eqb-true (run.actor i) c parts.0) parts.1)
      | inr off ↦ rw off (same run tracks c t (2 * i) (last_place run tracks c t i) i false old (omega arith)
          (λ event leaves. true≢false (sym (and_from (run.actor i == c) (tracks.leaves (act_name i c) t) (eq-eqb (run.actor i) c event) leaves) ∙ off)))
    ] in
    let new : IsLastUpTo run tracks c t (suc (suc (2 * i))) (after_goings run tracks c t i (after_act run tracks c t i (last_place run tracks c t i))) =
    elim (cases_Bool (among (run.goers i) c && tracks.leaves (go_name i c) t)) [
      | inl on ↦
          let parts = and_parts (among (run.goers i) c) (tracks.leaves (go_name i c) t) on in
          rw on (more run tracks c t (suc (2 * i)) (after_act run tracks c t i (last_place run tracks c t i)) i true mid (omega arith) parts.0 parts.1)
      | inr off ↦ rw off (same run tracks c t (suc (2 * i)) (after_act run tracks c t i (last_place run tracks c t i)) i true mid (omega arith)
          (λ event leaves. true≢false (sym (and_from (among (run.goers i) c) (tracks.leaves (go_name i c) t) event leaves) ∙ off)))
    ] in
    let e : suc (suc (2 * i)) ≡ 2 * suc i = omega arith in
    rw e at new

-- some event of the channel is apart from the later one exactly where the last one's place is not counted
pub last_suffices : (run : Course) (tracks : Tracks) (late : EventId) (c : ℕ) (t : Trace) → IsEventIn run late → (c == late.channel) ≡ false → tracks.minds late t ≡ true
    → (row run late c < last_place run tracks c t late.step) ↔ ((early : EventId) × ((early.channel ≡ c) × AreApartIn run tracks early late t))
last_suffices run tracks late c t event other minds = (to, back)
  where
    to : row run late c < last_place run tracks c t late.step → (early : EventId) × ((early.channel ≡ c) × AreApartIn run tracks early late t)
    to h = elim (last_known run tracks c t late.step).origin [
      | inl none ↦ absurd (omega arith)
      | inr w ↦
          let early = w.1.1.1 in
          let is = w.1.1.3 in (
            at_name w.0 c w.1.0,
            (
              refl,
              record {
                first = w.1.1.0;
                second = event;
                step = within w.0 w.1.0 early;
                channels = other;
                left = w.1.1.2;
                minded = minds;
                unordered = λ path. let up = (before_to run (at_name w.0 c w.1.0) late c path).0 in absurd (omega arith);
              },
            ),
          )
    ]
      where
        within : (j : ℕ) (g : Bool) → moment (at_name j c g) < 2 * late.step → j < late.step
        within j true e = omega arith
        within j false e = omega arith

    back : ((early : EventId) × ((early.channel ≡ c) × AreApartIn run tracks early late t)) → row run late c < last_place run tracks c t late.step
    back w =
        let a = w.1.1 in
        let e : w.0.channel ≡ c = w.1.0 in
        let lower = a.step in
        let there : IsEventIn run (at_name w.0.step c w.0.go) = rw e at a.first in
        let left : tracks.leaves (at_name w.0.step c w.0.go) t ≡ true = rw e at a.left in
        let up = (last_known run tracks c t late.step).bound w.0.step w.0.go there (within w.0.step w.0.go lower) left in
        elim (cases_lt (row run late c) (last_place run tracks c t late.step)) [
          | inl h ↦ h
          | inr h ↦
              let path : IsBeforeIn run (at_name w.0.step c w.0.go) late = before_from run (at_name w.0.step c w.0.go) late there event (omega arith) (λ one. let same_step = one.step in absurd (omega arith)) in
              absurd (a.unordered (rw (sym e) at path))
        ]
      where
        within : (j : ℕ) (g : Bool) → j < late.step → moment (at_name j c g) < 2 * late.step
        within j true h = omega arith
        within j false h = omega arith
