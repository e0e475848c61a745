-- The least of several sets of races.
use Rattle.order_clocks.specs.declared.events.TheConstants.{EVENT_PLACES}
use Rattle.std.proofs.Common.{◌≡◌, ℕ, ◌+◌, ◌⊎◌, ◌↔◌, ◌==◌, Bool, true, false, inl, inr, List, Option, Some, None, IsTrue, MatchOption, slice_index_or, refl, sym, ◌∙◌, arith}
use Rattle.std.proofs.lemmas.Bool.{cases_lt, eq-eqb, true≢false}
use Rattle.axis_sets.specs.Sets.{has}
use Rattle.order_clocks.specs.Pairs.{IsLeastOf, IsLeastWith, IsUnordered, IsMet, IsApartPair, AreUnlike, IsUnlikePair, IsWaitingPair, IsPairRace, IsRaceOver, IsRaceBetween}
use Rattle.order_clocks.specs.RaceOrder.{IsUpTo, numbers_of, letter_a, letter_b, letter_c, letter_d, letter_e, letter_f, letter_g}
use Rattle.order_clocks.specs.TracedRaces.{Trace, Lowered, Needed, Took, Touched, shown}
use Rattle.order_clocks.specs.declared.events.Event.{Event}
use Rattle.order_clocks.specs.declared.pairs.RaceTiming.{RaceTiming}
use Rattle.order_clocks.proofs.LeastLaws.{up_to_itself, up_to_on}
use Rattle.sync_types.specs.declared.runs.Race.{Race}

pub least_none : (some : Race → Type 0) (old : Option Race) → ((q : Race) → some q → ⊥) → IsLeastWith some old old
least_none some old none = record {
  from = λ r e. inr e;
  least = λ q e. elim e [ inl s ↦ absurd (none q s) | inr o ↦ (q, (o, up_to_itself (numbers_of q))) ];
}

pub least_both : (one two all : Race → Type 0) (old mid new : Option Race) → ((q : Race) → all q → one q ⊎ two q) → ((q : Race) → one q ⊎ two q → all q)
    → IsLeastWith one old mid → IsLeastWith two mid new → IsLeastWith all old new
least_both one two all old mid new split join first second = record {
  from = λ r e. elim (second.from r e) [
    | inl t ↦ inl (join r (inr t))
    | inr m ↦ elim (first.from r m) [ inl s ↦ inl (join r (inl s)) | inr o ↦ inr o ]
  ];
  least = λ q e. by_case q e;
}
  where
    through : (q m : Race) → mid ≡ Some m → IsUpTo (numbers_of m) (numbers_of q) → (r : Race) × ((new ≡ Some r) × IsUpTo (numbers_of r) (numbers_of q))
    through q m e up =
        let w = second.least m (inr e) in
        (w.0, (w.1.0, up_to_on (numbers_of w.0) (numbers_of m) (numbers_of q) w.1.1 up))

    by_first : (q : Race) → one q ⊎ (old ≡ Some q) → (r : Race) × ((new ≡ Some r) × IsUpTo (numbers_of r) (numbers_of q))
    by_first q e = let w = first.least q e in through q w.0 w.1.0 w.1.1

    by_case : (q : Race) → all q ⊎ (old ≡ Some q) → (r : Race) × ((new ≡ Some r) × IsUpTo (numbers_of r) (numbers_of q))
    by_case q (inr o) = by_first q (inr o)
    by_case q (inl a) = elim (split q a) [ inl s ↦ by_first q (inl s) | inr t ↦ second.least q (inl t) ]

pub least_lesser : (some : Race → Type 0) (old new : Option Race) (race : Race) → ((q : Race) → some q ↔ (q ≡ race)) → MatchOption new ⊥ (λ r. IsLeastOf old race r) → IsLeastWith some old new
least_lesser some old None race same given = absurd given
least_lesser some old (Some n) race same given = record {
  from = λ r e. let is : n ≡ r = cc in elim given.0 [
    | inl new ↦ inl ((same r).1 (sym is ∙ new))
    | inr o ↦ inr (o ∙ e)
  ];
  least = λ q e. (n, (refl, by_case old q given.1.1 e));
}
  where
    by_case : (o : Option Race) (q : Race) → MatchOption o (Unit {0}) (λ other. IsUpTo (numbers_of n) (numbers_of other)) → some q ⊎ (o ≡ Some q) → IsUpTo (numbers_of n) (numbers_of q)
    by_case o q all (inl s) = let e : race ≡ q = sym ((same q).0 s) in rw e at given.1.0
    by_case (Some p) q all (inr e) = let is : p ≡ q = cc in rw is at all
    by_case None q all (inr e) = absurd (cc)

pub least_same : (one all : Race → Type 0) (old new : Option Race) → ((q : Race) → one q ↔ all q) → IsLeastWith one old new → IsLeastWith all old new
least_same one all old new same known = record {
  from = λ r e. elim (known.from r e) [ inl s ↦ inl ((same r).0 s) | inr o ↦ inr o ];
  least = λ q e. known.least q (elim e [ inl s ↦ inl ((same q).1 s) | inr o ↦ inr o ]);
}

-- two events
pub pair_none : (e l : Event) (old : Option Race) → (IsUnordered e l → ⊥) → IsLeastWith (IsApartPair e l) old old
pair_none e l old ordered = least_none (IsApartPair e l) old (λ q race. ordered race.apart)

abbrev Tested : Bool → Race → Race → Type 0
Tested test race q = (test ≡ true) × (q ≡ race)

pub pair_least : (e l : Event) (old a b x new : Option Race) (ta tb tx tg : Bool) (ra rb rx rg : Race) → IsUnordered e l
    → (IsTrue ta ↔ ((c m : ℕ) × IsMet e l (Lowered c m))) → (IsTrue tb ↔ ((c m : ℕ) × IsMet e l (Needed c m)))
    → (IsTrue tx ↔ ((y : ℕ) × IsMet e l (Took y))) → (IsTrue tg ↔ ((c : ℕ) × IsMet e l (Touched c)))
    → ra ≡ (record { case = letter_a; first = (e.channel, e.line); second = (l.channel, l.line) }) → rb ≡ (record { case = letter_b; first = (l.channel, l.line); second = (e.channel, e.line) })
    → rx ≡ (record { case = letter_e; first = (e.channel, e.line); second = (l.channel, l.line) }) → rg ≡ (record { case = letter_g; first = (e.channel, e.line); second = (l.channel, l.line) })
    → IsLeastWith (λ q. (ta ≡ true) × (q ≡ ra)) old a → IsLeastWith (λ q. (tb ≡ true) × (q ≡ rb)) a b → IsLeastWith (λ q. (tx ≡ true) × (q ≡ rx)) b x → IsLeastWith (λ q. (tg ≡ true) × (q ≡ rg)) x new
    → IsLeastWith (IsApartPair e l) old new
pair_least e l old a b x new ta tb tx tg ra rb rx rg apart ma mb mx mg ea eb ex eg la lb lx lg =
    let two : IsLeastWith (λ q. Tested ta ra q ⊎ Tested tb rb q) old b = least_both (λ q. Tested ta ra q) (λ q. Tested tb rb q) (λ q. Tested ta ra q ⊎ Tested tb rb q) old a b (λ q s. s) (λ q s. s) la lb in
    let three : IsLeastWith (λ q. (Tested ta ra q ⊎ Tested tb rb q) ⊎ Tested tx rx q) old x =
    least_both (λ q. Tested ta ra q ⊎ Tested tb rb q) (λ q. Tested tx rx q) (λ q. (Tested ta ra q ⊎ Tested tb rb q) ⊎ Tested tx rx q) old b x (λ q s. s) (λ q s. s) two lx in
    least_both (λ q. (Tested ta ra q ⊎ Tested tb rb q) ⊎ Tested tx rx q) (λ q. Tested tg rg q) (IsApartPair e l) old x new
    (λ q race. split q race.trace race.met race.is) (λ q s. join q s) three lg
  where
    split : (q : Race) (t : Trace) → IsMet e l t → q ≡ shown t (e.channel, e.line) (l.channel, l.line) → ((Tested ta ra q ⊎ Tested tb rb q) ⊎ Tested tx rx q) ⊎ Tested tg rg q
    split q (Lowered c m) met is = inl (inl (inl (ma.1 (c, m, met), is ∙ sym ea)))
    split q (Needed c m) met is = inl (inl (inr (mb.1 (c, m, met), is ∙ sym eb)))
    split q (Took y) met is = inl (inr (mx.1 (y, met), is ∙ sym ex))
    split q (Touched c) met is = inr (mg.1 (c, met), is ∙ sym eg)

    join : (q : Race) → ((Tested ta ra q ⊎ Tested tb rb q) ⊎ Tested tx rx q) ⊎ Tested tg rg q → IsApartPair e l q
    join q (inl (inl (inl s))) = let w = ma.0 s.0 in record { apart = apart; trace = Lowered w.0 w.1; met = w.2; is = s.1 ∙ ea }
    join q (inl (inl (inr s))) = let w = mb.0 s.0 in record { apart = apart; trace = Needed w.0 w.1; met = w.2; is = s.1 ∙ eb }
    join q (inl (inr s)) = let w = mx.0 s.0 in record { apart = apart; trace = Took w.0; met = w.1; is = s.1 ∙ ex }
    join q (inr s) = let w = mg.0 s.0 in record { apart = apart; trace = Touched w.0; met = w.1; is = s.1 ∙ eg }

-- an event with the events of a step
pub over_start : (meeting : RaceTiming) (events : List (Option Event)) (l : Event) (old : Option Race) → IsLeastWith (IsRaceOver meeting events 0 l) old old
over_start meeting events l old = least_none (IsRaceOver meeting events 0 l) old (λ q r. let w = r.within in absurd (omega arith))

pub over_skip : (meeting : RaceTiming) (events : List (Option Event)) (k : ℕ) (l : Event) (old new : Option Race) → slice_index_or events k None ≡ None → IsLeastWith (IsRaceOver meeting events k l) old new → IsLeastWith (IsRaceOver meeting events (k + 1) l) old new
over_skip meeting events k l old new none known = least_same (IsRaceOver meeting events k l) (IsRaceOver meeting events (k + 1) l) old new (λ q. (
  (λ r. let w = r.within in record { place = r.place; within = omega arith; early = r.early; there = r.there; race_of = r.race_of }),
  (λ r. elim (cases_lt r.place k) [
    | inl less ↦ record { place = r.place; within = less; early = r.early; there = r.there; race_of = r.race_of }
    | inr more ↦
        let w = r.within in
        let same : r.place ≡ k = omega arith in
        let there : slice_index_or events k None ≡ Some r.early = rw same at r.there in
        let bad : None ≡ Some r.early = sym none ∙ there in
        absurd (cc)
  ]),
)) known

pub over_step : (meeting : RaceTiming) (events : List (Option Event)) (k : ℕ) (l early : Event) (old mid new : Option Race) → slice_index_or events k None ≡ Some early
    → IsLeastWith (IsRaceOver meeting events k l) old mid → IsLeastWith (IsPairRace meeting early l) mid new → IsLeastWith (IsRaceOver meeting events (k + 1) l) old new
over_step meeting events k l early old mid new here first second = least_both (IsRaceOver meeting events k l) (IsPairRace meeting early l) (IsRaceOver meeting events (k + 1) l) old mid new
    (λ q r. elim (cases_lt r.place k) [
      | inl less ↦ inl (record { place = r.place; within = less; early = r.early; there = r.there; race_of = r.race_of })
      | inr more ↦
          let w = r.within in
          let same : r.place ≡ k = omega arith in
          let there : slice_index_or events k None ≡ Some r.early = rw same at r.there in
          let both : Some r.early ≡ Some early = sym there ∙ here in
          let is : r.early ≡ early = cc in
          inr (rw is at r.race_of)
    ])
    (λ q s. elim s [
      | inl r ↦ let w = r.within in record { place = r.place; within = omega arith; early = r.early; there = r.there; race_of = r.race_of }
      | inr p ↦ record { place = k; within = omega arith; early = early; there = here; race_of = p }
    ])
    first second

-- the events of a step with those of another
pub between_start : (meeting : RaceTiming) (earlies events : List (Option Event)) (old : Option Race) → IsLeastWith (IsRaceBetween meeting earlies events 0) old old
between_start meeting earlies events old = least_none (IsRaceBetween meeting earlies events 0) old (λ q r. let w = r.within in absurd (omega arith))

pub between_skip : (meeting : RaceTiming) (earlies events : List (Option Event)) (k : ℕ) (old new : Option Race) → slice_index_or events k None ≡ None → IsLeastWith (IsRaceBetween meeting earlies events k) old new → IsLeastWith (IsRaceBetween meeting earlies events (k + 1)) old new
between_skip meeting earlies events k old new none known = least_same (IsRaceBetween meeting earlies events k) (IsRaceBetween meeting earlies events (k + 1)) old new (λ q. (
  (λ r. let w = r.within in record { place = r.place; within = omega arith; late = r.late; there = r.there; race_of = r.race_of }),
  (λ r. elim (cases_lt r.place k) [
    | inl less ↦ record { place = r.place; within = less; late = r.late; there = r.there; race_of = r.race_of }
    | inr more ↦
        let w = r.within in
        let same : r.place ≡ k = omega arith in
        let there : slice_index_or events k None ≡ Some r.late = rw same at r.there in
        let bad : None ≡ Some r.late = sym none ∙ there in
        absurd (cc)
  ]),
)) known

pub between_step : (meeting : RaceTiming) (earlies events : List (Option Event)) (k : ℕ) (late : Event) (old mid new : Option Race) → slice_index_or events k None ≡ Some late
    → IsLeastWith (IsRaceBetween meeting earlies events k) old mid → IsLeastWith (IsRaceOver meeting earlies EVENT_PLACES late) mid new → IsLeastWith (IsRaceBetween meeting earlies events (k + 1)) old new
between_step meeting earlies events k late old mid new here first second = least_both (IsRaceBetween meeting earlies events k) (IsRaceOver meeting earlies EVENT_PLACES late) (IsRaceBetween meeting earlies events (k + 1)) old mid new
    (λ q r. elim (cases_lt r.place k) [
      | inl less ↦ inl (record { place = r.place; within = less; late = r.late; there = r.there; race_of = r.race_of })
      | inr more ↦
          let w = r.within in
          let same : r.place ≡ k = omega arith in
          let there : slice_index_or events k None ≡ Some r.late = rw same at r.there in
          let both : Some r.late ≡ Some late = sym there ∙ here in
          let is : r.late ≡ late = cc in
          inr (rw is at r.race_of)
    ])
    (λ q s. elim s [
      | inl r ↦ let w = r.within in record { place = r.place; within = omega arith; late = r.late; there = r.there; race_of = r.race_of }
      | inr p ↦ record { place = k; within = omega arith; late = late; there = here; race_of = p }
    ])
    first second

-- sets of which each test is a member of both
pub took_met : (r : Bool) (e l : Event) → (IsTrue r ↔ ((x : ℕ) × ((has e.took x ≡ true) × (has l.asks x ≡ true)))) → IsTrue r ↔ ((y : ℕ) × IsMet e l (Took y))
took_met r e l test = (
  (λ t. let w = test.0 t in (w.0, record { left = w.1.0; minded = w.1.1 })),
  (λ w. test.1 (w.0, (w.1.left, w.1.minded))),
)

pub touched_met : (r : Bool) (e l : Event) → (IsTrue r ↔ ((x : ℕ) × ((has e.touches x ≡ true) × (has l.touches x ≡ true)))) → IsTrue r ↔ ((y : ℕ) × IsMet e l (Touched y))
touched_met r e l test = (
  (λ t. let w = test.0 t in (w.0, record { left = w.1.0; minded = w.1.1 })),
  (λ w. test.1 (w.0, (w.1.left, w.1.minded))),
)

-- two that go on in one step
pub unlike_least : (e l : Event) (old new : Option Race) (test : Bool) (race : Race) → (IsTrue test ↔ AreUnlike e.needs l.needs e.channel l.channel)
    → race ≡ (record { case = letter_d; first = (l.channel, l.line); second = (e.channel, e.line) })
    → IsLeastWith (λ q. (test ≡ true) × (q ≡ race)) old new → IsLeastWith (IsUnlikePair e l) old new
unlike_least e l old new test race met is given = least_same (λ q. (test ≡ true) × (q ≡ race)) (IsUnlikePair e l) old new
    (λ q. ((λ s. record { unlike = met.0 s.0; is = s.1 ∙ is }), (λ s. (met.1 s.unlike, s.is ∙ sym is)))) given

-- an event and the wait of another channel
pub waiting_none : (e l : Event) (old : Option Race) → e.channel ≡ l.channel → IsLeastWith (IsWaitingPair e l) old old
waiting_none e l old same = least_none (IsWaitingPair e l) old (λ q race. true≢false (sym (eq-eqb e.channel l.channel same) ∙ race.other))

pub waiting_least : (e l : Event) (old mid new : Option Race) (tc tf : Bool) (rc rf : Race) → (e.channel == l.channel) ≡ false
    → (IsTrue tc ↔ ((c m : ℕ) × IsMet e l (Lowered c m))) → (IsTrue tf ↔ ((x : ℕ) × IsMet e l (Took x)))
    → rc ≡ (record { case = letter_c; first = (e.channel, e.line); second = (l.channel, l.line) }) → rf ≡ (record { case = letter_f; first = (e.channel, e.line); second = (l.channel, l.line) })
    → IsLeastWith (λ q. (tc ≡ true) × (q ≡ rc)) old mid → IsLeastWith (λ q. (tf ≡ true) × (q ≡ rf)) mid new → IsLeastWith (IsWaitingPair e l) old new
waiting_least e l old mid new tc tf rc rf other mc mf ec ef first second =
    least_both (λ q. (tc ≡ true) × (q ≡ rc)) (λ q. (tf ≡ true) × (q ≡ rf)) (IsWaitingPair e l) old mid new
    (λ q race. elim race.met [ inl s ↦ inl (mc.1 s.0, s.1 ∙ sym ec) | inr s ↦ inr (mf.1 s.0, s.1 ∙ sym ef) ])
    (λ q s. record { other = other; met = elim s [ inl a ↦ inl (mc.0 a.0, a.1 ∙ ec) | inr b ↦ inr (mf.0 b.0, b.1 ∙ ef) ] })
    first second
