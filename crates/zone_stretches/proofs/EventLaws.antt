-- The events of a run in order: of which step each is, and which come later.
use Rattle.axis_sets.specs.declared.limits.TheConstants.{CHANNEL_LIMIT}
use Rattle.std.proofs.Common.{◌≡◌, ◌⊎◌, ◌∙◌, inl, inr, ℕ, zero, suc, ◌+◌, ◌*◌, ◌<◌, ◌≤◌, ◌==◌, ◌||◌, Bool, true, false, cond, List, [], ◌∷◌, ◌++◌, map, length, filter, Option, None, Some, All, refl, sym, ap, subst, arith}
use Rattle.std.specs.Prelude.{⊤, is_some}
use Rattle.std.specs.List.{range_with_len}
use Rattle.std.proofs.lemmas.Bool.{eq-eqb}
use Rattle.std.proofs.lemmas.List.Elements.{All-nil, All-cons, All-append, All-map, All-weaker}
use Rattle.axis_sets.specs.Sets.{has}
use Rattle.order_clocks.specs.Before.{moment}
use Rattle.order_clocks.specs.Chains.{IsIn}
use Rattle.order_clocks.specs.Happenings.{Freed, gives, going_of, happening_at, happening_of, rests_in, rests_on}
use Rattle.order_clocks.specs.Watching.{wait_in}
use Rattle.order_clocks.proofs.CounterLaws.{in_filter, is_in}
use Rattle.order_clocks.proofs.DepartLaws.{all_go_from, takings_take}
use Rattle.order_clocks.proofs.MemberLaws.{in_append, in_map}
use Rattle.order_clocks.proofs.ReadLaws.{started_waits}
use Rattle.order_clocks.proofs.TellLaws.{goes_from, only_one}
use Rattle.zone_stretches.proofs.NameLaws.{in_mapped, in_range, listed, low_in_step}
use Rattle.zone_stretches.specs.Occurrences.{OccurrenceView, act_of, going_on_of, occurrences_in, occurrences_from, occurrences_of}
use Rattle.sync_types.proofs.BoardTests.{no_truth}
use Rattle.sync_types.specs.BoardActions.{after_own_part, channels_started}
use Rattle.sync_types.specs.BoardAlarms.{alarm_of}
use Rattle.sync_types.specs.Boards.{Hold, AtMarks, AtEnds, AtAxes, State, IsHolding, Board, among, channel_numbers, is_running}
use Rattle.sync_types.specs.Events.{AreJoined, AreOne, IsThere}
use Rattle.sync_types.specs.GoingOn.{Going, after_goes, after_taking, all_takings, axes_asked, going_at_once, going_of_start, goers_at_once, goes_at_once, goings_on, next_taker, state_after_goes, state_after_taking, takings, takings_from, waits_for_axes}
use Rattle.sync_types.specs.Turns.{AreOfRunning, Move, after_step, goings_in_step}
use Rattle.sync_types.specs.declared.Action.{Action}
use Rattle.sync_types.specs.declared.Action.TheVariants.{Start}
use Rattle.sync_types.specs.declared.Step.{Step}
use Rattle.sync_types.specs.declared.runs.EventId.{EventId}

-- ---- what an event tells

-- an event by the channel that it is of
abbrev pub own_name : OccurrenceView → EventId
own_name o = record { step = o.name.step; channel = o.channel; go = o.name.go }

-- an event is that of its channel; an act lets go what its step gives, and takes nothing; one that goes on lets nothing go, and rests on what it takes
pub record IsTold (b : Board) (moves : List Move) (o : OccurrenceView) : Type 0 where
  pub own : AreOne b moves o.name (own_name o)
  pub frees : o.name.go ≡ false → (x : ℕ) → gives (happening_at b moves o.name.step) (Freed x) ≡ o.frees x
  pub keeps : o.name.go ≡ true → (x : ℕ) → o.frees x ≡ false
  pub goes : (x : ℕ) → o.takes x ≡ true → o.name.go ≡ true
  pub rests : (x : ℕ) → o.takes x ≡ true → IsIn (Freed x) (rests_on (going_of (happening_at b moves o.name.step).goings o.channel))

-- the same event, as one of another step
abbrev at_step : ℕ → OccurrenceView → OccurrenceView
at_step k o = record o { name = record { step = k; channel = o.name.channel; go = o.name.go } }

abbrev ToldFrom : Board → List Move → ℕ → OccurrenceView → Type 0
ToldFrom b moves i o = (k : ℕ) × (o.name.step ≡ i + k) × IsTold b moves (at_step k o)

act_told : (b : Board) (m : Move) (ms : List Move) → IsTold b (m ∷ ms) (act_of 0 m.step (happening_of b m.channel m.step))
act_told b m ms = record {
  own = record { first = refl; second = refl; step = refl; go = refl; joined = refl };
  frees = λ acts x. refl;
  keeps = λ bad. no_truth false bad refl;
  goes = λ x bad. no_truth false bad refl;
  rests = λ x bad. no_truth false bad refl;
}

-- who waits for axes rests on those that it took
axes_rest : (g : Going) (s : State) (x : ℕ) → waits_for_axes s ≡ true → among g.took x ≡ true → IsIn (Freed x) (rests_in g s)
axes_rest g (IsHolding (AtAxes from_standing axes) line) x waits on = in_map Freed x g.took (is_in g.took x on)
axes_rest g other x waits on = no_truth false waits refl

asks_waits : (s : State) (x : ℕ) → among (axes_asked s) x ≡ true → waits_for_axes s ≡ true
asks_waits (IsHolding (AtAxes from_standing axes) line) x on = refl
asks_waits other x on = no_truth false on refl

abbrev axes_in : Option (Hold × ℕ) → Bool
axes_in (Some (AtAxes from_standing axes, line)) = true
axes_in other = false

waits_in : (s : State) → waits_for_axes s ≡ axes_in (wait_in s)
waits_in (IsHolding (AtAxes from_standing axes) line) = refl
waits_in (IsHolding (AtMarks number named) line) = refl
waits_in (IsHolding (AtEnds named) line) = refl
waits_in other = refl

axes_wait : (s t : State) → wait_in s ≡ wait_in t → waits_for_axes t ≡ true → waits_for_axes s ≡ true
axes_wait s t same on = waits_in s ∙ (ap axes_in same ∙ (sym (waits_in t) ∙ on))

taker_rests : (b : Board) (c : ℕ) (step : Step) (g : Going) (x : ℕ) → is_running (b.state c) ≡ true → IsIn g (goings_in_step b c step) → among g.took x ≡ true
    → IsIn (Freed x) (rests_on (going_of (goings_in_step b c step) g.channel))
taker_rests b c step g x running within on =
    let one = only_one b c step g running within in
    let waits : waits_for_axes g.from ≡ true = asks_waits g.from x ((goes_from b c step g running within).took x on) in
    let other : waits_for_axes one.other.from ≡ true = axes_wait one.other.from g.from one.from waits in
    rw one.found (axes_rest one.other one.other.from x other (one.took x on))

going_told : (b : Board) (m : Move) (ms : List Move) (g : Going) → is_running (b.state m.channel) ≡ true → IsIn g (goings_in_step b m.channel m.step)
    → IsTold b (m ∷ ms) (going_on_of 0 (goings_in_step b m.channel m.step) g)
going_told b m ms g running within =
    let goings : List Going = goings_in_step b m.channel m.step in
    let low = low_in_step b m.channel m.step g.channel (listed goings g within) in
    record {
      own = record { first = low.there; second = listed goings g within; step = refl; go = refl; joined = low.linked };
      frees = λ bad. no_truth true refl bad;
      keeps = λ goes x. refl;
      goes = λ x on. refl;
      rests = λ x on. taker_rests b m.channel m.step g x running within on;
    }

module _ (b : Board) (m : Move) (ms : List Move) where
  later_there : (k c : ℕ) (g go : Bool) → IsThere (after_step b m.channel m.step) ms (record { step = k; channel = c; go = g }) go → IsThere b (m ∷ ms) (record { step = suc k; channel = c; go = g }) go
  later_there k c g true there = there
  later_there k c g false there = there

  later_joined : (k c d : ℕ) (g h go : Bool) → AreJoined (after_step b m.channel m.step) ms (record { step = k; channel = c; go = g }) (record { step = k; channel = d; go = h }) go
      → AreJoined b (m ∷ ms) (record { step = suc k; channel = c; go = g }) (record { step = suc k; channel = d; go = h }) go
  later_joined k c d g h true joined = joined
  later_joined k c d g h false joined = joined

  later_told : (k : ℕ) (o : OccurrenceView) → IsTold (after_step b m.channel m.step) ms (at_step k o) → IsTold b (m ∷ ms) (at_step (suc k) o)
  later_told k o told = record {
    own = record {
      first = later_there k o.name.channel o.name.go o.name.go told.own.first;
      second = later_there k o.channel o.name.go o.name.go told.own.second;
      step = refl;
      go = refl;
      joined = later_joined k o.name.channel o.channel o.name.go o.name.go o.name.go told.own.joined;
    };
    frees = told.frees;
    keeps = told.keeps;
    goes = told.goes;
    rests = told.rests;
  }

told_from : (ms : List Move) (b : Board) (i : ℕ) → AreOfRunning b ms → All (ToldFrom b ms i) (occurrences_from b i ms)
told_from [] b i running = All-nil (ToldFrom b [] i)
told_from (m ∷ ms) b i running =
    All-append (ToldFrom b (m ∷ ms) i) (occurrences_in i m.step (happening_of b m.channel m.step)) (occurrences_from (after_step b m.channel m.step) (suc i) ms)
    (All-cons (ToldFrom b (m ∷ ms) i) (act_of i m.step (happening_of b m.channel m.step)) (map (going_on_of i goings) goings)
    (0, here, act_told b m ms)
    (All-map (ToldFrom b (m ∷ ms) i) (going_on_of i goings) goings (each goings (λ g within. within))))
    (All-weaker (ToldFrom (after_step b m.channel m.step) ms (suc i)) (ToldFrom b (m ∷ ms) i)
    (λ o told. let past : o.name.step ≡ i + suc told.0 = omega (arith, told.1) in (suc told.0, past, later_told b m ms told.0 o told.2))
    (occurrences_from (after_step b m.channel m.step) (suc i) ms) (told_from ms (after_step b m.channel m.step) (suc i) running.1))
  where
    goings : List Going
    goings = goings_in_step b m.channel m.step

    here : i ≡ i + 0
    here = omega arith

    each : (gs : List Going) → ((g : Going) → IsIn g gs → IsIn g (goings_in_step b m.channel m.step)) → All (λ g. ToldFrom b (m ∷ ms) i (going_on_of i (goings_in_step b m.channel m.step) g)) gs
    each [] within = All-nil (λ g. ToldFrom b (m ∷ ms) i (going_on_of i (goings_in_step b m.channel m.step) g))
    each (g ∷ gs) within =
        All-cons (λ g. ToldFrom b (m ∷ ms) i (going_on_of i (goings_in_step b m.channel m.step) g)) g gs
        (0, (let same : i ≡ i + 0 = omega arith in same), going_told b m ms g running.0 (within g (inl refl)))
        (each gs (λ h there. within h (inr there)))

pub all_told : (b : Board) (moves : List Move) → AreOfRunning b moves → All (IsTold b moves) (occurrences_of b moves)
unfolding occurrences_of
all_told b moves running =
    All-weaker (ToldFrom b moves 0) (IsTold b moves)
    (λ o told. let same : told.0 ≡ o.name.step = omega (arith, told.1) in subst (λ (k : ℕ). IsTold b moves (at_step k o)) same told.2)
    (occurrences_from b 0 moves) (told_from moves b 0 running)

-- ---- steps

-- each step has one act, before those that go on in it
abbrev pub InSteps : ℕ → List OccurrenceView → Type 0
InSteps n [] = ⊤
InSteps n (o ∷ os) = ((o.name.go ≡ false) × (o.name.step ≡ n) × InSteps (suc n) os) ⊎ ((o.name.go ≡ true) × (suc o.name.step ≡ n) × InSteps n os)

goings_steps : (i : ℕ) (all goings : List Going) (rest : List OccurrenceView) → InSteps (suc i) rest → InSteps (suc i) (map (going_on_of i all) goings ++ rest)
goings_steps i all [] rest steps = steps
goings_steps i all (g ∷ goings) rest steps = inr (refl, refl, goings_steps i all goings rest steps)

pub in_steps : (ms : List Move) (b : Board) (i : ℕ) → InSteps i (occurrences_from b i ms)
in_steps [] b i = tt
in_steps (m ∷ ms) b i =
    let goings : List Going = goings_in_step b m.channel m.step in
    inl (refl, refl, goings_steps i goings goings (occurrences_from (after_step b m.channel m.step) (suc i) ms) (in_steps ms (after_step b m.channel m.step) (suc i)))

-- ---- a channel goes on once in a step

abbrev pub Once : List Going → Type 0
Once [] = ⊤
Once (g ∷ gs) = ((h : Going) → IsIn h gs → g.channel ≡ h.channel → ⊥) × Once gs

abbrev pub OnceIn : List ℕ → Type 0
OnceIn [] = ⊤
OnceIn (c ∷ cs) = (IsIn c cs → ⊥) × OnceIn cs

range_once : (p : ℕ → Bool) (n a : ℕ) → OnceIn (filter p (range_with_len a n))
range_once p zero a = tt
range_once p (suc n) a = by_test (p a) (range_once p n (a + 1))
  where
    by_test : (t : Bool) → OnceIn (filter p (range_with_len (a + 1) n)) → OnceIn (cond t (a ∷ filter p (range_with_len (a + 1) n)) (filter p (range_with_len (a + 1) n)))
    by_test true rest = ((λ within. let there = in_filter p (range_with_len (a + 1) n) a within in let above = in_range n (a + 1) a there.0 in absurd (omega (arith, above.0))), rest)
    by_test false rest = rest

mapped_once : (f : ℕ → Going) (cs : List ℕ) → ((c : ℕ) → (f c).channel ≡ c) → OnceIn cs → Once (map f cs)
mapped_once f [] same once = tt
mapped_once f (c ∷ cs) same once = (
  (λ h within alike. let w = in_mapped f h cs within in
      let e : c ≡ w.0 = sym (same c) ∙ (alike ∙ (ap (λ (k : Going). k.channel) w.1.1 ∙ same w.0)) in
      once.0 (subst (λ (k : ℕ). IsIn k cs) (sym e) w.1.0)),
  mapped_once f cs same once.1,
)

append_once : (gs hs : List Going) → Once gs → Once hs → ((g h : Going) → IsIn g gs → IsIn h hs → g.channel ≡ h.channel → ⊥) → Once (gs ++ hs)
append_once [] hs one two apart = two
append_once (g ∷ gs) hs one two apart = (
  (λ h within same. elim ((in_append h gs hs).0 within) [ inl left ↦ one.0 h left same | inr right ↦ apart g h (inl refl) right same ]),
  append_once gs hs one.1 two (λ k h left right. apart k h (inr left) right),
)

takings_once : (n : ℕ) (b : Board) → Once (takings n b).goings
unfolding state_after_taking
takings_once zero b = tt
takings_once (suc n) b = next (takings_once n) (next_taker b)
  where
    next : ((a : Board) → Once (takings n a).goings) → (taker : Option ℕ) → Once (takings_from (takings n) b taker).goings
    next rest None = tt
    next rest (Some c) = (
      (λ h within same.
          let t = takings_take n (after_taking b c) h within in
          let runs : waits_for_axes ((after_taking b c).state h.channel) ≡ false = rw (eq-eqb h.channel c (sym same)) refl in
          no_truth (waits_for_axes h.from) t.waits (ap waits_for_axes t.from ∙ runs)),
      rest (after_taking b c),
    )

no_wait_goes : (b : Board) (s : State) → wait_in s ≡ None → goes_at_once b s ≡ false
no_wait_goes b (IsHolding hold line) none = no_truth false (ap is_some (sym none)) refl
no_wait_goes b other none = refl

no_wait_axes : (s : State) → wait_in s ≡ None → waits_for_axes s ≡ false
no_wait_axes (IsHolding hold line) none = no_truth false (ap is_some (sym none)) refl
no_wait_axes other none = refl

pub goings_once : (b : Board) (starts : List ℕ) → OnceIn starts → ((s : ℕ) → among starts s ≡ true → wait_in (b.state s) ≡ None) → Once (goings_on b starts)
unfolding state_after_goes
goings_once b starts once started =
    append_once (map (going_of_start b) starts) (map (going_at_once b) (goers_at_once b) ++ (all_takings (after_goes b)).goings)
    (mapped_once (going_of_start b) starts (λ c. refl) once)
    (append_once (map (going_at_once b) (goers_at_once b)) (all_takings (after_goes b)).goings
    (mapped_once (going_at_once b) (goers_at_once b) (λ c. refl) (range_once (λ c. goes_at_once b (b.state c)) CHANNEL_LIMIT 1))
    (takings_once CHANNEL_LIMIT (after_goes b))
    (λ g h left right same.
    let w = in_mapped (going_at_once b) g (goers_at_once b) left in
    let there : among (goers_at_once b) h.channel ≡ true = among_in (goers_at_once b) h.channel (subst (λ (k : ℕ). IsIn k (goers_at_once b)) (sym (ap (λ (k : Going). k.channel) w.1.1) ∙ same) w.1.0) in
    let t = takings_take CHANNEL_LIMIT (after_goes b) h right in
    let runs : waits_for_axes ((after_goes b).state h.channel) ≡ false = rw there refl in
    no_truth (waits_for_axes h.from) t.waits (ap waits_for_axes t.from ∙ runs)))
    (λ g h left right same.
    let w = in_mapped (going_of_start b) g starts left in
    let none : wait_in (b.state h.channel) ≡ None = ap (λ (k : ℕ). wait_in (b.state k)) (sym same ∙ ap (λ (k : Going). k.channel) w.1.1) ∙ started w.0 (among_in starts w.0 w.1.0) in
    elim ((in_append h (map (going_at_once b) (goers_at_once b)) (all_takings (after_goes b)).goings).0 right) [
      | inl goer ↦
          let v = in_mapped (going_at_once b) h (goers_at_once b) goer in
          let on = (in_filter (λ c. goes_at_once b (b.state c)) channel_numbers v.0 v.1.0).1 in
          let here : goes_at_once b (b.state h.channel) ≡ true = ap (λ (k : ℕ). goes_at_once b (b.state k)) (ap (λ (k : Going). k.channel) v.1.1) ∙ on in
          no_truth (goes_at_once b (b.state h.channel)) here (no_wait_goes b (b.state h.channel) none)
      | inr taker ↦
          let t = takings_take CHANNEL_LIMIT (after_goes b) h taker in
          let from = all_go_from b starts h started (in_goings h right) in
          no_truth (waits_for_axes h.from) t.waits (no_wait_axes h.from (from.from ∙ none))
    ])
  where
    among_in : (xs : List ℕ) (x : ℕ) → IsIn x xs → among xs x ≡ true
    among_in [] x within = absurd within
    among_in (y ∷ ys) x (inl e) = rw (eq-eqb y x (sym e)) refl
    among_in (y ∷ ys) x (inr later) = or_second (y == x) (among ys x) (among_in ys x later)
      where
        or_second : (p q : Bool) → q ≡ true → (p || q) ≡ true
        or_second true q on = refl
        or_second false q on = on

    in_goings : (h : Going) → IsIn h (map (going_at_once b) (goers_at_once b) ++ (all_takings (after_goes b)).goings) → IsIn h (goings_on b starts)
    in_goings h within = (in_append h (map (going_of_start b) starts) (map (going_at_once b) (goers_at_once b) ++ (all_takings (after_goes b)).goings)).1 (inr within)

pub starts_once : (alarm : Option ℕ) (action : Action) → OnceIn (channels_started alarm action)
starts_once (Some code) action = tt
starts_once None (Start named) = range_once (has named) (length named) 0
starts_once None other = tt

-- ---- moments

-- events of one channel come one after another
abbrev pub AreRising : List OccurrenceView → Type 0
AreRising [] = ⊤
AreRising (o ∷ os) = All (λ p. p.channel ≡ o.channel → moment (own_name o) < moment (own_name p)) os × AreRising os

-- events of the steps from one on
steps_from : (ms : List Move) (b : Board) (i : ℕ) → All (λ p. 2 * i ≤ moment (own_name p)) (occurrences_from b i ms)
steps_from [] b i = All-nil (λ p. 2 * i ≤ moment (own_name p))
steps_from (m ∷ ms) b i =
    All-append (λ p. 2 * i ≤ moment (own_name p)) (occurrences_in i m.step (happening_of b m.channel m.step)) (occurrences_from (after_step b m.channel m.step) (suc i) ms)
    (All-cons (λ p. 2 * i ≤ moment (own_name p)) (act_of i m.step (happening_of b m.channel m.step)) (map (going_on_of i goings) goings) (omega arith)
    (All-map (λ p. 2 * i ≤ moment (own_name p)) (going_on_of i goings) goings (each goings)))
    (All-weaker (λ p. 2 * suc i ≤ moment (own_name p)) (λ p. 2 * i ≤ moment (own_name p)) (λ p up. omega (arith, up))
    (occurrences_from (after_step b m.channel m.step) (suc i) ms) (steps_from ms (after_step b m.channel m.step) (suc i)))
  where
    goings : List Going
    goings = goings_in_step b m.channel m.step

    each : (gs : List Going) → All (λ g. 2 * i ≤ moment (own_name (going_on_of i (goings_in_step b m.channel m.step) g))) gs
    each [] = All-nil (λ g. 2 * i ≤ moment (own_name (going_on_of i (goings_in_step b m.channel m.step) g)))
    each (g ∷ gs) = All-cons (λ g. 2 * i ≤ moment (own_name (going_on_of i (goings_in_step b m.channel m.step) g))) g gs (omega arith) (each gs)

goings_rising : (i : ℕ) (all goings : List Going) (rest : List OccurrenceView) → Once goings → All (λ p. 2 * suc i ≤ moment (own_name p)) rest → AreRising rest
    → AreRising (map (going_on_of i all) goings ++ rest)
goings_rising i all [] rest once later rising = rising
goings_rising i all (g ∷ goings) rest once later rising = (
  All-append (λ p. p.channel ≡ g.channel → 2 * i + 1 < moment (own_name p)) (map (going_on_of i all) goings) rest
      (All-map (λ p. p.channel ≡ g.channel → 2 * i + 1 < moment (own_name p)) (going_on_of i all) goings (others goings (λ h within. once.0 h within)))
      (All-weaker (λ p. 2 * suc i ≤ moment (own_name p)) (λ p. p.channel ≡ g.channel → 2 * i + 1 < moment (own_name p)) (λ p up same. omega (arith, up)) rest later),
  goings_rising i all goings rest once.1 later rising,
)
  where
    others : (hs : List Going) → ((h : Going) → IsIn h hs → g.channel ≡ h.channel → ⊥) → All (λ h. h.channel ≡ g.channel → 2 * i + 1 < 2 * i + 1) hs
    others [] apart = All-nil (λ h. h.channel ≡ g.channel → 2 * i + 1 < 2 * i + 1)
    others (h ∷ hs) apart =
        All-cons (λ h. h.channel ≡ g.channel → 2 * i + 1 < 2 * i + 1) h hs (λ same. absurd (apart h (inl refl) (sym same))) (others hs (λ k within. apart k (inr within)))

act_first : (i c : ℕ) (all goings : List Going) (rest : List OccurrenceView) → All (λ p. 2 * suc i ≤ moment (own_name p)) rest
    → All (λ p. p.channel ≡ c → 2 * i + 0 < moment (own_name p)) (map (going_on_of i all) goings ++ rest)
act_first i c all [] rest later = All-weaker (λ p. 2 * suc i ≤ moment (own_name p)) (λ p. p.channel ≡ c → 2 * i + 0 < moment (own_name p)) (λ p up same. omega (arith, up)) rest later
act_first i c all (g ∷ goings) rest later =
    All-cons (λ p. p.channel ≡ c → 2 * i + 0 < moment (own_name p)) (going_on_of i all g) (map (going_on_of i all) goings ++ rest) (λ same. omega arith) (act_first i c all goings rest later)

pub rising : (ms : List Move) (b : Board) (i : ℕ) → AreOfRunning b ms → AreRising (occurrences_from b i ms)
rising [] b i running = tt
rising (m ∷ ms) b i running =
    let goings : List Going = goings_in_step b m.channel m.step in
    let rest : List OccurrenceView = occurrences_from (after_step b m.channel m.step) (suc i) ms in
    let later = steps_from ms (after_step b m.channel m.step) (suc i) in (
      act_first i m.channel goings goings rest later,
      goings_rising i goings goings rest
          (goings_once (after_own_part b m.channel m.step) (channels_started (alarm_of b m.channel m.step.action) m.step.action)
          (starts_once (alarm_of b m.channel m.step.action) m.step.action) (λ s on. started_waits b m.channel m.step s running.0 on))
          later (rising ms (after_step b m.channel m.step) (suc i) running.1),
    )
