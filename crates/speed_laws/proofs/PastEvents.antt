-- The events of a run that another run, which it speaks for, has made: they are a cut, and of each channel they are its first ones.
use Rattle.std.proofs.Common.{◌≡◌, ◌∙◌, ℕ, zero, suc, ◌+◌, ◌≤◌, ◌<◌, Bool, true, false, cond, ◌==◌, ◌&&◌, ◌||◌, nat_le, List, [], ◌∷◌, ◌++◌, append-nil, length, length-append, map, filter, slice_get, Option, None, Some, All, refl, sym, ap, ap₂, subst, arith}
use Rattle.std.proofs.lemmas.Bool.{eqb-true, ne_eqb, le-leb, leb-true, lt-leb}
use Rattle.std.proofs.lemmas.List.{map-append}
use Rattle.std.proofs.lemmas.List.Elements.{All-head, All-tail, filter-append}
use Rattle.std.specs.List.{list_all}
use Rattle.board_laws.specs.Machine.{Clock, State as Machine, with_value_at}
use Rattle.order_clocks.proofs.CounterLaws.{before_to, one_row}
use Rattle.order_clocks.proofs.OrderLaws.{one_in, order_in}
use Rattle.order_clocks.specs.Before.{Before}
use Rattle.order_clocks.specs.Chains.{IsIn}
use Rattle.order_clocks.specs.Clocked.{IsOrderOf}
use Rattle.order_clocks.specs.Counters.{LastRows, row}
use Rattle.order_clocks.specs.CourseOf.{course_of}
use Rattle.order_clocks.specs.Happenings.{going_of, happening_of}
use Rattle.schedule_laws.proofs.EventLaws.{count_act, count_go, events_told}
use Rattle.schedule_laws.proofs.Held.{rows_next, rows_up}
use Rattle.schedule_laws.proofs.NextTurn.{log_at}
use Rattle.schedule_laws.proofs.Prefix.{alike_at}
use Rattle.schedule_laws.proofs.RunLaws.{speaks_of_states}
use Rattle.schedule_laws.proofs.Within.{rows_within, opened_within}
use Rattle.schedule_laws.specs.EventPlaces.{act_in, going_in, event_in, events_upto, events_of}
use Rattle.schedule_laws.specs.Schedules.{IsQuietRun, IsRunOf, moves_by}
use Rattle.schedule_laws.specs.Tracked.{actor, clocks_at, clocks_in, goes_in, rows_at, rows_in}
use Rattle.speed_laws.proofs.ComparedPairs.{IsCut}
use Rattle.speed_laws.proofs.Histories.{found_in, none_in}
use Rattle.speed_laws.proofs.JoinedRuns.{moves_joined}
use Rattle.speed_laws.proofs.RunBoards.{IsRunBoard, run_board_first, run_board_step}
use Rattle.speed_laws.proofs.StepEvents.{as_goings, step_events}
use Rattle.speed_laws.specs.Cuts.{RunsAreCuts, event_count}
use Rattle.sync_types.proofs.Replays.{run_is_replay}
use Rattle.sync_types.specs.Boards.{Board, among, channel_numbers, first_board, is_this}
use Rattle.sync_types.specs.Events.{IsLowestName, actor_at, channels_in, goings_at}
use Rattle.sync_types.specs.GoingOn.{Going}
use Rattle.sync_types.specs.Runs.{Script, first_stage, moves_of, stage_after}
use Rattle.sync_types.specs.Turns.{AreOfRunning, Move, after_step, goings_in_step}
use Rattle.sync_types.specs.Views.{StartView}
use Rattle.sync_types.specs.declared.runs.EventId.{EventId}
use Rattle.zone_stretches.proofs.EventLaws.{IsTold, all_told, own_name}
use Rattle.zone_stretches.proofs.NameLaws.{listed}
use Rattle.zone_stretches.specs.Occurrences.{OccurrenceView, act_of, going_on_of, occurrences_in, occurrences_from, occurrences_of}
use Rattle.zone_stretches.specs.Overlaps.{Order}

-- ---- past events

-- an event is past where these counts have all events that its clock counts
abbrev pub is_past : Board → List Move → (ℕ → ℕ) → EventId → Bool
is_past b moves counts e = list_all (λ x. nat_le (row (course_of b moves) e x) (counts x)) channel_numbers

all_below : (f g counts : ℕ → ℕ) (xs : List ℕ) → ((x : ℕ) → f x ≤ g x) → list_all (λ x. nat_le (g x) (counts x)) xs ≡ true → list_all (λ x. nat_le (f x) (counts x)) xs ≡ true
all_below f g counts [] below all = refl
all_below f g counts (x ∷ xs) below all = by_test (nat_le (g x) (counts x)) refl all (all_below f g counts xs below)
  where
    by_test : (t : Bool) → nat_le (g x) (counts x) ≡ t → (t && list_all (λ y. nat_le (g y) (counts y)) xs) ≡ true
        → (list_all (λ y. nat_le (g y) (counts y)) xs ≡ true → list_all (λ y. nat_le (f y) (counts y)) xs ≡ true) → list_all (λ y. nat_le (f y) (counts y)) (x ∷ xs) ≡ true
    by_test false is all rest = absurd cc
    by_test true is all rest =
        let less = below x in
        let least : g x ≤ counts x = leb-true (g x) (counts x) is in
        let here : nat_le (f x) (counts x) ≡ true = le-leb (f x) (counts x) (omega (arith, less, least)) in
        rw (here, rest all) refl

-- with each of them all that are before it are past
pub past_closed : (b : Board) (moves : List Move) (counts : ℕ → ℕ) (e f : EventId) → Before b moves e f → is_past b moves counts f ≡ true → is_past b moves counts e ≡ true
past_closed b moves counts e f path over =
    all_below (row (course_of b moves) e) (row (course_of b moves) f) counts channel_numbers (λ x. (before_to (course_of b moves) e f x (order_in b moves e f path)).0) over

-- so they are a cut
pub past_is_cut : (b : Board) (moves : List Move) (counts : ℕ → ℕ) (before : Order) → IsOrderOf b moves before → IsCut before (IsLowestName b moves) (is_past b moves counts)
past_is_cut b moves counts before order e f named named' earlier over = past_closed b moves counts e f ((order e f named named').0 earlier) over

all_within : (f counts : ℕ → ℕ) (xs : List ℕ) → ((x : ℕ) → f x ≤ counts x) → list_all (λ x. nat_le (f x) (counts x)) xs ≡ true
all_within f counts [] below = refl
all_within f counts (x ∷ xs) below = rw (le-leb (f x) (counts x) (below x), all_within f counts xs below) refl

not_within : (f counts : ℕ → ℕ) (xs : List ℕ) (c : ℕ) → among xs c ≡ true → counts c < f c → list_all (λ x. nat_le (f x) (counts x)) xs ≡ false
not_within f counts [] c there above = absurd cc
not_within f counts (x ∷ xs) c there above = by_test (x == c) refl there (λ later. not_within f counts xs c later above)
  where
    stays : (t : Bool) → (t && false) ≡ false
    stays true = refl
    stays false = refl

    by_test : (t : Bool) → (x == c) ≡ t → (t || among xs c) ≡ true → (among xs c ≡ true → list_all (λ y. nat_le (f y) (counts y)) xs ≡ false) → list_all (λ y. nat_le (f y) (counts y)) (x ∷ xs) ≡ false
    by_test true is there rest =
        let same : x ≡ c = eqb-true x c is in
        let over : nat_le (f c) (counts c) ≡ false = lt-leb (f c) (counts c) above in
        let here : nat_le (f x) (counts x) ≡ false = ap (λ (y : ℕ). nat_le (f y) (counts y)) same ∙ over in
        rw here refl
    by_test false is there rest = rw (rest there) (stays (nat_le (f x) (counts x)))

-- ---- the events of a channel by their places

later : EventId → EventId
later e = record { step = suc e.step; channel = e.channel; go = e.go }

from_step : ℕ → EventId → EventId
from_step i e = record { step = i + e.step; channel = e.channel; go = e.go }

abbrev at_first : Board → Move → List Move → ℕ → List EventId
at_first b m ms c = act_in (m ∷ ms) c 0 ++ going_in b (m ∷ ms) c 0

later_act : (b : Board) (m : Move) (ms : List Move) (c n : ℕ) → act_in (m ∷ ms) c (suc n) ≡ map later (act_in ms c n)
unfolding later
later_act b m ms c n = by_test (is_this (actor_at ms n) c)
  where
    by_test : (t : Bool) → cond {A = List EventId} t (record { step = suc n; channel = c; go = false } ∷ []) [] ≡ map later (cond t (record { step = n; channel = c; go = false } ∷ []) [])
    by_test true = refl
    by_test false = refl

later_going : (b : Board) (m : Move) (ms : List Move) (c n : ℕ) → going_in b (m ∷ ms) c (suc n) ≡ map later (going_in (after_step b m.channel m.step) ms c n)
unfolding later
later_going b m ms c n = by_test (among (channels_in (goings_at (after_step b m.channel m.step) ms n)) c)
  where
    by_test : (t : Bool) → cond {A = List EventId} t (record { step = suc n; channel = c; go = true } ∷ []) [] ≡ map later (cond t (record { step = n; channel = c; go = true } ∷ []) [])
    by_test true = refl
    by_test false = refl

append_on : (xs ys zs : List EventId) → (xs ++ ys) ++ zs ≡ xs ++ (ys ++ zs)
append_on [] ys zs = refl
append_on (x ∷ xs) ys zs = ap (λ (ws : List EventId). x ∷ ws) (append_on xs ys zs)

first_then : (b : Board) (m : Move) (ms : List Move) (c n : ℕ) → events_upto b (m ∷ ms) c (suc n) ≡ at_first b m ms c ++ map later (events_upto (after_step b m.channel m.step) ms c n)
first_then b m ms c zero = sym (append-nil (at_first b m ms c))
first_then b m ms c (suc n) =
    let next = after_step b m.channel m.step in
    let old = events_upto next ms c n in
    let new = act_in ms c n ++ going_in next ms c n in
    let shifted : act_in (m ∷ ms) c (suc n) ++ going_in b (m ∷ ms) c (suc n) ≡ map later new =
    ap₂ (λ (xs ys : List EventId). xs ++ ys) (later_act b m ms c n) (later_going b m ms c n) ∙ sym (map-append later (act_in ms c n) (going_in next ms c n)) in
    ap₂ (λ (xs ys : List EventId). xs ++ ys) (first_then b m ms c n) shifted
    ∙ append_on (at_first b m ms c) (map later old) (map later new)
    ∙ ap (λ (xs : List EventId). at_first b m ms c ++ xs) (sym (map-append later old new))

shift_later : (i : ℕ) (es : List EventId) → map (from_step i) (map later es) ≡ map (from_step (suc i)) es
unfolding later from_step
shift_later i [] = refl
shift_later i (e ∷ es) =
    let past : i + suc e.step ≡ suc i + e.step = omega arith in
    ap₂ (λ (n : ℕ) (fs : List EventId). record { step = n; channel = e.channel; go = e.go } ∷ fs) past (shift_later i es)

shift_none : (es : List EventId) → map (from_step 0) es ≡ es
unfolding from_step
shift_none [] = refl
shift_none (e ∷ es) =
    let same : 0 + e.step ≡ e.step = omega arith in
    ap₂ (λ (n : ℕ) (fs : List EventId). record { step = n; channel = e.channel; go = e.go } ∷ fs) same (shift_none es)

first_names : (b : Board) (m : Move) (ms : List Move) (i c : ℕ)
    → map own_name (cond (m.channel == c) (act_of i m.step (happening_of b m.channel m.step) ∷ []) [] ++ map (going_on_of i (goings_in_step b m.channel m.step)) (as_goings (going_of (goings_in_step b m.channel m.step) c)))
    ≡ map (from_step i) (at_first b m ms c)
unfolding from_step
first_names b m ms i c =
    map-append own_name (cond (m.channel == c) (act_of i m.step (happening_of b m.channel m.step) ∷ []) []) (map (going_on_of i goings) (as_goings (going_of goings c)))
    ∙ ap₂ (λ (xs ys : List EventId). xs ++ ys) (act_named (m.channel == c) refl) (going_named (going_of goings c) refl)
    ∙ sym (map-append (from_step i) (act_in (m ∷ ms) c 0) (going_in b (m ∷ ms) c 0))
  where
    goings : List Going
    goings = goings_in_step b m.channel m.step

    there : (gs : List Going) (g : Going) → IsIn g gs → g.channel ≡ c → among (channels_in gs) c ≡ true
    there gs g within at = subst (λ (d : ℕ). among (channels_in gs) d ≡ true) at (listed gs g within)

    act_named : (t : Bool) → (m.channel == c) ≡ t → map own_name (cond (m.channel == c) (act_of i m.step (happening_of b m.channel m.step) ∷ []) []) ≡ map (from_step i) (act_in (m ∷ ms) c 0)
    act_named true is = rw is (ap₂ (λ (n d : ℕ). record { step = n; channel = d; go = false } ∷ []) (let same : i ≡ i + 0 = omega arith in same) (eqb-true m.channel c is))
    act_named false is = rw is refl

    going_named : (o : Option Going) → going_of goings c ≡ o → map own_name (map (going_on_of i goings) (as_goings (going_of goings c))) ≡ map (from_step i) (going_in b (m ∷ ms) c 0)
    going_named None e = rw (e, none_in goings c e) refl
    going_named (Some g) e =
        let f = found_in goings c g e in
        rw (e, there goings g f.0 f.1) (ap₂ (λ (n d : ℕ). record { step = n; channel = d; go = true } ∷ []) (let same : i ≡ i + 0 = omega arith in same) f.1)

names_from : (ms : List Move) (b : Board) (i c : ℕ) → AreOfRunning b ms → IsRunBoard b → map own_name (filter (λ o. o.channel == c) (occurrences_from b i ms)) ≡ map (from_step i) (events_upto b ms c (length ms))
names_from [] b i c run zs = refl
names_from (m ∷ ms) b i c run zs =
    let next = after_step b m.channel m.step in
    let rest = names_from ms next (suc i) c run.1 (run_board_step b m.channel m.step zs) in
    let here = occurrences_in i m.step (happening_of b m.channel m.step) in
    let there = occurrences_from next (suc i) ms in
    ap (map own_name) (filter-append (λ o. o.channel == c) here there)
    ∙ map-append own_name (filter (λ o. o.channel == c) here) (filter (λ o. o.channel == c) there)
    ∙ ap₂ (λ (xs ys : List EventId). xs ++ ys) (ap (map own_name) (step_events b m.channel m.step i c run.0 zs) ∙ first_names b m ms i c) (rest ∙ sym (shift_later i (events_upto next ms c (length ms))))
    ∙ sym (map-append (from_step i) (at_first b m ms c) (map later (events_upto next ms c (length ms))))
    ∙ ap (map (from_step i)) (sym (first_then b m ms c (length ms)))

-- the events of a channel, by its own name
pub own_names : (b : Board) (moves : List Move) (c : ℕ) → AreOfRunning b moves → IsRunBoard b → map own_name (filter (λ o. o.channel == c) (occurrences_of b moves)) ≡ events_of b moves c
unfolding occurrences_of
own_names b moves c run zs = names_from moves b 0 c run zs ∙ shift_none (events_upto b moves c (length moves))

event_there : (os : List OccurrenceView) (k : ℕ) (o : OccurrenceView) → slice_get os k ≡ Some o → event_in (map own_name os) k ≡ Some (own_name o)
event_there [] k o is = absurd cc
event_there (p ∷ os) zero o is = let same : p ≡ o = cc in ap (λ (q : OccurrenceView). Some (own_name q)) same
event_there (p ∷ os) (suc k) o is = event_there os k o is

pub kept_holds : (P : OccurrenceView → Type 0) (test : OccurrenceView → Bool) (os : List OccurrenceView) (k : ℕ) (o : OccurrenceView) → All P os → slice_get (filter test os) k ≡ Some o → P o
kept_holds P test [] k o all is = absurd cc
kept_holds P test (p ∷ os) k o all is = by_test (test p) k is (λ j there. kept_holds P test os j o (All-tail P p os all) there)
  where
    by_test : (t : Bool) (k : ℕ) → slice_get (cond t (p ∷ filter test os) (filter test os)) k ≡ Some o → ((j : ℕ) → slice_get (filter test os) j ≡ Some o → P o) → P o
    by_test true zero is rest = let same : p ≡ o = cc in subst P same (All-head P p os all)
    by_test true (suc k) is rest = rest k is
    by_test false k is rest = rest k is

-- the counters of an event, by any of its names
pub record PlaceTold (b : Board) (moves : List Move) (c k : ℕ) (e : EventId) : Type 0 where
  pub own : row (course_of b moves) e c ≡ suc k
  pub clock : (x : ℕ) → row (course_of b moves) e x ≡ clocks_at b moves (length moves) c (suc k) x

pub place_told : (b : Board) (moves : List Move) (c k : ℕ) (o : OccurrenceView) → AreOfRunning b moves → IsRunBoard b → slice_get (filter (λ o. o.channel == c) (occurrences_of b moves)) k ≡ Some o → PlaceTold b moves c k o.name
place_told b moves c k o run zs is =
    let told = kept_holds (IsTold b moves) (λ p. p.channel == c) (occurrences_of b moves) k o (all_told b moves run) is in
    let same = one_row (course_of b moves) o.name (own_name o) (one_in b moves o.name (own_name o) told.own) in
    let there : event_in (events_of b moves c) k ≡ Some (own_name o) =
    ap (λ (es : List EventId). event_in es k) (sym (own_names b moves c run zs)) ∙ event_there (filter (λ p. p.channel == c) (occurrences_of b moves)) k o is in
    let phase = (events_told b moves c (length moves) (omega arith)).phase in
    record {
      own = same c ∙ phase.place k (own_name o) there;
      clock = λ x. same x ∙ sym (phase.clock k (own_name o) x there);
    }

-- ---- clocks by places

unplaced : {A : Type 0} (i : ℕ) (new : A) (old : ℕ → A) (j : ℕ) → j < i → with_value_at i new old j ≡ old j
unplaced i new old j below = rw (ne_eqb j i (λ same. absurd (omega (arith, below, same)))) refl

-- no clock counts more events of a channel than there are
pub clocks_within : (b : Board) (moves : List Move) (i c j x : ℕ) → clocks_at b moves i c j x ≤ (rows_at b moves i).past x x
clocks_within b moves zero c j x = omega arith
clocks_within b moves (suc i) c j x =
    by_going (goes_in b moves i c) (by_actor (c == actor b moves i) (clocks_within b moves i c j x))
  where
    up : (rows_at b moves i).past x x ≤ (rows_at b moves (suc i)).past x x
    up = let one = rows_up b moves i x in let two = rows_next b moves i x in omega (arith, one, two)

    inner : (rows_in b moves i).past c x ≤ (rows_at b moves (suc i)).past x x
    inner = let one = (opened_within (course_of b moves) i (rows_at b moves i) (rows_within (course_of b moves) i)).past c x in let two = rows_next b moves i x in omega (arith, one, two)

    at_place : (t : Bool) (new old : Clock) (n : ℕ) → new x ≤ n → old x ≤ n → cond t new old x ≤ n
    at_place true new old n one two = one
    at_place false new old n one two = two

    by_actor : (t : Bool) → clocks_at b moves i c j x ≤ (rows_at b moves i).past x x
        → cond t (with_value_at ((rows_in b moves i).past c c) ((rows_in b moves i).past c) (clocks_at b moves i c)) (clocks_at b moves i c) j x ≤ (rows_at b moves (suc i)).past x x
    by_actor true old = at_place (j == (rows_in b moves i).past c c) ((rows_in b moves i).past c) (clocks_at b moves i c j) ((rows_at b moves (suc i)).past x x) inner (omega (arith, old, up))
    by_actor false old = omega (arith, old, up)

    by_going : (t : Bool) → clocks_in b moves i (clocks_at b moves i c) c j x ≤ (rows_at b moves (suc i)).past x x
        → cond t (with_value_at ((rows_at b moves (suc i)).past c c) ((rows_at b moves (suc i)).past c) (clocks_in b moves i (clocks_at b moves i c) c)) (clocks_in b moves i (clocks_at b moves i c) c) j x ≤ (rows_at b moves (suc i)).past x x
    by_going true mid = at_place (j == (rows_at b moves (suc i)).past c c) ((rows_at b moves (suc i)).past c) (clocks_in b moves i (clocks_at b moves i c) c j) ((rows_at b moves (suc i)).past x x) ((rows_within (course_of b moves) (suc i)).past c x) mid
    by_going false mid = mid

-- the clock of an event stays
clocks_stay : (b : Board) (moves : List Move) (i c j : ℕ) → j ≤ (rows_at b moves i).past c c → clocks_at b moves (suc i) c j ≡ clocks_at b moves i c j
clocks_stay b moves i c j below = by_going (goes_in b moves i c) refl ∙ by_actor (c == actor b moves i) refl
  where
    by_actor : (t : Bool) → (c == actor b moves i) ≡ t → cond t (with_value_at ((rows_in b moves i).past c c) ((rows_in b moves i).past c) (clocks_at b moves i c)) (clocks_at b moves i c) j ≡ clocks_at b moves i c j
    by_actor true is = let one = count_act b moves i c (sym (eqb-true c (actor b moves i) is)) in unplaced ((rows_in b moves i).past c c) ((rows_in b moves i).past c) (clocks_at b moves i c) j (omega (arith, one, below))
    by_actor false is = refl

    by_going : (t : Bool) → goes_in b moves i c ≡ t
        → cond t (with_value_at ((rows_at b moves (suc i)).past c c) ((rows_at b moves (suc i)).past c) (clocks_in b moves i (clocks_at b moves i c) c)) (clocks_in b moves i (clocks_at b moves i c) c) j ≡ clocks_in b moves i (clocks_at b moves i c) c j
    by_going true is =
        let one = count_go b moves i c is in
        let up = rows_up b moves i c in
        unplaced ((rows_at b moves (suc i)).past c c) ((rows_at b moves (suc i)).past c) (clocks_in b moves i (clocks_at b moves i c) c) j (omega (arith, one, up, below))
    by_going false is = refl

pub counts_grow : (b : Board) (moves : List Move) (i k c : ℕ) → (rows_at b moves i).past c c ≤ (rows_at b moves (i + k)).past c c
counts_grow b moves i zero c = let same : i + 0 ≡ i = omega arith in subst (λ (n : ℕ). (rows_at b moves i).past c c ≤ (rows_at b moves n).past c c) (sym same) (omega arith)
counts_grow b moves i (suc k) c =
    let same : i + suc k ≡ suc (i + k) = omega arith in
    let old = counts_grow b moves i k c in
    let one = rows_up b moves (i + k) c in
    let two = rows_next b moves (i + k) c in
    subst (λ (n : ℕ). (rows_at b moves i).past c c ≤ (rows_at b moves n).past c c) (sym same) (omega (arith, old, one, two))

pub clocks_last : (b : Board) (moves : List Move) (i k c j : ℕ) → j ≤ (rows_at b moves i).past c c → clocks_at b moves (i + k) c j ≡ clocks_at b moves i c j
clocks_last b moves i zero c j below = let same : i + 0 ≡ i = omega arith in ap (λ (n : ℕ). clocks_at b moves n c j) same
clocks_last b moves i (suc k) c j below =
    let same : i + suc k ≡ suc (i + k) = omega arith in
    let grown = counts_grow b moves i k c in
    ap (λ (n : ℕ). clocks_at b moves n c j) same ∙ clocks_stay b moves (i + k) c j (omega (arith, below, grown)) ∙ clocks_last b moves i k c j below

-- ---- a run that another speaks for

module _ (script : Script) (start : StartView) (qs rs : List ℕ) (quiet : IsQuietRun script start qs) (run : IsRunOf script start rs) where
  abbrev board : Board
  board = first_board start

  -- the run that speaks, and the other one
  abbrev speaking : List Move
  speaking = moves_by script start qs

  abbrev made : List Move
  made = moves_by script start rs

  -- how many events of each channel the other has
  abbrev pub made_counts : ℕ → ℕ
  made_counts c = length (events_of (first_board start) (moves_by script start rs) c)

  counts_are : (c : ℕ) → made_counts c ≡ (rows_at board made (length made)).past c c
  counts_are c = (events_told board made c (length made) (omega arith)).count

  abbrev rest : List Move
  rest = moves_of script (stage_after script (first_stage start) rs) (speaks_of_states script start qs rs quiet run).alike.rest

  whole_is : moves_by script start (rs ++ (speaks_of_states script start qs rs quiet run).alike.rest) ≡ made ++ rest
  whole_is = moves_joined script (first_stage start) rs (speaks_of_states script start qs rs quiet run).alike.rest

  kept_rows : (c : ℕ) → (rows_at board (made ++ rest) (length made)).past c c ≡ (rows_at board made (length made)).past c c
  kept_rows c = ap (λ (s : LastRows). s.past c c) ((alike_at board made rest [] (length made) (omega arith)).rows ∙ ap (λ (ms : List Move). rows_at board ms (length made)) (append-nil made))

  kept_clocks : (c : ℕ) → clocks_at board (made ++ rest) (length made) c ≡ clocks_at board made (length made) c
  kept_clocks c = (alike_at board made rest [] (length made) (omega arith)).clocks c ∙ ap (λ (ms : List Move). clocks_at board ms (length made) c) (append-nil made)

  -- the events that both have have one clock
  clocks_are : (c j : ℕ) → j ≤ made_counts c → clocks_at board speaking (length speaking) c j ≡ clocks_at board made (length made) c j
  clocks_are c j below =
      let spoken = speaks_of_states script start qs rs quiet run in
      let count = counts_are c in
      let kept = kept_rows c in
      let whole = moves_by script start (rs ++ spoken.alike.rest) in
      ap (λ (log : ℕ → Clock). log j) (sym (log_at board speaking (length speaking) c) ∙ ap (λ (t : Machine). (t.own c).log) spoken.state ∙ log_at board whole (length whole) c)
      ∙ ap (λ (ms : List Move). clocks_at board ms (length ms) c j) whole_is
      ∙ ap (λ (n : ℕ). clocks_at board (made ++ rest) n c j) (length-append made rest)
      ∙ clocks_last board (made ++ rest) (length made) (length rest) c j (omega (arith, below, count, kept))
      ∙ ap (λ (log : ℕ → Clock). log j) (kept_clocks c)

  speaking_runs : AreOfRunning board speaking
  speaking_runs = (run_is_replay script (first_stage start) qs quiet.maximal.run).running

  told : (c k : ℕ) (o : OccurrenceView) → slice_get (filter (λ o. o.channel == c) (occurrences_of (first_board start) (moves_by script start qs))) k ≡ Some o → PlaceTold board speaking c k o.name
  told c k o is = place_told board speaking c k o speaking_runs (run_board_first start quiet.sound) is

  -- the first events of each channel are past
  pub first_are_past : (c k : ℕ) (o : OccurrenceView) → slice_get (filter (λ o. o.channel == c) (occurrences_of (first_board start) (moves_by script start qs))) k ≡ Some o → k < made_counts c
      → is_past (first_board start) (moves_by script start qs) made_counts o.name ≡ true
  first_are_past c k o is below =
      let t = told c k o is in
      all_within (row (course_of board speaking) o.name) made_counts channel_numbers (λ x.
      let one = t.clock x in
      let two = ap (λ (f : Clock). f x) (clocks_are c (suc k) (omega (arith, below))) in
      let three = clocks_within board made (length made) c (suc k) x in
      let four = counts_are x in
      omega (arith, one, two, three, four))

  -- and the others are not
  pub others_are_not : (c k : ℕ) (o : OccurrenceView) → slice_get (filter (λ o. o.channel == c) (occurrences_of (first_board start) (moves_by script start qs))) k ≡ Some o → made_counts c ≤ k → among channel_numbers c ≡ true
      → is_past (first_board start) (moves_by script start qs) made_counts o.name ≡ false
  others_are_not c k o is above there =
      let own = (told c k o is).own in
      not_within (row (course_of board speaking) o.name) made_counts channel_numbers c there (omega (arith, own, above))

-- so each run is a cut of the run that speaks for it
pub runs_are_cuts : (script : Script) (start : StartView) (qs rs : List ℕ) → RunsAreCuts script start qs rs
runs_are_cuts script start qs rs quiet run = record {
  closed = λ e f path over. past_closed (first_board start) (moves_by script start qs) (event_count script start rs) e f path over;
  first_ones = λ c k o is below. first_are_past script start qs rs quiet run c k o is below;
  no_others = λ c k o is known above. others_are_not script start qs rs quiet run c k o is above known;
}
