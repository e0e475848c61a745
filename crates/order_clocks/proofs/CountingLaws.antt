-- The counters of all steps.
use Rattle.axis_sets.specs.declared.limits.TheConstants.{AXIS_LIMIT, CHANNEL_PLACES}
use Rattle.std.proofs.Common.{◌≡◌, ℕ, ◌+◌, ◌^◌, ◌<◌, Bool, true, false, inl, inr, List, [], filter, length, slice_index, slice_index_or, replicate, refl, sym, ap, ◌∙◌, arith, if◌then◌else◌}
use Rattle.order_clocks.specs.Happenings.{Key, Raised, Freed, Started, Ended}
use Rattle.std.proofs.lemmas.Bool.{cases_lt, lt-ltb}
use Rattle.std.proofs.lemmas.List.{get_or-replicate, get_or_past, length-replicate}
use Rattle.std.specs.List.{range_with_len}
use Rattle.sync_types.specs.Boards.{among}
use Rattle.order_clocks.specs.Courses.{Course, IsEventIn}
use Rattle.order_clocks.specs.Counters.{last_rows, row}
use Rattle.axis_sets.specs.Sets.{has}
use Rattle.counter_rows.specs.Rows.{count_of}
use Rattle.counter_rows.specs.Tables.{TableView, act_in, go_in, row_at as table_row}
use Rattle.order_clocks.specs.Steps.{gives_of, keys_of, row_at, Shows, HasRoom, AreRows, AreSteps, deed_at}
use Rattle.order_clocks.specs.Tells.{Tells}
use Rattle.counter_rows.specs.declared.table.StepClocks.{StepClocks}
use Rattle.step_deeds.specs.declared.deed.StepEvents.{StepEvents}
use Rattle.order_clocks.specs.declared.times.LastClocks.{LastClocks}
use Rattle.order_clocks.proofs.BoundLaws.{seen_below}
use Rattle.order_clocks.proofs.GoRowLaws.{listed, unlisted}
use Rattle.step_deeds.proofs.HoldLaws.{past_gone}
use Rattle.step_deeds.specs.Holds.{departure_of, goes_in}

-- rows of no event
pub zero_row : (n c x : ℕ) (row : List ℕ) → ((y : ℕ) → count_of row y ≡ 0) → count_of (slice_index_or (replicate n row) c []) x ≡ 0
zero_row n c x row none = elim (cases_lt c n) [
  | inl below ↦ ap (λ (r : List ℕ). count_of r x) (get_or-replicate n c row [] below) ∙ none x
  | inr past ↦ ap (λ (r : List ℕ). count_of r x) (get_or_past (replicate n row) c [] (let e = length-replicate n row in omega arith))
]

pub zero_at : (t : LastClocks) (row : List ℕ) → ((y : ℕ) → count_of row y ≡ 0)
    → ((m c x : ℕ) → count_of (slice_index_or (slice_index_or t.raised m []) c []) x ≡ 0) → t.freed ≡ replicate AXIS_LIMIT row → t.started ≡ replicate CHANNEL_PLACES row → t.ended ≡ replicate CHANNEL_PLACES row
    → (k : Key) (x : ℕ) → count_of (row_at t k) x ≡ 0
zero_at t row none raised freed started ended (Raised c m) x = raised m c x
zero_at t row none raised freed started ended (Freed a) x = ap (λ (r : List (List ℕ)). count_of (slice_index_or r a []) x) freed ∙ zero_row AXIS_LIMIT a x row none
zero_at t row none raised freed started ended (Started c) x = ap (λ (r : List (List ℕ)). count_of (slice_index_or r c []) x) started ∙ zero_row CHANNEL_PLACES c x row none
zero_at t row none raised freed started ended (Ended c) x = ap (λ (r : List (List ℕ)). count_of (slice_index_or r c []) x) ended ∙ zero_row CHANNEL_PLACES c x row none

-- the run of the deeds themselves
pub run_of : List StepEvents → Course
run_of deeds = record {
  actor = λ i. (deed_at deeds i).channel;
  gives = λ i k. gives_of (deed_at deeds i) k;
  goers = λ i. filter (goes_in (deed_at deeds i)) (range_with_len 0 (length (deed_at deeds i).goes));
  asks = λ i c. keys_of c (departure_of (deed_at deeds i) c);
  group = λ i c. slice_index (deed_at deeds i).group c;
}

goers_are : (deed : StepEvents) (c : ℕ) → among (filter (goes_in deed) (range_with_len 0 (length deed.goes))) c ≡ goes_in deed c
goers_are deed c = elim (cases_lt c (length deed.goes)) [
  | inl below ↦ listed (goes_in deed) 0 (length deed.goes) c (omega arith) (omega arith)
  | inr past ↦ unlisted (goes_in deed) 0 (length deed.goes) c (inr (omega arith)) ∙ sym (past_gone deed.goes c past)
]

pub run_of_is : (deeds : List StepEvents) → AreSteps (run_of deeds) deeds
unfolding run_of
run_of_is deeds = record {
  step = λ i within. record {
    actor = refl;
    gives = λ k. refl;
    goers = goers_are (deed_at deeds i);
    asks = λ c here k. ((λ h. h), (λ h. h));
    group = λ c d here there. refl;
  };
}

pub shows_room : (run : Course) (i : ℕ) (t : LastClocks) → i < 2 ^ 32 → Shows t (last_rows run i) → HasRoom t 2
shows_room run i t few shows = record {
  past = λ c x. let e = shows.past c x in let b = (seen_below run i).past c x in omega arith;
  last = λ k x. let e = shows.last k x in let b = (seen_below run i).last k x in omega arith;
}

-- one step more
pub tells_more : (run : Course) (old new : TableView) (rows : StepClocks) (goes : List Bool) → Tells run old → AreRows run (length old.steps) rows → length new.steps ≡ length old.steps + 1
    → ((i c : ℕ) → i < length old.steps → (act_in new i ≡ act_in old i) × (go_in new i c ≡ go_in old i c))
    → act_in new (length old.steps) ≡ rows.act
    → ((c : ℕ) → has goes c ≡ true → go_in new (length old.steps) c ≡ slice_index_or rows.goes c [])
    → ((c : ℕ) → among (run.goers (length old.steps)) c ≡ has goes c)
    → Tells run new
tells_more run old new rows goes tells are size kept act going same = record { rows = λ e event within c. by_kind e.step e.channel e.go c within event }
  where
    row_there : (t : TableView) (i d : ℕ) (g : Bool) → i < length t.steps → table_row t i d g ≡ (if g then go_in t i d else act_in t i)
    row_there t i d g within = rw (lt-ltb i (length t.steps) within) refl

    by_kind : (i d : ℕ) (g : Bool) (c : ℕ) → i < length new.steps → IsEventIn run (record { step = i; channel = d; go = g }) → count_of (table_row new i d g) c ≡ row run (record { step = i; channel = d; go = g }) c
    by_kind i d g c within event = elim (cases_lt i (length old.steps)) [
      | inl early ↦
          ap (λ (r : List ℕ). count_of r c) (row_there new i d g within ∙ (older g early ∙ sym (row_there old i d g early))) ∙ tells.rows (record { step = i; channel = d; go = g }) event early c
      | inr late ↦
          let here : i ≡ length old.steps = omega arith in
          ap (λ (r : List ℕ). count_of r c) (row_there new i d g within) ∙ by_go g here event
    ]
      where
        older : (h : Bool) → i < length old.steps → (if h then go_in new i d else act_in new i) ≡ (if h then go_in old i d else act_in old i)
        older true early = (kept i d early).1
        older false early = (kept i d early).0

        by_go : (h : Bool) → i ≡ length old.steps → IsEventIn run (record { step = i; channel = d; go = h }) → count_of (if h then go_in new i d else act_in new i) c ≡ row run (record { step = i; channel = d; go = h }) c
        by_go true here there =
            let on : among (run.goers (length old.steps)) d ≡ true = rw here at there in
            rw here (ap (λ (r : List ℕ). count_of r c) (going d (sym (same d) ∙ on)) ∙ are.goes d c on)
        by_go false here there = rw here (ap (λ (r : List ℕ). count_of r c) act ∙ are.act c)
