-- A run after some steps does not depend on the steps to come.
use Rattle.std.proofs.Math.Path.{fun_ext}
use Rattle.std.proofs.Common.{◌≡◌, ℕ, zero, suc, ◌≤◌, ◌<◌, ◌==◌, ◌&&◌, List, [], ◌∷◌, ◌++◌, length, filter, Option, Some, None, refl, sym, ap, ap₂, ◌∙◌, arith, if◌then◌else◌}
use Rattle.std.specs.Option.{option_map_or}
use Rattle.sync_types.specs.Boards.{Board, among, channel_numbers, grant_in, owner_of}
use Rattle.sync_types.specs.Events.{channels_in, pairs_of}
use Rattle.sync_types.specs.GoingOn.{first_of}
use Rattle.sync_types.specs.Runs.{as_list, gets_a_grant}
use Rattle.sync_types.specs.Turns.{Move, after_step}
use Rattle.sync_types.specs.declared.Grant.{Grant}
use Rattle.order_clocks.specs.Counters.{LastRows, rows_after_act, rows_after_goings, act_row, own_row, go_row}
use Rattle.order_clocks.specs.CourseOf.{course_of}
use Rattle.order_clocks.specs.Courses.{Course}
use Rattle.order_clocks.specs.Groups.{labels}
use Rattle.order_clocks.specs.Happenings.{Happening, Raised, Freed, board_at, happening_at, gives, going_of, of_going, rests_on}
use Rattle.order_clocks.specs.TracedRaces.{Trace, Lowered, Needed, Took, Touched, act_leaves, going_leaves}
use Rattle.board_laws.specs.Machine.{In, Own, Cell, State, Clock, Span, Tenure, with_value_at, span_of, tenures_handed_on}
use Rattle.schedule_laws.specs.Tracked.{rows_at, rows_in, part_at, last_place, grants_at, clocks_at, spans_at, takes_in, tenures_in, taken_by, tenures_at, own_at, free_position, cell_at, tracked}

-- the boards and happenings of the first steps
pub board_kept : (b : Board) (ms xs ys : List Move) (i : ℕ) → i ≤ length ms → board_at b (ms ++ xs) i ≡ board_at b (ms ++ ys) i
board_kept b [] xs ys zero inside = first xs ∙ sym (first ys)
  where
    first : (zs : List Move) → board_at b zs 0 ≡ b
    first [] = refl
    first (z ∷ zs) = refl
board_kept b [] xs ys (suc i) inside = absurd (omega arith)
board_kept b (m ∷ ms) xs ys zero inside = refl
board_kept b (m ∷ ms) xs ys (suc i) inside = board_kept (after_step b m.channel m.step) ms xs ys i (omega arith)

pub happening_kept : (b : Board) (ms xs ys : List Move) (i : ℕ) → i < length ms → happening_at b (ms ++ xs) i ≡ happening_at b (ms ++ ys) i
happening_kept b [] xs ys i inside = absurd (omega arith)
happening_kept b (m ∷ ms) xs ys zero inside = refl
happening_kept b (m ∷ ms) xs ys (suc i) inside = happening_kept (after_step b m.channel m.step) ms xs ys i (omega arith)

part_kept : (b : Board) (ms xs ys : List Move) (i : ℕ) → i < length ms → part_at b (ms ++ xs) i ≡ part_at b (ms ++ ys) i
part_kept b [] xs ys i inside = absurd (omega arith)
part_kept b (m ∷ ms) xs ys zero inside = refl
part_kept b (m ∷ ms) xs ys (suc i) inside = part_kept (after_step b m.channel m.step) ms xs ys i (omega arith)

-- the counters by what happens
abbrev course_by : Happening → Course
course_by h = record {
  actor = λ i. h.channel;
  gives = λ i. gives h;
  goers = λ i. channels_in h.goings;
  asks = λ i c. rests_on (going_of h.goings c);
  group = λ i. labels (pairs_of h.goings);
}

rows_in_by : (b : Board) (moves : List Move) (i : ℕ) (s : LastRows) → rows_after_act (course_of b moves) i s ≡ rows_after_act (course_by (happening_at b moves i)) 0 s
unfolding rows_after_act act_row
rows_in_by b moves i s = refl

rows_by : (b : Board) (moves : List Move) (i : ℕ) (s : LastRows) → rows_after_goings (course_of b moves) i s ≡ rows_after_goings (course_by (happening_at b moves i)) 0 s
unfolding rows_after_goings go_row own_row
rows_by b moves i s = refl

in_same : (a b : Board) (ms ns : List Move) (i : ℕ) → happening_at a ms i ≡ happening_at b ns i → rows_at a ms i ≡ rows_at b ns i → rows_in a ms i ≡ rows_in b ns i
in_same a b ms ns i h s =
    rows_in_by a ms i (rows_at a ms i) ∙ ap₂ (λ (x : Happening) (r : LastRows). rows_after_act (course_by x) 0 r) h s ∙ sym (rows_in_by b ns i (rows_at b ns i))

next_same : (a b : Board) (ms ns : List Move) (i : ℕ) → happening_at a ms i ≡ happening_at b ns i → rows_at a ms i ≡ rows_at b ns i → rows_at a ms (suc i) ≡ rows_at b ns (suc i)
next_same a b ms ns i h s =
    rows_by a ms i (rows_in a ms i) ∙ ap₂ (λ (x : Happening) (r : LastRows). rows_after_goings (course_by x) 0 r) h (in_same a b ms ns i h s) ∙ sym (rows_by b ns i (rows_in b ns i))

-- all that is told of a run after some steps
pub record Alike (b : Board) (ms ns : List Move) (i : ℕ) : Type 0 where
  pub rows : rows_at b ms i ≡ rows_at b ns i
  pub place : (c : ℕ) (t : Trace) → last_place b ms i c t ≡ last_place b ns i c t
  pub grants : (c : ℕ) → grants_at b ms i c ≡ grants_at b ns i c
  pub clocks : (c : ℕ) → clocks_at b ms i c ≡ clocks_at b ns i c
  pub spans : (c : ℕ) → spans_at b ms i c ≡ spans_at b ns i c
  pub tenures : (x : ℕ) → tenures_at b ms i x ≡ tenures_at b ns i x

-- a step, by what it depends on
abbrev place_by : Happening → LastRows → LastRows → ℕ → Trace → ℕ → ℕ
place_by h inner next c t old = if of_going (going_of h.goings c) (λ g. going_leaves g t) then next.past c c else if (c == h.channel) && act_leaves h t then inner.past c c else old

abbrev grants_by : Happening → Board → Board → ℕ → List Grant → List Grant
grants_by h old new c gs = if gets_a_grant old h.channel c then gs ++ as_list (grant_in (new.state c)) else gs

abbrev clocks_in_by : Happening → LastRows → ℕ → (ℕ → Clock) → ℕ → Clock
clocks_in_by h inner c old = if c == h.channel then with_value_at (inner.past c c) (inner.past c) old else old

abbrev clocks_by : Happening → LastRows → LastRows → ℕ → (ℕ → Clock) → ℕ → Clock
clocks_by h inner next c old = if among (channels_in h.goings) c then with_value_at (next.past c c) (next.past c) (clocks_in_by h inner c old) else clocks_in_by h inner c old

abbrev spans_in_by : Happening → LastRows → Board → ℕ → List Grant → (ℕ → Span) → ℕ → Span
spans_in_by h inner part c gs old = if c == h.channel then with_value_at (inner.past c c) (span_of (part.state c) (gs ++ as_list (grant_in (part.state c)))) old else old

abbrev spans_by : Happening → LastRows → LastRows → Board → Board → ℕ → List Grant → List Grant → (ℕ → Span) → ℕ → Span
spans_by h inner next part new c gs hs old = if among (channels_in h.goings) c then with_value_at (next.past c c) (span_of (new.state c) hs) (spans_in_by h inner part c gs old) else spans_in_by h inner part c gs old

abbrev handed_by : LastRows → Board → ℕ → Option ℕ → List Tenure → List Tenure
handed_by inner part x None old = old
handed_by inner part x (Some c) old =
    tenures_handed_on (Some c) (option_map_or (λ d. inner.past d d) (owner_of (part.axis x)) 0) (record { channel = c; place = suc (inner.past c c) }) old

abbrev tenures_by : Happening → LastRows → LastRows → Board → ℕ → List Tenure → List Tenure
tenures_by h rows inner part x old =
    handed_by inner part x (first_of (filter (λ c. of_going (going_of h.goings c) (λ g. among g.took x)) channel_numbers))
    (if among h.frees x then tenures_handed_on None (rows.past h.channel h.channel) (record { channel = h.channel; place = suc (rows.past h.channel h.channel) }) old else old)

tenures_are : (b : Board) (ms : List Move) (i x : ℕ) → tenures_at b ms (suc i) x ≡ tenures_by (happening_at b ms i) (rows_at b ms i) (rows_in b ms i) (part_at b ms i) x (tenures_at b ms i x)
tenures_are b ms i x = go (first_of (filter (takes_in b ms i x) channel_numbers)) (tenures_in b ms i (tenures_at b ms i x) x)
  where
    go : (o : Option ℕ) (old : List Tenure) → taken_by b ms i x o old ≡ handed_by (rows_in b ms i) (part_at b ms i) x o old
    go None old = refl
    go (Some c) old = refl

pub alike_next : (b : Board) (ms ns : List Move) (i : ℕ) → Alike b ms ns i → happening_at b ms i ≡ happening_at b ns i → board_at b ms i ≡ board_at b ns i → part_at b ms i ≡ part_at b ns i → board_at b ms (suc i) ≡ board_at b ns (suc i) → Alike b ms ns (suc i)
alike_next b ms ns i w h old part new =
    let inner : rows_in b ms i ≡ rows_in b ns i = in_same b b ms ns i h w.rows in
    let next : rows_at b ms (suc i) ≡ rows_at b ns (suc i) = next_same b b ms ns i h w.rows in
    let grants : (c : ℕ) → grants_at b ms (suc i) c ≡ grants_at b ns (suc i) c = λ c.
    ap (λ (x : Happening). grants_by x (board_at b ms i) (board_at b ms (suc i)) c (grants_at b ms i c)) h
    ∙ ap (λ (x : Board). grants_by (happening_at b ns i) x (board_at b ms (suc i)) c (grants_at b ms i c)) old
    ∙ ap (λ (x : Board). grants_by (happening_at b ns i) (board_at b ns i) x c (grants_at b ms i c)) new
    ∙ ap (λ (gs : List Grant). grants_by (happening_at b ns i) (board_at b ns i) (board_at b ns (suc i)) c gs) (w.grants c) in
    record {
      rows = next;
      place = λ c t.
          ap (λ (x : Happening). place_by x (rows_in b ms i) (rows_at b ms (suc i)) c t (last_place b ms i c t)) h
          ∙ ap (λ (r : LastRows). place_by (happening_at b ns i) r (rows_at b ms (suc i)) c t (last_place b ms i c t)) inner
          ∙ ap (λ (r : LastRows). place_by (happening_at b ns i) (rows_in b ns i) r c t (last_place b ms i c t)) next
          ∙ ap (λ (n : ℕ). place_by (happening_at b ns i) (rows_in b ns i) (rows_at b ns (suc i)) c t n) (w.place c t);
      grants = grants;
      clocks = λ c.
          ap (λ (x : Happening). clocks_by x (rows_in b ms i) (rows_at b ms (suc i)) c (clocks_at b ms i c)) h
          ∙ ap (λ (r : LastRows). clocks_by (happening_at b ns i) r (rows_at b ms (suc i)) c (clocks_at b ms i c)) inner
          ∙ ap (λ (r : LastRows). clocks_by (happening_at b ns i) (rows_in b ns i) r c (clocks_at b ms i c)) next
          ∙ ap (λ (f : ℕ → Clock). clocks_by (happening_at b ns i) (rows_in b ns i) (rows_at b ns (suc i)) c f) (w.clocks c);
      spans = λ c.
          ap (λ (x : Happening). spans_by x (rows_in b ms i) (rows_at b ms (suc i)) (part_at b ms i) (board_at b ms (suc i)) c (grants_at b ms i c) (grants_at b ms (suc i) c) (spans_at b ms i c)) h
          ∙ ap (λ (r : LastRows). spans_by (happening_at b ns i) r (rows_at b ms (suc i)) (part_at b ms i) (board_at b ms (suc i)) c (grants_at b ms i c) (grants_at b ms (suc i) c) (spans_at b ms i c)) inner
          ∙ ap (λ (r : LastRows). spans_by (happening_at b ns i) (rows_in b ns i) r (part_at b ms i) (board_at b ms (suc i)) c (grants_at b ms i c) (grants_at b ms (suc i) c) (spans_at b ms i c)) next
          ∙ ap (λ (x : Board). spans_by (happening_at b ns i) (rows_in b ns i) (rows_at b ns (suc i)) x (board_at b ms (suc i)) c (grants_at b ms i c) (grants_at b ms (suc i) c) (spans_at b ms i c)) part
          ∙ ap (λ (x : Board). spans_by (happening_at b ns i) (rows_in b ns i) (rows_at b ns (suc i)) (part_at b ns i) x c (grants_at b ms i c) (grants_at b ms (suc i) c) (spans_at b ms i c)) new
          ∙ ap (λ (gs : List Grant). spans_by (happening_at b ns i) (rows_in b ns i) (rows_at b ns (suc i)) (part_at b ns i) (board_at b ns (suc i)) c gs (grants_at b ms (suc i) c) (spans_at b ms i c)) (w.grants c)
          ∙ ap (λ (gs : List Grant). spans_by (happening_at b ns i) (rows_in b ns i) (rows_at b ns (suc i)) (part_at b ns i) (board_at b ns (suc i)) c (grants_at b ns i c) gs (spans_at b ms i c)) (grants c)
          ∙ ap (λ (f : ℕ → Span). spans_by (happening_at b ns i) (rows_in b ns i) (rows_at b ns (suc i)) (part_at b ns i) (board_at b ns (suc i)) c (grants_at b ns i c) (grants_at b ns (suc i) c) f) (w.spans c);
      tenures = λ x.
          tenures_are b ms i x
          ∙ ap (λ (y : Happening). tenures_by y (rows_at b ms i) (rows_in b ms i) (part_at b ms i) x (tenures_at b ms i x)) h
          ∙ ap (λ (r : LastRows). tenures_by (happening_at b ns i) r (rows_in b ms i) (part_at b ms i) x (tenures_at b ms i x)) w.rows
          ∙ ap (λ (r : LastRows). tenures_by (happening_at b ns i) (rows_at b ns i) r (part_at b ms i) x (tenures_at b ms i x)) inner
          ∙ ap (λ (a : Board). tenures_by (happening_at b ns i) (rows_at b ns i) (rows_in b ns i) a x (tenures_at b ms i x)) part
          ∙ ap (λ (ts : List Tenure). tenures_by (happening_at b ns i) (rows_at b ns i) (rows_in b ns i) (part_at b ns i) x ts) (w.tenures x)
          ∙ sym (tenures_are b ns i x);
    }

pub alike_at : (b : Board) (ms xs ys : List Move) (i : ℕ) → i ≤ length ms → Alike b (ms ++ xs) (ms ++ ys) i
alike_at b ms xs ys zero inside = record { rows = refl; place = λ c t. refl; grants = λ c. refl; clocks = λ c. refl; spans = λ c. refl; tenures = λ x. refl }
alike_at b ms xs ys (suc i) inside =
    alike_next b (ms ++ xs) (ms ++ ys) i (alike_at b ms xs ys i (omega (arith, inside)))
    (happening_kept b ms xs ys i inside) (board_kept b ms xs ys i (omega (arith, inside))) (part_kept b ms xs ys i inside) (board_kept b ms xs ys (suc i) inside)

abbrev own_by : Board → LastRows → (ℕ → Trace → ℕ) → (ℕ → List Grant) → (ℕ → ℕ → Clock) → (ℕ → ℕ → Span) → ℕ → Own
own_by board rows place grants clocks spans c = record {
  marks = board.marks c;
  seat = In (board.state c);
  program = board.program c;
  last_position = board.last_position c;
  grants = grants c;
  count = rows.past c c;
  past = rows.past c;
  log = clocks c;
  spans = spans c;
  raised = λ k. rows.last (Raised c k);
  lowered = λ k. place c (Lowered c k);
  needs = λ d k. place c (Needed d k);
  took = λ x. place c (Took x);
  started = λ y. place c (Touched y);
}

abbrev cell_by : Board → LastRows → (ℕ → List Tenure) → ℕ → Cell
cell_by board rows tenures x = record { owner = owner_of (board.axis x); position = free_position (board.axis x); freed = rows.last (Freed x); tenures = tenures x }

abbrev tracked_by : Board → LastRows → (ℕ → Trace → ℕ) → (ℕ → List Grant) → (ℕ → ℕ → Clock) → (ℕ → ℕ → Span) → (ℕ → List Tenure) → State
tracked_by board rows place grants clocks spans tenures = record { start = board.start; own = own_by board rows place grants clocks spans; axis = cell_by board rows tenures; on = board.is_on }

by_parts : (b : Board) (ms : List Move) (i : ℕ) → tracked b ms i ≡ tracked_by (board_at b ms i) (rows_at b ms i) (last_place b ms i) (grants_at b ms i) (clocks_at b ms i) (spans_at b ms i) (tenures_at b ms i)
unfolding own_at cell_at
by_parts b ms i = refl

pub tracked_same : (b : Board) (ms ns : List Move) (i : ℕ) → Alike b ms ns i → board_at b ms i ≡ board_at b ns i → tracked b ms i ≡ tracked b ns i
tracked_same b ms ns i w board =
    by_parts b ms i
    ∙ ap (λ (z : Board). tracked_by z (rows_at b ms i) (last_place b ms i) (grants_at b ms i) (clocks_at b ms i) (spans_at b ms i) (tenures_at b ms i)) board
    ∙ ap (λ (z : LastRows). tracked_by (board_at b ns i) z (last_place b ms i) (grants_at b ms i) (clocks_at b ms i) (spans_at b ms i) (tenures_at b ms i)) w.rows
    ∙ ap (λ (z : ℕ → Trace → ℕ). tracked_by (board_at b ns i) (rows_at b ns i) z (grants_at b ms i) (clocks_at b ms i) (spans_at b ms i) (tenures_at b ms i)) (fun_ext λ c. fun_ext λ t. w.place c t)
    ∙ ap (λ (z : ℕ → List Grant). tracked_by (board_at b ns i) (rows_at b ns i) (last_place b ns i) z (clocks_at b ms i) (spans_at b ms i) (tenures_at b ms i)) (fun_ext λ c. w.grants c)
    ∙ ap (λ (z : ℕ → ℕ → Clock). tracked_by (board_at b ns i) (rows_at b ns i) (last_place b ns i) (grants_at b ns i) z (spans_at b ms i) (tenures_at b ms i)) (fun_ext λ c. w.clocks c)
    ∙ ap (λ (z : ℕ → ℕ → Span). tracked_by (board_at b ns i) (rows_at b ns i) (last_place b ns i) (grants_at b ns i) (clocks_at b ns i) z (tenures_at b ms i)) (fun_ext λ c. w.spans c)
    ∙ ap (λ (z : ℕ → List Tenure). tracked_by (board_at b ns i) (rows_at b ns i) (last_place b ns i) (grants_at b ns i) (clocks_at b ns i) (spans_at b ns i) z) (fun_ext λ x. w.tenures x)
    ∙ sym (by_parts b ns i)

-- the run after the first steps
pub tracked_kept : (b : Board) (ms xs ys : List Move) (i : ℕ) → i ≤ length ms → tracked b (ms ++ xs) i ≡ tracked b (ms ++ ys) i
tracked_kept b ms xs ys i inside = tracked_same b (ms ++ xs) (ms ++ ys) i (alike_at b ms xs ys i inside) (board_kept b ms xs ys i inside)
