-- The present span of a channel in the run that speaks for all: it is there, it is current, and it begins and goes on as the channel does.
use Rattle.std.proofs.Common.{◌≡◌, ◌∙◌, ℕ, ℤ, zero, suc, ◌+◌, ◌<◌, Bool, true, false, cond, not, ◌==◌, ◌||◌, List, [], ◌∷◌, ◌++◌, append-nil, append_assoc, length, map, filter, slice_get, slice_index_or, Option, Some, IfSome, unwrap_or, refl, sym, ap, ap₂, subst, arith}
use Rattle.std.proofs.lemmas.Bool.{eqb-true}
use Rattle.std.proofs.lemmas.List.{length-map}
use Rattle.std.specs.List.{list_any}
use Rattle.axis_sets.specs.Positions.{position_of}
use Rattle.axis_sets.specs.Sets.{has}
use Rattle.channel_machine.specs.StartStates.{start_of}
use Rattle.job_types.specs.Axes.{start_position}
use Rattle.job_types.specs.Job.{JobView}
use Rattle.schedule_laws.proofs.RunLaws.{speaks_of_states}
use Rattle.schedule_laws.specs.Schedules.{IsQuietRun, IsRunOf, moves_by}
use Rattle.speed_laws.proofs.Histories.{Ahead, HistoryTold, at_end, history_told}
use Rattle.speed_laws.proofs.JoinedRuns.{run_rest, stage_joined}
use Rattle.speed_laws.proofs.PastEvents.{first_are_past, is_past, kept_holds, made_counts, others_are_not, own_names}
use Rattle.speed_laws.proofs.RunBoards.{IsRunBoard, run_board_first, run_board_step}
use Rattle.speed_laws.specs.Doings.{Doings}
use Rattle.speed_laws.specs.Histories.{Telling, telling_of, act_telling, history, items_by}
use Rattle.sync_types.proofs.Replays.{run_is_replay}
use Rattle.sync_types.specs.Boards.{Board, among, channel_numbers, first_board, is_running}
use Rattle.sync_types.specs.Events.{IsLowestName}
use Rattle.sync_types.specs.Runs.{Stage, after_turn, first_stage, moves_of, stage_after}
use Rattle.sync_types.specs.Turns.{Move}
use Rattle.sync_types.specs.Views.{StartView}
use Rattle.sync_types.specs.declared.Grant.{Grant}
use Rattle.sync_types.specs.declared.Item.{Item}
use Rattle.sync_types.specs.declared.runs.EventId.{EventId}
use Rattle.zone_stretches.proofs.EventLaws.{own_name}
use Rattle.zone_stretches.proofs.NameLaws.{occurrences_named}
use Rattle.zone_stretches.specs.Occurrences.{OccurrenceView, occurrences_from, occurrences_of}
use Rattle.zone_stretches.specs.Spans.{SpanStartView, Span, beginning_after, entry_of_beginning, first_beginning, is_on_at_first, span_to_end, span_until, spans_from, spans_of}

-- ---- spans by events

-- how a time begins after these events
abbrev pub begins_after : SpanStartView → List OccurrenceView → SpanStartView
begins_after b [] = b
begins_after b (o ∷ os) = begins_after (beginning_after b o) os

-- the span that begins so, with these events to come
abbrev pub span_next : List (List Item) → SpanStartView → List OccurrenceView → Span
span_next rows b [] = span_to_end b
span_next rows b (o ∷ os) = span_until rows b o.name

pub span_there : (rows : List (List Item)) (b : SpanStartView) (xs ys : List OccurrenceView) → slice_get (spans_from rows b (xs ++ ys)) (length xs) ≡ Some (span_next rows (begins_after b xs) ys)
span_there rows b [] [] = refl
span_there rows b [] (y ∷ ys) = refl
span_there rows b (x ∷ xs) ys = span_there rows (beginning_after b x) xs ys

-- ---- by what the events tell

abbrev pub at_after : (ℕ → ℤ) → List Telling → ℕ → ℤ
at_after at [] = at
at_after at (t ∷ ts) = at_after (λ axis. unwrap_or (position_of t.at axis) (at axis)) ts

abbrev pub told_on : (ℕ → Bool) → List Telling → ℕ → Bool
told_on on [] = on
told_on on (t ∷ ts) = told_on (has t.on) ts

at_told : (rows : List (List Item)) (b : SpanStartView) (xs : List OccurrenceView) → (begins_after b xs).at ≡ at_after b.at (map (telling_of rows) xs)
at_told rows b [] = refl
at_told rows b (x ∷ xs) = at_told rows (beginning_after b x) xs

on_told : (rows : List (List Item)) (b : SpanStartView) (xs : List OccurrenceView) → (begins_after b xs).on ≡ told_on b.on (map (telling_of rows) xs)
on_told rows b [] = refl
on_told rows b (x ∷ xs) = on_told rows (beginning_after b x) xs

first_holds : (P : EventId → Type 0) (b : SpanStartView) (xs : List OccurrenceView) → IfSome b.first P → ((k : ℕ) (o : OccurrenceView) → slice_get xs k ≡ Some o → P o.name) → IfSome (begins_after b xs).first P
first_holds P b [] first all = first
first_holds P b (x ∷ xs) first all = first_holds P (beginning_after b x) xs (all 0 x refl) (λ k o is. all (suc k) o is)

-- events that tell first the ones and then the others
record Split (rows : List (List Item)) (os : List OccurrenceView) (ts us : List Telling) : Type 0 where
  xs : List OccurrenceView
  ys : List OccurrenceView
  joined : os ≡ xs ++ ys
  left : map (telling_of rows) xs ≡ ts
  right : map (telling_of rows) ys ≡ us

split_by : (rows : List (List Item)) (os : List OccurrenceView) (ts us : List Telling) → map (telling_of rows) os ≡ ts ++ us → Split rows os ts us
split_by rows os [] us is = record { xs = []; ys = os; joined = refl; left = refl; right = is }
split_by rows [] (t ∷ ts) us is = absurd cc
split_by rows (o ∷ os) (t ∷ ts) us is =
    let here : telling_of rows o ≡ t = cc in
    let there : map (telling_of rows) os ≡ ts ++ us = cc in
    let r = split_by rows os ts us there in
    record {
      xs = o ∷ r.xs;
      ys = r.ys;
      joined = ap (λ (rest : List OccurrenceView). o ∷ rest) r.joined;
      left = ap₂ (λ (s : Telling) (ss : List Telling). s ∷ ss) here r.left;
      right = r.right;
    }

left_there : (xs ys : List OccurrenceView) (k : ℕ) (o : OccurrenceView) → slice_get xs k ≡ Some o → (slice_get (xs ++ ys) k ≡ Some o) × (k < length xs)
left_there [] ys k o is = absurd cc
left_there (x ∷ xs) ys zero o is = (is, omega arith)
left_there (x ∷ xs) ys (suc k) o is = let r = left_there xs ys k o is in (r.0, omega (arith, r.1))

right_there : (xs ys : List OccurrenceView) (y : OccurrenceView) → slice_get (xs ++ y ∷ ys) (length xs) ≡ Some y
right_there [] ys y = refl
right_there (x ∷ xs) ys y = right_there xs ys y

cancel : (xs ys zs : List Grant) → xs ++ ys ≡ xs ++ zs → ys ≡ zs
cancel [] ys zs e = e
cancel (x ∷ xs) ys zs e = let rest : xs ++ ys ≡ xs ++ zs = cc in cancel xs ys zs rest

-- nobody runs
pub none_runs : (test : ℕ → Bool) (cs : List ℕ) (c : ℕ) → not (list_any test cs) ≡ true → among cs c ≡ true → test c ≡ false
none_runs test [] c over there = absurd cc
none_runs test (d ∷ cs) c over there = by_test (test d) refl over (d == c) refl there (none_runs test cs c)
  where
    by_test : (t : Bool) → test d ≡ t → not (t || list_any test cs) ≡ true → (s : Bool) → (d == c) ≡ s → (s || among cs c) ≡ true → (not (list_any test cs) ≡ true → among cs c ≡ true → test c ≡ false) → test c ≡ false
    by_test true is over s same there rest = absurd cc
    by_test false is over true same there rest = ap test (sym (eqb-true d c same)) ∙ is
    by_test false is over false same there rest = rest over there

-- ---- the present span

-- what its items are: of a channel that runs those that it makes, and otherwise none
abbrev pub ItemsAre : Doings → List (List Item) → Stage → ℕ → Bool → Span → Type 0
ItemsAre doings rows stage c true span = (span.items ≡ doings.items c (stage.grants c)) × (span.items ≡ slice_index_or rows span.entry [])
ItemsAre doings rows stage c false span = span.items ≡ []

module _ (job : JobView) (doings : Doings) (qs rs : List ℕ) (quiet : IsQuietRun doings.script (start_of job) qs) (run : IsRunOf doings.script (start_of job) rs) where
  abbrev start : StartView
  start = start_of job

  abbrev rows : List (List Item)
  rows = items_by doings (first_stage (start_of job)) qs

  abbrev stage : Stage
  stage = stage_after doings.script (first_stage (start_of job)) rs

  abbrev speaking : List Move
  speaking = moves_by doings.script (start_of job) qs

  -- what the events of a channel tell that the run has made
  abbrev pub made_tellings : ℕ → List Telling
  made_tellings c =
      map (telling_of (items_by doings (first_stage (start_of job)) rs))
      (filter (λ o. o.channel == c) (occurrences_from (first_board (start_of job)) 0 (moves_of doings.script (first_stage (start_of job)) rs)))

  abbrev Named : EventId → Type 0
  Named = IsLowestName (first_board (start_of job)) (moves_by doings.script (start_of job) qs)

  abbrev past : EventId → Bool
  past = is_past (first_board (start_of job)) (moves_by doings.script (start_of job) qs) (made_counts doings.script (start_of job) qs rs quiet run)

  pub record PresentSpan (c : ℕ) : Type 0 where
    pub span : Span
    pub there : slice_get (spans_of job (items_by doings (first_stage (start_of job)) qs) (occurrences_of (first_board (start_of job)) (moves_by doings.script (start_of job) qs)) c) (made_counts doings.script (start_of job) qs rs quiet run c) ≡ Some span
    pub at : span.begins.at ≡ at_after (start_position job) (made_tellings c)
    pub on : span.begins.on ≡ told_on (is_on_at_first job) (made_tellings c)
    pub items : ItemsAre doings (items_by doings (first_stage (start_of job)) qs) (stage_after doings.script (first_stage (start_of job)) rs) c (is_running ((stage_after doings.script (first_stage (start_of job)) rs).board.state c)) span
    pub begun : IfSome span.begins.first (λ e. IsLowestName (first_board (start_of job)) (moves_by doings.script (start_of job) qs) e
        × (is_past (first_board (start_of job)) (moves_by doings.script (start_of job) qs) (made_counts doings.script (start_of job) qs rs quiet run) e ≡ true))
    pub not_over : IfSome span.last (λ e. IsLowestName (first_board (start_of job)) (moves_by doings.script (start_of job) qs) e
        × (is_past (first_board (start_of job)) (moves_by doings.script (start_of job) qs) (made_counts doings.script (start_of job) qs rs quiet run) e ≡ false))

  trivially : (n : ℕ) (xs : List (List Item)) → slice_index_or xs (0 + n) [] ≡ slice_index_or xs n []
  trivially n xs = let same : 0 + n ≡ n = omega arith in ap (λ (k : ℕ). slice_index_or xs k []) same

  made_told : (c : ℕ) → HistoryTold doings (first_stage start) rs 0 (items_by doings (first_stage start) rs) c
  made_told c = history_told doings rs (first_stage start) 0 (items_by doings (first_stage start) rs) c (run_board_first start quiet.sound) run (λ k. trivially k (items_by doings (first_stage start) rs))

  -- what the run makes that goes on from it
  abbrev spoken_rest : List ℕ
  spoken_rest = (speaks_of_states doings.script (start_of job) qs rs quiet run).alike.rest

  board_zones : (cs : List ℕ) (s : Stage) → IsRunBoard s.board → IsRunBoard (stage_after doings.script s cs).board
  board_zones [] s zs = zs
  board_zones (d ∷ cs) s zs = board_zones cs (after_turn doings.script s d) (run_board_step s.board d (doings.script d (s.grants d)) zs)

  rest_told : (c : ℕ) → HistoryTold doings stage spoken_rest 0 (items_by doings stage spoken_rest) c
  rest_told c =
      history_told doings spoken_rest stage 0 (items_by doings stage spoken_rest) c (board_zones rs (first_stage start) (run_board_first start quiet.sound))
      (run_rest doings.script (first_stage start) rs spoken_rest (speaks_of_states doings.script start qs rs quiet run).alike.maximal.run) (λ k. trivially k (items_by doings stage spoken_rest))

  speaking_told : (c : ℕ) → HistoryTold doings (first_stage start) qs 0 rows c
  speaking_told c = history_told doings qs (first_stage start) 0 rows c (run_board_first start quiet.sound) quiet.maximal.run (λ k. trivially k rows)

  end : Stage
  end = stage_after doings.script (first_stage start) qs

  -- the events of the run that speaks tell first what the run has made
  spoken_tellings : (c : ℕ) → among channel_numbers c ≡ true
      → map (telling_of rows) (filter (λ o. o.channel == c) (occurrences_from (first_board start) 0 (moves_of doings.script (first_stage start) qs)))
      ≡ made_tellings c ++ history doings c false (is_running (stage.board.state c)) (stage.grants c) (rest_told c).more
  unfolding end
  spoken_tellings c known =
      let alike = (speaks_of_states doings.script start qs rs quiet run).alike in
      let told = speaking_told c in
      let made = made_told c in
      let rest = rest_told c in
      let whole = stage_after doings.script (first_stage start) (rs ++ spoken_rest) in
      let joined : whole ≡ stage_after doings.script stage spoken_rest = stage_joined doings.script (first_stage start) rs spoken_rest in
      let stops : is_running (end.board.state c) ≡ false = none_runs (λ d. is_running (end.board.state d)) channel_numbers c quiet.maximal.over known in
      let same_end : (stage_after doings.script stage spoken_rest).board.state c ≡ end.board.state c =
      ap (λ (s : Stage). s.board.state c) (sym joined) ∙ ap (λ (b : Board). b.state c) (sym alike.same.board) in
      let same_grants : (first_stage start).grants c ++ told.more ≡ (first_stage start).grants c ++ (made.more ++ rest.more) =
      sym told.grants ∙ alike.same.grants c ∙ ap (λ (s : Stage). s.grants c) joined ∙ rest.grants ∙ ap (λ (gs : List Grant). gs ++ rest.more) made.grants ∙ append_assoc ((first_stage start).grants c) made.more rest.more in
      let more : told.more ≡ made.more ++ rest.more = cancel ((first_stage start).grants c) told.more (made.more ++ rest.more) same_grants in
      let spoken_end = at_end doings c (end.board.state c) (end.grants c) in
      let spoken = (told.goes_on [] (is_running (end.board.state c)) spoken_end.1).0 in
      let rest_end = at_end doings c ((stage_after doings.script stage spoken_rest).board.state c) ((stage_after doings.script stage spoken_rest).grants c) in
      let runs_at_last : is_running ((stage_after doings.script stage spoken_rest).board.state c) ≡ false = ap is_running same_end ∙ stops in
      let ahead : Ahead (stage.board.state c) rest.more false =
      subst (λ (t : Bool). Ahead (stage.board.state c) rest.more t) runs_at_last
      (subst (λ (gs : List Grant). Ahead (stage.board.state c) gs (is_running ((stage_after doings.script stage spoken_rest).board.state c))) (append-nil rest.more)
      (rest.goes_on [] (is_running ((stage_after doings.script stage spoken_rest).board.state c)) rest_end.1).1) in
      let tellings = map (telling_of rows) (filter (λ o. o.channel == c) (occurrences_from (first_board start) 0 (moves_of doings.script (first_stage start) qs))) in
      sym (append-nil tellings)
      ∙ ap (λ (xs : List Telling). tellings ++ xs) (sym spoken_end.0)
      ∙ sym spoken
      ∙ ap₂ (λ (t : Bool) (gs : List Grant). history doings c t (is_running ((first_board start).state c)) ((first_stage start).grants c) gs) stops (append-nil told.more ∙ more)
      ∙ (made.goes_on rest.more false ahead).0

  -- so they begin as the events that the run has made
  pub spoken_first : (c : ℕ) → among channel_numbers c ≡ true → (later : List Telling)
      × (map (telling_of (items_by doings (first_stage (start_of job)) qs)) (filter (λ o. o.channel == c) (occurrences_from (first_board (start_of job)) 0 (moves_by doings.script (start_of job) qs)))
      ≡ map (telling_of (items_by doings (first_stage (start_of job)) rs)) (filter (λ o. o.channel == c) (occurrences_from (first_board (start_of job)) 0 (moves_by doings.script (start_of job) rs))) ++ later)
  spoken_first c known = (history doings c false (is_running (stage.board.state c)) (stage.grants c) (rest_told c).more, spoken_tellings c known)

  -- what comes first in the history from there on
  abbrev IsNext : ℕ → Bool → List Telling → Type 0
  IsNext c true [] = ⊥
  IsNext c true (t ∷ ts) = t ≡ act_telling doings c (stage.grants c)
  IsNext c false [] = Unit {0}
  IsNext c false (t ∷ ts) = t.goes ≡ true

  is_next : (c : ℕ) (runs : Bool) (more : List Grant) → IsNext c runs (history doings c false runs (stage.grants c) more)
  is_next c true [] = refl
  is_next c true (grant ∷ more) = refl
  is_next c false [] = tt
  is_next c false (grant ∷ more) = refl

  next_items : (c : ℕ) (runs : Bool) (b : SpanStartView) (ys : List OccurrenceView) (ts : List Telling) → map (telling_of rows) ys ≡ ts → IsNext c runs ts → ItemsAre doings rows stage c runs (span_next rows b ys)
  next_items c true b [] ts is next = absurd (subst (IsNext c true) (sym is) next)
  next_items c true b (y ∷ ys) ts is next =
      let here : telling_of rows y ≡ act_telling doings c (stage.grants c) = subst (IsNext c true) (sym is) next in
      let acts : y.name.go ≡ false = ap (λ (t : Telling). t.goes) here in
      let items : cond y.name.go [] (slice_index_or rows y.name.step []) ≡ doings.items c (stage.grants c) = ap (λ (t : Telling). t.items) here in
      (items, by_go y.name.go acts)
    where
      by_go : (t : Bool) → t ≡ false → cond t [] (slice_index_or rows y.name.step []) ≡ slice_index_or rows (cond t (entry_of_beginning b) y.name.step) []
      by_go true is = absurd cc
      by_go false is = refl
  next_items c false b [] ts is next = refl
  next_items c false b (y ∷ ys) ts is next =
      let goes : y.name.go ≡ true = subst (IsNext c false) (sym is) next in
      ap (λ (t : Bool). cond t [] (slice_index_or rows y.name.step [])) goes

  counts_told : (c : ℕ) → made_counts doings.script start qs rs quiet run c ≡ length (made_tellings c)
  unfolding occurrences_of
  counts_told c =
      let moves = moves_by doings.script start rs in
      let events = filter (λ o. o.channel == c) (occurrences_from (first_board start) 0 moves) in
      ap length (sym (own_names (first_board start) moves c (run_is_replay doings.script (first_stage start) rs run).running (run_board_first start quiet.sound)))
      ∙ length-map events own_name ∙ sym (length-map events (telling_of (items_by doings (first_stage start) rs)))

  pub present_span : (c : ℕ) → among channel_numbers c ≡ true → PresentSpan c
  unfolding occurrences_of spans_of
  present_span c known =
      let runs = is_running (stage.board.state c) in
      let events = filter (λ o. o.channel == c) (occurrences_from (first_board start) 0 speaking) in
      let to_come = history doings c false runs (stage.grants c) (rest_told c).more in
      let split = split_by rows events (made_tellings c) to_come (spoken_tellings c known) in
      let count : length split.xs ≡ made_counts doings.script start qs rs quiet run c = sym (length-map split.xs (telling_of rows)) ∙ ap length split.left ∙ sym (counts_told c) in
      let span = span_next rows (begins_after (first_beginning job c) split.xs) split.ys in
      let named : (k : ℕ) (o : OccurrenceView) → slice_get events k ≡ Some o → Named o.name = λ k o is. kept_holds (λ p. Named p.name) (λ p. p.channel == c) (occurrences_from (first_board start) 0 speaking) k o (occurrences_named (first_board start) speaking) is in
      record {
        span = span;
        there = ap₂ (λ (os : List OccurrenceView) (n : ℕ). slice_get (spans_from rows (first_beginning job c) os) n) split.joined (sym count) ∙ span_there rows (first_beginning job c) split.xs split.ys;
        at = by_next (begins_after (first_beginning job c) split.xs) (λ b. b.at) split.ys ∙ at_told rows (first_beginning job c) split.xs ∙ ap (at_after (start_position job)) split.left;
        on = by_next (begins_after (first_beginning job c) split.xs) (λ b. b.on) split.ys ∙ on_told rows (first_beginning job c) split.xs ∙ ap (told_on (is_on_at_first job)) split.left;
        items = next_items c runs (begins_after (first_beginning job c) split.xs) split.ys to_come split.right (is_next c runs (rest_told c).more);
        begun = subst (λ (o : Option EventId). IfSome o (λ e. Named e × (past e ≡ true))) (sym (by_next (begins_after (first_beginning job c) split.xs) (λ b. b.first) split.ys))
            (first_holds (λ e. Named e × (past e ≡ true)) (first_beginning job c) split.xs tt
            (λ k o is.
            let here = left_there split.xs split.ys k o is in
            let in_events : slice_get events k ≡ Some o = ap (λ (os : List OccurrenceView). slice_get os k) split.joined ∙ here.0 in
            (named k o in_events, first_are_past doings.script start qs rs quiet run c k o in_events (omega (arith, here.1, count)))));
        not_over = last_holds (begins_after (first_beginning job c) split.xs) split.xs split.ys split.joined count;
      }
    where
      by_next : {A : Type 0} (b : SpanStartView) (f : SpanStartView → A) (ys : List OccurrenceView) → f (span_next rows b ys).begins ≡ f b
      by_next b f [] = refl
      by_next b f (y ∷ ys) = refl

      last_holds : (b : SpanStartView) (xs ys : List OccurrenceView) → filter (λ o. o.channel == c) (occurrences_from (first_board start) 0 speaking) ≡ xs ++ ys → length xs ≡ made_counts doings.script start qs rs quiet run c
          → IfSome (span_next rows b ys).last (λ e. Named e × (past e ≡ false))
      last_holds b xs [] joined count = tt
      last_holds b xs (y ∷ ys) joined count =
          let in_events = ap (λ (os : List OccurrenceView). slice_get os (length xs)) joined ∙ right_there xs ys y in (
            kept_holds (λ p. Named p.name) (λ p. p.channel == c) (occurrences_from (first_board start) 0 speaking) (length xs) y (occurrences_named (first_board start) speaking) in_events,
            others_are_not doings.script start qs rs quiet run c (length xs) y in_events (omega (arith, count)) known,
          )
