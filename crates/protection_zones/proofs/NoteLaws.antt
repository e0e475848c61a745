-- The events that the code notes are those of the run.
use Rattle.axis_sets.specs.declared.limits.TheConstants.{CHANNEL_LIMIT, CHANNEL_PLACES}
use Rattle.std.proofs.Common.{◌≡◌, ℕ, zero, suc, ◌+◌, ◌<◌, ◌≤◌, ◌==◌, ◌&&◌, ◌||◌, Bool, true, false, inl, inr, List, [], ◌∷◌, ◌++◌, length, map, filter, All, drop, Option, Some, None, refl, sym, ap, ◌∙◌, arith, if◌then◌else◌}
use Rattle.std.specs.Prelude.{is_some, unwrap_or}
use Rattle.std.specs.List.{range_with_len}
use Rattle.std.proofs.lemmas.Bool.{cases_Bool, eqb-true, eqb-false, eq-eqb}
use mathlib.Core.Path.{fun_ext}
use Rattle.axis_sets.specs.Sets.{has}
use Rattle.order_clocks.specs.Chains.{IsIn}
use Rattle.order_clocks.specs.Clocked.{moves_in}
use Rattle.order_clocks.specs.Groups.{labels}
use Rattle.order_clocks.specs.Happenings.{Happening, board_at, going_of, happening_at, happening_of, hold_in}
use Rattle.order_clocks.specs.StepReading.{IsReadStep}
use Rattle.order_clocks.specs.Steps.{IsStep}
use Rattle.step_deeds.specs.Holds.{departure_of, goes_in}
use Rattle.order_clocks.specs.Watching.{IsGoingOf, IsRead, begun_shown}
use Rattle.step_deeds.specs.declared.deed.StepEvents.{StepEvents}
use Rattle.step_deeds.specs.declared.deed.Wakeup.{Wakeup}
use Rattle.step_deeds.specs.declared.deed.Hold as code
use Rattle.order_clocks.specs.declared.step_reader.ReadStep.{ReadStep}
use Rattle.order_clocks.proofs.DepartLaws.{taker_waits, takers_alike}
use Rattle.order_clocks.proofs.ReadLaws.{started_waits}
use Rattle.order_clocks.proofs.TellLaws.{going_some, going_within}
use Rattle.order_clocks.proofs.WholeLaws.{entry_at, board_zero, moves_size, read_step as step_read}
use Rattle.protection_zones.specs.Notes.{entry_in, is_with, kind_of_act, lowest_of, no_entry, read_act, read_going, read_step, shown_note, took_in}
use Rattle.zone_stretches.specs.Occurrences.{act_of, going_on_of, kind_after_act, kind_in, lowest_of_event, occurrences_from, occurrences_in, occurrences_of}
use Rattle.sync_types.proofs.BoardTests.{no_truth, among_kept}
use Rattle.sync_types.specs.BoardActions.{after_own_part, after_part, after_effects, channels_started, state_of_actor, state_after_action, state_after_alarm}
use Rattle.sync_types.specs.BoardAlarms.{alarm_of}
use Rattle.sync_types.specs.Boards.{Hold, State, IsHolding, Board, among, channel_numbers, has_ended, is_running}
use Rattle.sync_types.specs.Events.{channels_in, pairs_of}
use Rattle.sync_types.specs.GoingOn.{Going, first_of, go_of, goes_at_once, goers_at_once, state_after_goes, after_goes, waits_for_axes, next_taker, state_after_taking, after_taking, takings, takings_from}
use Rattle.sync_types.specs.Turns.{Move, AreEntries, after_step, goings_in_step}
use Rattle.sync_types.specs.Views.{EntryView}
use Rattle.sync_types.specs.declared.Action.{Action}
use Rattle.sync_types.specs.declared.Action.TheVariants.{WaitM, WaitE, Get}
use Rattle.sync_types.specs.declared.Step.{Step}
use Rattle.sync_types.specs.declared.runs.Go.{Go}
use Rattle.sync_types.specs.declared.verdicts.StretchKind.{StretchKind}
use Rattle.sync_types.specs.declared.verdicts.StretchKind.TheVariants.{Run, Hold as Holds, End}

-- ---- the lowest channel of an event

first_in_range : (p : ℕ → Bool) (n a k : ℕ) → a ≤ k → k < a + n → ((d : ℕ) → a ≤ d → d < k → p d ≡ false) → p k ≡ true → first_of (filter p (range_with_len a n)) ≡ Some k
first_in_range p zero a k from below none on = absurd (omega arith)
first_in_range p (suc n) a k from below none on = elim (cases_Bool (a == k)) [
  | inl here ↦ let e : a ≡ k = eqb-true a k here in rw (e, on) refl
  | inr later ↦
      let apart : a ≡ k → ⊥ = eqb-false a k later in
      let off : p a ≡ false = none a (omega arith) (omega arith) in
      rw off (first_in_range p n (a + 1) k (omega arith) (omega arith) (λ d up low. none d (omega arith) low) on)
]

none_in_range : (p : ℕ → Bool) (n a : ℕ) → ((d : ℕ) → a ≤ d → d < a + n → p d ≡ false) → first_of (filter p (range_with_len a n)) ≡ None
none_in_range p zero a none = refl
none_in_range p (suc n) a none =
    let off : p a ≡ false = none a (omega arith) (omega arith) in
    rw off (none_in_range p n (a + 1) (λ d up low. none d (omega arith) (omega arith)))

first_of_all : (p : ℕ → Bool) (k : ℕ) → 1 ≤ k → k < CHANNEL_PLACES → ((d : ℕ) → 1 ≤ d → d < k → p d ≡ false) → p k ≡ true → first_of (filter p channel_numbers) ≡ Some k
first_of_all p k from below none on = first_in_range p CHANNEL_LIMIT 1 k from below none on

none_of_all : (p : ℕ → Bool) → ((d : ℕ) → 1 ≤ d → d < CHANNEL_PLACES → p d ≡ false) → first_of (filter p channel_numbers) ≡ None
none_of_all p none = none_in_range p CHANNEL_LIMIT 1 none

pub lowest_is : (deed : StepEvents) (c k : ℕ) → 1 ≤ k → k < CHANNEL_PLACES → ((d : ℕ) → 1 ≤ d → d < k → is_with deed c d ≡ false) → is_with deed c k ≡ true → lowest_of deed c ≡ k
unfolding lowest_of
lowest_is deed c k from below none on = ap (λ (o : Option ℕ). unwrap_or o c) (first_of_all (is_with deed c) k from below none on)

pub lowest_none : (deed : StepEvents) (c : ℕ) → ((d : ℕ) → 1 ≤ d → d < CHANNEL_PLACES → is_with deed c d ≡ false) → lowest_of deed c ≡ c
unfolding lowest_of
lowest_none deed c none = ap (λ (o : Option ℕ). unwrap_or o c) (none_of_all (is_with deed c) none)

-- ---- notes as they are shown

pub going_shown : (i : ℕ) (deed : StepEvents) (go : Go) (lowest : ℕ) (axes : List Bool) → lowest ≡ lowest_of deed go.channel → ((x : ℕ) → has axes x ≡ took_in (departure_of deed go.channel) x)
    → shown_note (record { name = record { step = i; channel = lowest; go = true }; channel = go.channel; kind = Run; line = None; on = go.grant.on; axes = axes }) go.grant.at ≡ read_going i deed go
unfolding shown_note
going_shown i deed go lowest axes lowest_is took =
    let same : has axes ≡ took_in (departure_of deed go.channel) = fun_ext took in
    rw (lowest_is, same) refl

pub all_none : {X : Type 0} (P : X → Type 0) → All P []
all_none P k d below = absurd (omega arith)

-- ---- what the code reads of a step is what happens

-- a channel that does not hold stays as it is while others go on
goes_off : (b : Board) (s : State) → hold_in s ≡ None → goes_at_once b s ≡ false
goes_off b (IsHolding hold line) none = no_truth false (ap is_some (sym none)) refl
goes_off b other none = refl

waits_off : (s : State) → hold_in s ≡ None → waits_for_axes s ≡ false
waits_off (IsHolding hold line) none = no_truth false (ap is_some (sym none)) refl
waits_off other none = refl

and_false : (t : Bool) → (t && false) ≡ false
and_false true = refl
and_false false = refl

kept_by_goes : (b : Board) (c : ℕ) → hold_in (b.state c) ≡ None → (after_goes b).state c ≡ b.state c
unfolding state_after_goes
kept_by_goes b c none =
    let off : among (goers_at_once b) c ≡ false = among_kept (λ d. goes_at_once b (b.state d)) channel_numbers c ∙ rw (goes_off b (b.state c) none) (and_false (among channel_numbers c)) in
    rw off refl

kept_by_taking : (b : Board) (d c : ℕ) → next_taker b ≡ Some d → hold_in (b.state c) ≡ None → (after_taking b d).state c ≡ b.state c
unfolding state_after_taking
kept_by_taking b d c takes none = elim (cases_Bool (c == d)) [
  | inl same ↦ let e : c ≡ d = eqb-true c d same in no_truth (waits_for_axes (b.state d)) (taker_waits b d takes) (rw (sym e) (waits_off (b.state c) none))
  | inr other ↦ rw other refl
]

kept_by_takings : (n : ℕ) (b : Board) (c : ℕ) → hold_in (b.state c) ≡ None → (takings n b).board.state c ≡ b.state c
kept_by_takings zero b c none = refl
kept_by_takings (suc n) b c none = next (kept_by_takings n) (next_taker b) refl
  where
    next : ((a : Board) (d : ℕ) → hold_in (a.state d) ≡ None → (takings n a).board.state d ≡ a.state d)
        → (taker : Option ℕ) → next_taker b ≡ taker → (takings_from (takings n) b taker).board.state c ≡ b.state c
    next rest None is = refl
    next rest (Some d) is = let kept = kept_by_taking b d c is none in rest (after_taking b d) c (rw kept none) ∙ kept

kept_in_step : (b : Board) (c : ℕ) (step : Step) → hold_in ((after_own_part b c step).state c) ≡ None → (after_step b c step).state c ≡ (after_own_part b c step).state c
kept_in_step b c step none =
    let own : Board = after_own_part b c step in
    let kept : (after_goes own).state c ≡ own.state c = kept_by_goes own c none in
    kept_by_takings CHANNEL_LIMIT (after_goes own) c (rw kept none) ∙ kept

-- what the acting channel does after its own part
abbrev ended_or_on : Bool → StretchKind
ended_or_on b = if b then End else Run

actor_kind : (b : Board) (c line : ℕ) (action : Action) → hold_in (state_of_actor b c line action) ≡ None
    → kind_in (state_of_actor b c line action) ≡ ended_or_on (has_ended (state_of_actor b c line action) || false)
actor_kind b c line (WaitM m named) none = no_truth false (ap is_some (sym none)) refl
actor_kind b c line (WaitE named) none = no_truth false (ap is_some (sym none)) refl
actor_kind b c line (Get axes) none = no_truth false (ap is_some (sym none)) refl
actor_kind b c line other none = refl

part_kind : (b : Board) (c : ℕ) (step : Step) (alarm : Option ℕ) → hold_in ((after_part b c step alarm).state c) ≡ None
    → kind_in ((after_part b c step alarm).state c) ≡ ended_or_on (has_ended ((after_part b c step alarm).state c) || is_some alarm)
unfolding state_after_alarm state_after_action
part_kind b c step (Some code) none = rw (eq-eqb c c refl) refl
part_kind b c step None none = rw (eq-eqb c c refl) (actor_kind (after_effects b c step) c step.line step.action (rw (eq-eqb c c refl) at none))

begun_none : (o : Option code.Hold) → is_some o ≡ is_some (begun_shown o)
begun_none (Some hold) = refl
begun_none None = refl

kind_of_held : (o : Option Hold) (s : State) (k : StretchKind) → (o ≡ None → kind_in s ≡ k) → (if is_some o then Holds else k) ≡ kind_after_act o s
kind_of_held (Some hold) s k is = refl
kind_of_held None s k is = sym (is refl)

act_kind : (b : Board) (c : ℕ) (step : Step) (read : ReadStep) → IsRead read.deed (happening_of b c step) → read.alarms ≡ is_some (alarm_of b c step.action)
    → kind_of_act read ≡ kind_after_act (happening_of b c step).begins ((happening_of b c step).after c)
unfolding kind_of_act
act_kind b c step read told alarms =
    let begins : is_some read.deed.begins ≡ is_some (happening_of b c step).begins = begun_none read.deed.begins ∙ ap is_some told.begins in
    rw (begins, told.ends, alarms) (kind_of_held (happening_of b c step).begins ((happening_of b c step).after c) (ended_or_on (has_ended ((after_own_part b c step).state c) || is_some (alarm_of b c step.action)))
    (λ none. ap kind_in (kept_in_step b c step none) ∙ part_kind b c step (alarm_of b c step.action) none))

-- which channel names an event
filter_alike : (p q : ℕ → Bool) (xs : List ℕ) → ((x : ℕ) → p x ≡ q x) → filter p xs ≡ filter q xs
filter_alike p q [] same = refl
filter_alike p q (x ∷ xs) same = rw (same x, filter_alike p q xs same) refl

first_alike : (p q : ℕ → Bool) (c : ℕ) → ((x : ℕ) → p x ≡ q x) → unwrap_or (first_of (filter p channel_numbers)) c ≡ unwrap_or (first_of (filter q channel_numbers)) c
first_alike p q c same = ap (λ (xs : List ℕ). unwrap_or (first_of xs) c) (filter_alike p q channel_numbers same)

and_alike : (s t u v : Bool) → s ≡ t → (t ≡ true → u ≡ v) → (s && u) ≡ (t && v)
and_alike s true u v e same = rw (e, same refl) refl
and_alike s false u v e same = rw e refl

lowest_alike : (b : Board) (ms : List Move) (i : ℕ) (deed : StepEvents) (c : ℕ) → IsRead deed (happening_at b ms i) → goes_in deed c ≡ true
    → lowest_of deed c ≡ lowest_of_event (happening_at b ms i).goings c
unfolding lowest_of
lowest_alike b ms i deed c told goes =
    let step : IsStep _ i deed = step_read b ms i deed told in
    first_alike (is_with deed c) (λ d. among (channels_in (happening_at b ms i).goings) d && (labels (pairs_of (happening_at b ms i).goings) d == labels (pairs_of (happening_at b ms i).goings) c)) c
    (λ d. and_alike _ _ _ _ (sym (step.goers d)) (λ on. sym (told.group c d goes (sym (step.goers d) ∙ on))))

-- what one that goes on took
alike : (s t : Bool) → (s ≡ true → t ≡ true) → (t ≡ true → s ≡ true) → s ≡ t
alike true t to from = sym (to refl)
alike false true to from = from refl
alike false false to from = refl

listed : (gs : List Going) (g : Going) → IsIn g gs → among (channels_in gs) g.channel ≡ true
listed [] g within = absurd within
listed (h ∷ gs) g (inl e) = rw (eq-eqb h.channel g.channel (ap (λ (k : Going). k.channel) (sym e))) refl
listed (h ∷ gs) g (inr later) = or_second (h.channel == g.channel) _ (listed gs g later)
  where
    or_second : (p q : Bool) → q ≡ true → (p || q) ≡ true
    or_second true q on = refl
    or_second false q on = on

-- one that goes on as the code has it
record IsTold (deed : StepEvents) (g : Going) : Type 0 where
  goes : goes_in deed g.channel ≡ true
  took : (x : ℕ) → took_in (departure_of deed g.channel) x ≡ among g.took x

told_one : (b : Board) (c : ℕ) (step : Step) (deed : StepEvents) (g : Going) → is_running (b.state c) ≡ true → IsRead deed (happening_of b c step) → IsIn g (goings_in_step b c step) → IsTold deed g
told_one b c step deed g running told within = by_going (going_of (goings_in_step b c step) g.channel) (departure_of deed g.channel) refl refl (told.goings g.channel)
  where
    own : Board
    own = after_own_part b c step

    by_going : (o : Option Going) (d : Option Wakeup) → going_of (goings_in_step b c step) g.channel ≡ o → departure_of deed g.channel ≡ d → IsGoingOf (departure_of deed g.channel) (going_of (goings_in_step b c step) g.channel) → IsTold deed g
    by_going None d e f is = no_truth false (ap is_some (sym e) ∙ (going_some (goings_in_step b c step) g.channel ∙ listed (goings_in_step b c step) g within)) refl
    by_going (Some h) None e f is = absurd (rw (e, f) at is)
    by_going (Some h) (Some gone) e f is =
        let found = going_within (goings_in_step b c step) g.channel h e in
        let took = (rw (e, f) at is).took in
        let started : (s : ℕ) → among (channels_started (alarm_of b c step.action) step.action) s ≡ true → _ = λ s on. started_waits b c step s running on in
        record {
          goes = rw f refl;
          took = λ x. rw f (took x ∙ alike (among h.took x) (among g.took x)
              (takers_alike (after_own_part b c step) (channels_started (alarm_of b c step.action) step.action) h g started found.0 within found.1 x)
              (takers_alike (after_own_part b c step) (channels_started (alarm_of b c step.action) step.action) g h started within found.0 (sym found.1) x));
        }

map_alike : {A C : Type 0} (f g : A → C) (xs : List A) → ((x : A) → IsIn x xs → f x ≡ g x) → map f xs ≡ map g xs
map_alike f g [] same = refl
map_alike f g (x ∷ xs) same = rw (same x (inl refl), map_alike f g xs (λ y within. same y (inr within))) refl

map_twice : {A B C : Type 0} (f : B → C) (g : A → B) (xs : List A) → map f (map g xs) ≡ map (λ x. f (g x)) xs
map_twice f g [] = refl
map_twice f g (x ∷ xs) = ap (λ (rest : List _). f (g x) ∷ rest) (map_twice f g xs)

going_told : (b : Board) (ms : List Move) (i : ℕ) (deed : StepEvents) (g : Going) → IsRead deed (happening_at b ms i) → IsTold deed g → read_going i deed (go_of g) ≡ going_on_of i (happening_at b ms i).goings g
going_told b ms i deed g told is =
    let took : took_in (departure_of deed g.channel) ≡ among g.took = fun_ext is.took in
    rw (lowest_alike b ms i deed g.channel told is.goes, took) refl

act_told : (b : Board) (c i : ℕ) (step : Step) (read : ReadStep) → IsRead read.deed (happening_of b c step) → read.alarms ≡ is_some (alarm_of b c step.action)
    → read_act i read step ≡ act_of i step (happening_of b c step)
act_told b c i step read told alarms =
    let frees : has read.deed.frees ≡ among (happening_of b c step).frees = fun_ext told.frees in
    rw (act_kind b c step read told alarms, told.channel, frees) refl

-- the events of a step
step_told_at : (b : Board) (ms : List Move) (i : ℕ) (on : Board) (e : EntryView) (read : ReadStep) → happening_at b ms i ≡ happening_of on e.channel e.step → is_running (on.state e.channel) ≡ true
    → e.goes ≡ map go_of (goings_in_step on e.channel e.step) → IsRead read.deed (happening_at b ms i) → read.alarms ≡ is_some (alarm_of on e.channel e.step.action)
    → read_step i read e ≡ occurrences_in i e.step (happening_at b ms i)
step_told_at b ms i on e read is running goes told alarms =
    let here : IsRead read.deed (happening_of on e.channel e.step) = rw is at told in
    let act : read_act i read e.step ≡ act_of i e.step (happening_at b ms i) = rw is (act_told on e.channel i e.step read here alarms) in
    let goings : map (read_going i read.deed) e.goes ≡ map (going_on_of i (happening_at b ms i).goings) (happening_at b ms i).goings =
    ap (map (read_going i read.deed)) goes ∙ (map_twice (read_going i read.deed) go_of (goings_in_step on e.channel e.step)
    ∙ (map_alike (λ g. read_going i read.deed (go_of g)) (going_on_of i (happening_at b ms i).goings) (goings_in_step on e.channel e.step)
    (λ g within. going_told b ms i read.deed g told (told_one on e.channel e.step read.deed g running here within))
    ∙ ap (λ (h : Happening). map (going_on_of i (happening_at b ms i).goings) h.goings) (sym is))) in
    rw (act, goings) refl

pub step_told : (b : Board) (es : List EntryView) (i : ℕ) (read : ReadStep) → i < length es → AreEntries b es → IsReadStep b (moves_in es) i read
    → read_step i read (entry_in es i) ≡ occurrences_in i (entry_in es i).step (happening_at b (moves_in es) i)
step_told b es i read within are told =
    let at = entry_at es b i no_entry within are in
    step_told_at b (moves_in es) i (board_at b (moves_in es) i) (entry_in es i) read at.happening at.running (ap (λ (e : EntryView). e.goes) at.entry) told.deed (told.alarms ∙ at.alarm)

-- ---- the events of the run

-- those of the step of a place, and then those of the later ones
pub occurrences_next : (es : List EntryView) (b : Board) (i j : ℕ) → i < length es
    → occurrences_from (board_at b (moves_in es) i) j (drop i (moves_in es))
    ≡ occurrences_in j (entry_in es i).step (happening_at b (moves_in es) i) ++ occurrences_from (board_at b (moves_in es) (suc i)) (suc j) (drop (suc i) (moves_in es))
occurrences_next [] b i j within = absurd (omega arith)
occurrences_next (e ∷ es) b zero j within = rw (board_zero (moves_in es) (after_step b e.channel e.step)) refl
occurrences_next (e ∷ es) b (suc i) j within = occurrences_next es (after_step b e.channel e.step) i j (omega arith)

pub occurrences_first : (es : List EntryView) (b : Board) → occurrences_from (board_at b (moves_in es) 0) 0 (drop 0 (moves_in es)) ≡ occurrences_of b (moves_in es)
unfolding occurrences_of
occurrences_first es b = rw (board_zero (moves_in es) b) refl

pub drop_all : {A : Type 0} (xs : List A) (i : ℕ) → length xs ≤ i → drop i xs ≡ []
drop_all [] zero far = refl
drop_all [] (suc i) far = refl
drop_all (x ∷ xs) zero far = absurd (omega arith)
drop_all (x ∷ xs) (suc i) far = drop_all xs i (omega arith)

pub occurrences_past : (es : List EntryView) (b : Board) (i : ℕ) → length es ≤ i → occurrences_from (board_at b (moves_in es) i) i (drop i (moves_in es)) ≡ []
occurrences_past es b i far = rw (drop_all (moves_in es) i (rw (moves_size es) far)) refl
