-- A whole step, and the entry that it leaves.
use Rattle.axis_sets.specs.declared.limits.TheConstants.{CHANNEL_LIMIT}
use Rattle.std.proofs.Common.{◌≡◌, ℕ, zero, suc, Option, Some, None, ◌+◌, ◌≤◌, true, List, [], ◌∷◌, ◌++◌, map, length, length-append, append_assoc, subst, refl, sym, ap, ap₂, ◌∙◌, arith}
use Rattle.std.proofs.lemmas.List.{length-map}
use Rattle.sync_types.proofs.EntryLaws.{after_one_more, lawful_with_one_more}
use Rattle.sync_types.proofs.GoingCounts.{few_go}
use Rattle.sync_types.specs.BoardActions.{after_own_part, after_part, channels_started}
use Rattle.sync_types.specs.BoardAlarms.{alarm_of}
use Rattle.sync_types.specs.Boards.{Board, first_board, is_running}
use Rattle.sync_types.specs.GoingOn.{Going, go_of, going_of_start, going_at_once, goers_at_once, after_goes, all_takings, goings_on, takings, takings_from, next_taker, after_taking}
use Rattle.sync_types.specs.RunLaws.{StartsChannels}
use Rattle.sync_types.specs.Turns.{after_step, after_entries, entry_of, goings_in_step, AreEntries}
use Rattle.sync_types.specs.Views.{StartView, EntryView}
use Rattle.sync_types.specs.declared.Step.{Step}
use Rattle.sync_types.specs.declared.runs.Go.{Go}

all_within : (b own : Board) (c : ℕ) (step : Step) → StartsChannels step.action → own ≡ after_own_part b c step
    → length (goings_on own (channels_started (alarm_of b c step.action) step.action)) ≤ CHANNEL_LIMIT
all_within b own c step named is =
    let P : Board → Type 0 = λ a. length (goings_on a (channels_started (alarm_of b c step.action) step.action)) ≤ CHANNEL_LIMIT in
    subst P (sym is) (few_go b c step named)

-- there is room for all that go on
pub room_at_once : (b own : Board) (c : ℕ) (step : Step) (goes : List Go) → StartsChannels step.action → own ≡ after_own_part b c step
    → goes ≡ map go_of (map (going_of_start own) (channels_started (alarm_of b c step.action) step.action))
    → length goes + length (goers_at_once own) ≤ CHANNEL_LIMIT
room_at_once b own c step goes named is started =
    let starts : List ℕ = channels_started (alarm_of b c step.action) step.action in
    let first : List Going = map (going_of_start own) starts in
    let at_once : List Going = map (going_at_once own) (goers_at_once own) in
    let takers : List Going = (all_takings (after_goes own)).goings in
    omega (
      arith,
      all_within b own c step named is,
      ap (λ (gs : List Go). length gs) started,
      length-map first go_of,
      length-append first (at_once ++ takers),
      length-append at_once takers,
      length-map (goers_at_once own) (going_at_once own),
    )

pub room_after : (b own gone : Board) (c : ℕ) (step : Step) (goes more : List Go) → StartsChannels step.action → own ≡ after_own_part b c step
    → goes ≡ map go_of (map (going_of_start own) (channels_started (alarm_of b c step.action) step.action))
    → more ≡ goes ++ map go_of (map (going_at_once own) (goers_at_once own)) → gone ≡ after_goes own
    → length more + length (all_takings gone).goings ≤ CHANNEL_LIMIT
room_after b own gone c step goes more named is started went moved =
    let starts : List ℕ = channels_started (alarm_of b c step.action) step.action in
    let first : List Going = map (going_of_start own) starts in
    let at_once : List Going = map (going_at_once own) (goers_at_once own) in
    let takers : List Going = (all_takings (after_goes own)).goings in
    omega (
      arith,
      all_within b own c step named is,
      ap (λ (gs : List Go). length gs) started,
      ap (λ (gs : List Go). length gs) went,
      ap (λ (a : Board). length (all_takings a).goings) moved,
      length-map first go_of,
      length-map at_once go_of,
      length-append goes (map go_of at_once),
      length-append first (at_once ++ takers),
      length-append at_once takers,
    )

map_joined : (xs ys : List Going) → map go_of (xs ++ ys) ≡ map go_of xs ++ map go_of ys
map_joined [] ys = refl
map_joined (x ∷ xs) ys = ap (λ (gs : List Go). go_of x ∷ gs) (map_joined xs ys)

-- all that go on, in order
pub goes_of_step : (b own gone : Board) (c : ℕ) (step : Step) (goes more all : List Go) → own ≡ after_own_part b c step
    → goes ≡ map go_of (map (going_of_start own) (channels_started (alarm_of b c step.action) step.action))
    → more ≡ goes ++ map go_of (map (going_at_once own) (goers_at_once own)) → gone ≡ after_goes own
    → all ≡ more ++ map go_of (all_takings gone).goings
    → all ≡ map go_of (goings_in_step b c step)
goes_of_step b own gone c step goes more all is started went moved took =
    let starts : List ℕ = channels_started (alarm_of b c step.action) step.action in
    let first : List Going = map (going_of_start own) starts in
    let at_once : List Going = map (going_at_once own) (goers_at_once own) in
    let takers : List Going = (all_takings (after_goes own)).goings in
    took
    ∙ ap₂ (λ (gs : List Go) (a : Board). gs ++ map go_of (all_takings a).goings) (went ∙ ap (λ (gs : List Go). gs ++ map go_of at_once) started) moved
    ∙ append_assoc (map go_of first) (map go_of at_once) (map go_of takers)
    ∙ ap (λ (gs : List Go). map go_of first ++ gs) (sym (map_joined at_once takers))
    ∙ sym (map_joined first (at_once ++ takers))
    ∙ ap (λ (a : Board). map go_of (goings_on a starts)) is

-- the board and its entries after one step more
pub record Entered (start : StartView) (now : Board) (all : List EntryView) : Type 0 where
  pub board : now ≡ after_entries (first_board start) all
  pub lawful : AreEntries (first_board start) all

pub entered : (start : StartView) (before now : Board) (entries all : List EntryView) (c : ℕ) (step : Step) (goes : List Go)
    → before ≡ after_entries (first_board start) entries → AreEntries (first_board start) entries → is_running ((after_entries (first_board start) entries).state c) ≡ true
    → now ≡ after_step before c step → goes ≡ map go_of (goings_in_step before c step)
    → all ≡ entries ++ record { channel = c; step = step; goes = goes } ∷ []
    → Entered start now all
entered start before now entries all c step goes is lawful runs moved gone listed =
    let b : Board = first_board start in
    let e : EntryView = record { channel = c; step = step; goes = goes } in
    let P : List EntryView → Type 0 = λ es. AreEntries b es in
    record {
      board = moved ∙ ap (λ (a : Board). after_step a c step) is ∙ sym (after_one_more b entries e) ∙ ap (after_entries b) (sym listed);
      lawful = subst P (sym listed) (lawful_with_one_more b entries e lawful runs
          (ap (λ (gs : List Go). record { channel = c; step = step; goes = gs }) (gone ∙ ap (λ (a : Board). map go_of (goings_in_step a c step)) is)));
    }

pub entry_made : (start : StartView) (before : Board) (entries : List EntryView) (c : ℕ) (step : Step) (goes : List Go)
    → before ≡ after_entries (first_board start) entries → goes ≡ map go_of (goings_in_step before c step)
    → record { channel = c; step = step; goes = goes } ≡ entry_of (after_entries (first_board start) entries) c step
entry_made start before entries c step goes is gone =
    ap (λ (gs : List Go). record { channel = c; step = step; goes = gs }) (gone ∙ ap (λ (a : Board). map go_of (goings_in_step a c step)) is)

-- no step changes where the board started
takings_start : (n : ℕ) (b : Board) → (takings n b).board.start ≡ b.start
takings_start zero b = refl
takings_start (suc n) b = next (takings_start n) (next_taker b)
  where
    next : ((a : Board) → (takings n a).board.start ≡ a.start) → (taker : Option ℕ) → (takings_from (takings n) b taker).board.start ≡ b.start
    next rest None = refl
    next rest (Some c) = rest (after_taking b c)

part_start : (b : Board) (c : ℕ) (step : Step) (alarm : Option ℕ) → (after_part b c step alarm).start ≡ b.start
part_start b c step (Some code) = refl
part_start b c step None = refl

pub step_start : (b : Board) (c : ℕ) (step : Step) → (after_step b c step).start ≡ b.start
step_start b c step = takings_start CHANNEL_LIMIT (after_goes (after_own_part b c step)) ∙ part_start b c step (alarm_of b c step.action)
