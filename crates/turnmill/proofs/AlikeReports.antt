-- Runs in which each channel does the same, and stops alike, have one report.
use Rattle.std.proofs.Common.{◌≡◌, ◌∙◌, ℕ, ◌+◌, ◌==◌, ◌<◌, Bool, true, false, ◌&&◌, if◌then◌else◌, List, [], ◌∷◌, ◌++◌, length, slice_get, slice_index_or, Option, None, Some, filter_map, flat_map, refl, sym, ap, ap₂, arith, append_assoc, length-append, eq-eqb}
use Rattle.std.proofs.lemmas.Bool.Decides.{nat_tests}
use Rattle.std.specs.Option.{option_map_or}
use mathlib.Core.Path.{fun_ext}
use Rattle.std.specs.List.{cons_option, enumerate_from, last_or}
use Rattle.job_report.specs.Actions.{step_line}
use Rattle.job_report.specs.Channels.{channel_line, channel_lines, channels_of, entry_lines, is_at, items_at, last_place, own_lines, own_place, silent_place, state_line, trace_lines}
use Rattle.job_report.specs.Motions.{item_line}
use Rattle.job_report.specs.Report.{all_lines, head_lines, lines_at, report_bytes}
use Rattle.job_report.specs.Verdicts.{verdict_line}
use Rattle.job_types.specs.Job.{JobView}
use Rattle.sync_types.specs.Views.{EntryView, RunView}
use Rattle.sync_types.specs.declared.ChannelEnd.{ChannelEnd}
use Rattle.sync_types.specs.declared.ChannelEnd.TheVariants.{Idle, Ended, Holding, Alarmed}
use Rattle.sync_types.specs.declared.Item.{Item}
use Rattle.sync_types.specs.declared.Step.{Step}
use Rattle.sync_types.specs.declared.verdicts.Verdict.{Verdict}
use Rattle.turnmill.proofs.TurnLemmas.{Deed, deeds_by, deeds_in}

-- ---- the lines of what a channel does

-- nothing more is done
abbrev is_last : List Deed → Bool
is_last [] = true
is_last (deed ∷ deeds) = false

-- the last step has no line where the channel ends silently
abbrev trace_of : JobView → Bool → List Deed → List ℕ
trace_of job silent [] = []
trace_of job silent (deed ∷ deeds) =
    (flat_map (item_line job) deed.0 ++ (if silent && is_last deeds then [] else step_line job deed.1)) ++ trace_of job silent deeds

abbrev is_alarm : ChannelEnd → Bool
is_alarm (Alarmed alarm) = true
is_alarm other = false

-- items for each entry
abbrev pub IsWhole : RunView → Type 0
IsWhole run = length run.entries ≡ length run.items

-- ---- places of a list

-- these are the items of the places from one on
abbrev AreFrom : RunView → ℕ → List (List Item) → Type 0
AreFrom run k [] = Unit {0}
AreFrom run k (items ∷ rest) = (items_at run k ≡ items) × AreFrom run (k + 1) rest

get_there : {X : Type 0} (front : List X) (x : X) (rest : List X) (d : X) → slice_index_or (front ++ x ∷ rest) (length front) d ≡ x
get_there [] x rest d = refl
get_there (y ∷ front) x rest d = get_there front x rest d

are_from : (run : RunView) (front rest : List (List Item)) (k : ℕ) → run.items ≡ front ++ rest → length front ≡ k → AreFrom run k rest
are_from run front [] k all place = tt
are_from run front (items ∷ rest) k all place = (
  ap (λ (xs : List (List Item)). slice_index_or xs k []) all
      ∙ ap (λ (n : ℕ). slice_index_or (front ++ items ∷ rest) n []) (sym place) ∙ get_there front items rest [],
  are_from run (front ++ items ∷ []) rest (k + 1) (all ∙ sym (append_assoc front (items ∷ []) rest)) (length-append front (items ∷ []) ∙ omega (arith, place)),
)

same_number : (a b : ℕ) → (a == b) ≡ (b == a)
same_number a b = grind (arith, nat_tests)

-- ---- of one channel

module _ (job : JobView) (run : RunView) (c : ℕ) where
  abbrev places_from : ℕ → List EntryView → List ℕ
  places_from k entries = filter_map (own_place c) (enumerate_from k entries)

  abbrev lines_from : Option ℕ → ℕ → List EntryView → List ℕ
  lines_from silent k entries = flat_map (own_lines job run c silent) (enumerate_from k entries)

  -- the last place of the channel is none before these
  last_later : (entries : List EntryView) (j k : ℕ) (o : Option ℕ) → j < k → is_at j o ≡ false → is_at j (last_or o (places_from k entries)) ≡ false
  last_later [] j k o less off = off
  last_later (entry ∷ entries) j k o less off =
      by_channel (entry.channel == c) (last_later entries j (k + 1) (Some k) (omega (arith, less)) far) (last_later entries j (k + 1) o (omega (arith, less)) off)
    where
      far : (k == j) ≡ false
      far = grind (arith, nat_tests, less)

      by_channel : (own : Bool) → is_at j (last_or (Some k) (places_from (k + 1) entries)) ≡ false → is_at j (last_or o (places_from (k + 1) entries)) ≡ false
          → is_at j (last_or o (cons_option (if own then Some k else None) (places_from (k + 1) entries))) ≡ false
      by_channel true here there = here
      by_channel false here there = there

  -- it is one of these where the channel does anything there
  last_own : (entries : List EntryView) (rest : List (List Item)) (k : ℕ) (o : Option ℕ) → length entries ≡ length rest
      → last_or o (places_from k entries) ≡ (if is_last (deeds_by c entries rest) then o else last_or None (places_from k entries))
  last_own [] rest k o long = refl
  last_own (entry ∷ entries) [] k o long = absurd (omega (arith, long))
  last_own (entry ∷ entries) (items ∷ rest) k o long =
      by_channel (c == entry.channel) (entry.channel == c) (same_number c entry.channel) (last_own entries rest (k + 1) o (omega (arith, long)))
    where
      by_channel : (own mine : Bool) → own ≡ mine
          → last_or o (places_from (k + 1) entries) ≡ (if is_last (deeds_by c entries rest) then o else last_or None (places_from (k + 1) entries))
          → last_or o (cons_option (if mine then Some k else None) (places_from (k + 1) entries))
          ≡ (if is_last (if own then (items, entry.step) ∷ deeds_by c entries rest else deeds_by c entries rest) then o
          else last_or None (cons_option (if mine then Some k else None) (places_from (k + 1) entries)))
      by_channel true true same later = refl
      by_channel false false same later = later
      by_channel true false same later = absurd cc
      by_channel false true same later = absurd cc

  -- the lines of an entry
  own_lines_of : (silent : Option ℕ) (k : ℕ) (entry : EntryView) → own_lines job run c silent (k, entry) ≡ (if entry.channel == c then entry_lines job run silent (k, entry) else [])
  unfolding own_lines
  own_lines_of silent k entry = refl

  entry_lines_of : (silent : Option ℕ) (k : ℕ) (entry : EntryView)
      → entry_lines job run silent (k, entry) ≡ flat_map (item_line job) (items_at run k) ++ (if is_at k silent then [] else step_line job entry.step)
  unfolding entry_lines
  entry_lines_of silent k entry = refl

  abbrev lines_with : List Item → Bool → Step → List ℕ
  lines_with items quiet step = flat_map (item_line job) items ++ (if quiet then [] else step_line job step)

  lines_of_entry : (silent : Option ℕ) (k : ℕ) (entry : EntryView) (items : List Item) (quiet : Bool) → items_at run k ≡ items → is_at k silent ≡ quiet
      → entry_lines job run silent (k, entry) ≡ lines_with items quiet entry.step
  lines_of_entry silent k entry items quiet there at =
      entry_lines_of silent k entry ∙ ap₂ (λ (now : List Item) (q : Bool). lines_with now q entry.step) there at

  -- the lines of entries, the first of which is the channel's own or not
  first_lines : (silent : Option ℕ) (k : ℕ) (entry : EntryView) (entries : List EntryView) (items : List Item) (rest : List (List Item)) (hush : Bool)
      → ((c == entry.channel) ≡ true → entry_lines job run silent (k, entry) ≡ lines_with items (hush && is_last (deeds_by c entries rest)) entry.step)
      → lines_from silent (k + 1) entries ≡ trace_of job hush (deeds_by c entries rest)
      → lines_from silent k (entry ∷ entries) ≡ trace_of job hush (deeds_by c (entry ∷ entries) (items ∷ rest))
  first_lines silent k entry entries items rest hush own later =
      ap (λ (now : List ℕ). now ++ lines_from silent (k + 1) entries) (own_lines_of silent k entry)
      ∙ by_channel (c == entry.channel) (entry.channel == c) (same_number c entry.channel) own
    where
      by_channel : (mine its : Bool) → mine ≡ its → (mine ≡ true → entry_lines job run silent (k, entry) ≡ lines_with items (hush && is_last (deeds_by c entries rest)) entry.step)
          → (if its then entry_lines job run silent (k, entry) else []) ++ lines_from silent (k + 1) entries
          ≡ trace_of job hush (if mine then (items, entry.step) ∷ deeds_by c entries rest else deeds_by c entries rest)
      by_channel true true same here = ap₂ (λ (now more : List ℕ). now ++ more) (here refl) later
      by_channel false false same here = later
      by_channel true false same here = absurd cc
      by_channel false true same here = absurd cc

  -- its lines, where no step is silent
  loud_lines : (entries : List EntryView) (rest : List (List Item)) (k : ℕ) → length entries ≡ length rest → AreFrom run k rest
      → lines_from None k entries ≡ trace_of job false (deeds_by c entries rest)
  loud_lines [] rest k long from = refl
  loud_lines (entry ∷ entries) [] k long from = absurd (omega (arith, long))
  loud_lines (entry ∷ entries) (items ∷ rest) k long from =
      first_lines None k entry entries items rest false (λ own. lines_of_entry None k entry items false from.0 refl)
      (loud_lines entries rest (k + 1) (omega (arith, long)) from.1)

  -- and where the last one is
  silent_lines : (entries : List EntryView) (rest : List (List Item)) (k : ℕ) (silent : Option ℕ) → length entries ≡ length rest → AreFrom run k rest
      → (is_last (deeds_by c entries rest) ≡ false → silent ≡ last_or None (places_from k entries))
      → lines_from silent k entries ≡ trace_of job true (deeds_by c entries rest)
  silent_lines [] rest k silent long from place = refl
  silent_lines (entry ∷ entries) [] k silent long from place = absurd (omega (arith, long))
  silent_lines (entry ∷ entries) (items ∷ rest) k silent long from place =
      first_lines silent k entry entries items rest true
      (λ own. lines_of_entry silent k entry items (is_last ds) from.0 (by_last (is_last ds) refl (own_place_is own)))
      (silent_lines entries rest (k + 1) silent shorter from.1 (λ more. later_place more (c == entry.channel) (entry.channel == c) refl (same_number c entry.channel)))
    where
      ds : List Deed
      ds = deeds_by c entries rest

      shorter : length entries ≡ length rest
      shorter = omega (arith, long)

      -- where the entry is the channel's own
      own_place_is : (c == entry.channel) ≡ true → silent ≡ last_or (Some k) (places_from (k + 1) entries)
      own_place_is own =
          let its : (entry.channel == c) ≡ true = sym (same_number c entry.channel) ∙ own in
          place (ap (λ (b : Bool). is_last (if b then (items, entry.step) ∷ ds else ds)) own)
          ∙ ap (λ (b : Bool). last_or None (cons_option (if b then Some k else None) (places_from (k + 1) entries))) its

      by_last : (last : Bool) → is_last ds ≡ last → silent ≡ last_or (Some k) (places_from (k + 1) entries) → is_at k silent ≡ last
      by_last true is at =
          ap (is_at k) (at ∙ last_own entries rest (k + 1) (Some k) shorter ∙ ap (λ (b : Bool). if b then Some k else last_or None (places_from (k + 1) entries)) is)
          ∙ eq-eqb k k refl
      by_last false is at =
          ap (is_at k) (at ∙ last_own entries rest (k + 1) (Some k) shorter ∙ ap (λ (b : Bool). if b then Some k else last_or None (places_from (k + 1) entries)) is)
          ∙ last_later entries k (k + 1) None (omega arith) refl

      later_place : is_last ds ≡ false → (mine its : Bool) → (c == entry.channel) ≡ mine → mine ≡ its → silent ≡ last_or None (places_from (k + 1) entries)
      later_place more true its own same =
          own_place_is own ∙ last_own entries rest (k + 1) (Some k) shorter
          ∙ ap (λ (b : Bool). if b then Some k else last_or None (places_from (k + 1) entries)) more
      later_place more false its other same =
          place (ap (λ (b : Bool). is_last (if b then (items, entry.step) ∷ ds else ds)) other ∙ more)
          ∙ ap (λ (b : Bool). last_or None (cons_option (if b then Some k else None) (places_from (k + 1) entries))) (sym (same_number c entry.channel) ∙ other)

  -- by how the channel stops
  from_first : AreFrom run 0 run.items
  from_first = are_from run [] run.items 0 refl refl

  trace_is : IsWhole run → (end : ChannelEnd) → trace_lines job run c (silent_place run.entries c end) ≡ trace_of job (is_alarm end) (deeds_in run c)
  unfolding trace_lines silent_place last_place
  trace_is whole (Alarmed alarm) = silent_lines run.entries run.items 0 (last_or None (places_from 0 run.entries)) whole from_first (λ more. refl)
  trace_is whole Idle = loud_lines run.entries run.items 0 whole from_first
  trace_is whole (Ended line) = loud_lines run.entries run.items 0 whole from_first
  trace_is whole (Holding line) = loud_lines run.entries run.items 0 whole from_first

-- ---- of all channels

module _ (job : JobView) (run other : RunView) (whole : IsWhole run) (other_whole : IsWhole other) (same : (c : ℕ) → deeds_in run c ≡ deeds_in other c) (ends : run.ends ≡ other.ends) where
  same_channel : (c : ℕ) (end : ChannelEnd) → channel_lines job run c end ≡ channel_lines job other c end
  unfolding channel_lines
  same_channel c end =
      ap (λ (lines : List ℕ). channel_line c ++ (lines ++ state_line end))
      (trace_is job run c whole end ∙ ap (trace_of job (is_alarm end)) (same c) ∙ sym (trace_is job other c other_whole end))

  same_end : (c : ℕ) (o : Option ChannelEnd) → option_map_or (channel_lines job run c) o [] ≡ option_map_or (channel_lines job other c) o []
  same_end c None = refl
  same_end c (Some end) = same_channel c end

  same_lines : (numbered : ℕ × ℕ) → lines_at job run numbered ≡ lines_at job other numbered
  unfolding lines_at
  same_lines numbered =
      same_end numbered.1 (slice_get run.ends numbered.0)
      ∙ ap (λ (es : List ChannelEnd). option_map_or (channel_lines job other numbered.1) (slice_get es numbered.0) []) ends

  same_all : all_lines job run ≡ all_lines job other
  unfolding all_lines
  same_all = ap (λ (lines : ℕ × ℕ → List ℕ). flat_map lines (enumerate_from 0 (channels_of job))) (fun_ext same_lines)

  pub same_report : (verdict : Verdict) → report_bytes job run verdict ≡ report_bytes job other verdict
  unfolding report_bytes
  same_report verdict = ap (λ (lines : List ℕ). head_lines job.compensation ++ (lines ++ verdict_line verdict)) same_all
