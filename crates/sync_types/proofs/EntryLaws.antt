-- What entries keep, and one entry more.
use Rattle.std.proofs.Common.{inl, inr, ◌≡◌, ℕ, true, List, [], ◌∷◌, ◌++◌, refl, ap}
use Rattle.std.proofs.lemmas.Bool.{cases_Bool}
use Rattle.sync_types.proofs.BoardTests.{no_truth}
use Rattle.sync_types.proofs.Together.{Keeps, keeps_first, keeps_step}
use Rattle.sync_types.specs.Boards.{Board, first_board, is_running}
use Rattle.sync_types.specs.Starts.{has_channel, IsSound}
use Rattle.sync_types.specs.Togetherness.{AreTogether}
use Rattle.sync_types.specs.Turns.{after_step, after_entries, entry_of, AreEntries}
use Rattle.sync_types.specs.Views.{StartView, EntryView}

-- who runs is a channel of the machine
running_is_known : (b : Board) (c : ℕ) → Keeps b → is_running (b.state c) ≡ true → has_channel b.start c ≡ true
running_is_known b c k runs = elim (cases_Bool (has_channel b.start c)) [
  | inl on ↦ on
  | inr off ↦ no_truth (is_running (b.state c)) runs (ap is_running (k.asleep c off))
]

entries_keep : (b : Board) (entries : List EntryView) → Keeps b → AreEntries b entries → Keeps (after_entries b entries)
entries_keep b [] k lawful = k
entries_keep b (e ∷ es) k lawful =
    entries_keep (after_step b e.channel e.step) es (keeps_step b (record { channel = e.channel; step = e.step }) (running_is_known b e.channel k lawful.0) k).0 lawful.2

-- from a sound start on axes and zones stay together after lawful entries
pub entries_stay_together : (start : StartView) (entries : List EntryView) → IsSound start → AreEntries (first_board start) entries → AreTogether (after_entries (first_board start) entries)
entries_stay_together start entries sound lawful = (entries_keep (first_board start) entries (keeps_first start sound) lawful).together

-- one entry more
pub after_one_more : (b : Board) (entries : List EntryView) (e : EntryView) → after_entries b (entries ++ e ∷ []) ≡ after_step (after_entries b entries) e.channel e.step
after_one_more b [] e = refl
after_one_more b (x ∷ xs) e = after_one_more (after_step b x.channel x.step) xs e

pub lawful_with_one_more : (b : Board) (entries : List EntryView) (e : EntryView) → AreEntries b entries → is_running ((after_entries b entries).state e.channel) ≡ true
    → e ≡ entry_of (after_entries b entries) e.channel e.step → AreEntries b (entries ++ e ∷ [])
lawful_with_one_more b [] e lawful runs is = (runs, is, tt)
lawful_with_one_more b (x ∷ xs) e lawful runs is = (lawful.0, lawful.1, lawful_with_one_more (after_step b x.channel x.step) xs e lawful.2 runs is)
