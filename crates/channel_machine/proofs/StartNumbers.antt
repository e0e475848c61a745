-- The channels of a job have the numbers 1 to 8.
use Rattle.std.proofs.Common.{◌≡◌, ℕ, ◌==◌, ◌||◌, Bool, true, false, List, [], ◌∷◌, find, Option, Some, None, refl, sym, ap, ◌∙◌, eqb-true, inl, inr}
use Rattle.std.proofs.lemmas.Bool.{cases_Bool, or_cases}
use Rattle.std.specs.List.{filter_map, list_any}
use Rattle.std.specs.Option.{option_map}
use Rattle.channel_machine.specs.StartStates.{channel_entry, first_channel, first_channels, line_of_channel, start_of}
use Rattle.coord_core.proofs.Numbers.{HasNumbers}
use Rattle.job_types.specs.Job.{JobView}
use Rattle.job_types.specs.declared.job.ChannelLine.{ChannelLine}
use Rattle.sync_types.proofs.BoardTests.{no_truth}
use Rattle.sync_types.specs.Boards.{among, channel_numbers}

-- the CHANNEL line of a number is of that number
found_of : (lines : List ChannelLine) (x : ℕ) (line : ChannelLine) → find (λ line. line.channel == x) lines ≡ Some line → line.channel ≡ x
found_of [] x line is = absurd (let out : ⊥ = cc in out)
found_of (l ∷ lines) x line is = elim (cases_Bool (l.channel == x)) [
  | inl here ↦
      let first : Some l ≡ Some line = rw here at is in
      let same : l ≡ line = cc in
      ap (λ (e : ChannelLine). e.channel) (sym same) ∙ eqb-true l.channel x here
  | inr other ↦ found_of lines x line (rw other at is)
]

entry_of_number : (job : JobView) (x : ℕ) (o : Option ChannelLine) → line_of_channel job x ≡ o → (entry : ℕ × Option ℕ × Bool) → option_map (first_channel job) o ≡ Some entry → entry.0 ≡ x
entry_of_number job x None is entry has = absurd (let out : ⊥ = cc in out)
entry_of_number job x (Some line) is entry has =
    let made : first_channel job line ≡ entry = cc in
    ap (λ (e : ℕ × Option ℕ × Bool). e.0) (sym made) ∙ found_of job.channels x line is

later_in : (b : Bool) (xs : List ℕ) (c : ℕ) → among xs c ≡ true → (b || among xs c) ≡ true
later_in true xs c on = refl
later_in false xs c on = on

numbers_in : (job : JobView) (xs : List ℕ) (c : ℕ) → list_any (λ line. line.0 == c) (filter_map (channel_entry job) xs) ≡ true → among xs c ≡ true
numbers_in job [] c has = no_truth false has refl
numbers_in job (x ∷ xs) c has = by_entry (channel_entry job x) refl (λ rest. numbers_in job xs c rest)
  where
    by_entry : (o : Option (ℕ × Option ℕ × Bool)) → channel_entry job x ≡ o → (list_any (λ line. line.0 == c) (filter_map (channel_entry job) xs) ≡ true → among xs c ≡ true) → among (x ∷ xs) c ≡ true
    by_entry None is rest_in = later_in (x == c) xs c (rest_in (rw is at has))
    by_entry (Some entry) is rest_in =
        let found : ((entry.0 == c) || list_any (λ line. line.0 == c) (filter_map (channel_entry job) xs)) ≡ true = rw is at has in
        let same = entry_of_number job x (line_of_channel job x) refl entry is in
        elim (or_cases (entry.0 == c) (list_any (λ line. line.0 == c) (filter_map (channel_entry job) xs)) found) [
          | inl here ↦ let on : (x == c) ≡ true = ap (λ (n : ℕ). n == c) (sym same) ∙ here in rw on refl
          | inr rest ↦ later_in (x == c) xs c (rest_in rest)
        ]

-- the channels of a job have the numbers 1 to 8
pub start_numbers : (job : JobView) → HasNumbers (start_of job)
unfolding start_of first_channels
start_numbers job d has = numbers_in job channel_numbers d has
