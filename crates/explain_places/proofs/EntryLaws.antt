-- The last entry of a channel up to and with a step, by its place.
use Rattle.std.proofs.Common.{◌≡◌, ◌∙◌, ℕ, zero, suc, ◌+◌, ◌-◌, ◌==◌, ◌<◌, ◌≤◌, List, [], ◌∷◌, take, length, slice_get, slice_index_or, Option, None, Some, refl, sym, ap, arith}
use Rattle.std.specs.List.{filter_map, last_or}
use Rattle.std.specs.Option.{option_and_then, option_or}
use Rattle.sync_types.specs.Views.{EntryView}
use Rattle.explain_places.specs.Entries.{IsLast, IsLastAt}
use Rattle.explain_places.specs.Spans.{last_own, own_entry}
use Rattle.explain_places.proofs.LatestLaws.{latest_next}

-- what stands at a place, if it is of the channel
abbrev own_at : ℕ → List EntryView → ℕ → Option EntryView
own_at channel xs place = option_and_then (own_entry channel) (slice_get xs place)

-- the last among the first so many
abbrev last_of : ℕ → List EntryView → ℕ → Option EntryView
last_of channel xs count = last_or None (filter_map (own_entry channel) (take count xs))

one_more : (channel : ℕ) (xs : List EntryView) (count : ℕ) → last_of channel xs (suc count) ≡ option_or (own_at channel xs count) (last_of channel xs count)
one_more channel xs count = latest_next (own_entry channel) None xs count

-- after some that are not of the channel the last is as before
none_more : (channel : ℕ) (xs : List EntryView) (count more : ℕ) → ((k : ℕ) → count ≤ k → k < count + more → own_at channel xs k ≡ None) → last_of channel xs (count + more) ≡ last_of channel xs count
none_more channel xs count zero none = let e : count + 0 ≡ count = omega arith in ap (last_of channel xs) e
none_more channel xs count (suc more) none =
    let e : count + suc more ≡ suc (count + more) = omega arith in
    let gone : own_at channel xs (count + more) ≡ None = none (count + more) (omega arith) (omega arith) in
    let before : last_of channel xs (count + more) ≡ last_of channel xs count = none_more channel xs count more (λ k from upto. none k from (omega arith)) in
    ap (last_of channel xs) e ∙ one_more channel xs (count + more) ∙ ap (λ (o : Option EntryView). option_or o (last_of channel xs (count + more))) gone ∙ before

not_own : (channel : ℕ) (entry : EntryView) → ((entry.channel ≡ channel) → ⊥) → own_entry channel entry ≡ None
not_own channel entry other = grind (arith, other)

is_own : (channel : ℕ) (entry : EntryView) → entry.channel ≡ channel → own_entry channel entry ≡ Some entry
is_own channel entry own = grind (arith, own)

other_at : (channel : ℕ) (xs : List EntryView) (k : ℕ) → ((e : EntryView) → k < length xs → (slice_index_or xs k e).channel ≡ channel → ⊥) → own_at channel xs k ≡ None
other_at channel [] k other = refl
other_at channel (x ∷ xs) zero other = not_own channel x (other x (omega arith))
other_at channel (x ∷ xs) (suc k) other = other_at channel xs k (λ e within. other e (omega arith))

own_is : (channel : ℕ) (xs : List EntryView) (k : ℕ) → k < length xs → ((e : EntryView) → (slice_index_or xs k e).channel ≡ channel) → own_at channel xs k ≡ slice_get xs k
own_is channel [] k within own = absurd (omega arith)
own_is channel (x ∷ xs) zero within own = is_own channel x (own x)
own_is channel (x ∷ xs) (suc k) within own = own_is channel xs k (omega arith) own

found : (xs : List EntryView) (k : ℕ) (o : Option EntryView) → k < length xs → option_or (slice_get xs k) o ≡ slice_get xs k
found [] k o within = absurd (omega arith)
found (x ∷ xs) zero o within = refl
found (x ∷ xs) (suc k) o within = found xs k o (omega arith)

-- the entry of that place is the last
pub last_some : (xs : List EntryView) (channel step place : ℕ) → IsLastAt xs channel step place → slice_get xs place ≡ last_own xs channel step
unfolding last_own
last_some xs channel step place is =
    let e : suc place + (step - place) ≡ step + 1 = omega (arith, is.before) in
    let here : last_of channel xs (suc place) ≡ slice_get xs place =
    one_more channel xs place ∙ ap (λ (o : Option EntryView). option_or o (last_of channel xs place)) (own_is channel xs place is.within is.own)
    ∙ found xs place (last_of channel xs place) is.within in
    let after : last_of channel xs (suc place + (step - place)) ≡ last_of channel xs (suc place) =
    none_more channel xs (suc place) (step - place) (λ k from upto. other_at channel xs k (λ entry within. is.later k entry (omega arith) within (omega arith))) in
    sym (sym (ap (last_of channel xs) e) ∙ after ∙ here)

-- there is none
pub last_none : (xs : List EntryView) (channel step : ℕ) → IsLast xs channel step None → last_own xs channel step ≡ None
unfolding last_own
last_none xs channel step none =
    let e : 0 + (step + 1) ≡ step + 1 = omega arith in
    let all : last_of channel xs (0 + (step + 1)) ≡ None = none_more channel xs 0 (step + 1) (λ k from upto. other_at channel xs k (λ entry within. none k entry within (omega arith))) in
    sym (ap (last_of channel xs) e) ∙ all
