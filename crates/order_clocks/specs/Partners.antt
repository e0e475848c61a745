-- Steps. Two that go on and name each other at one mark number, as the code has them.
use Rattle.axis_sets.specs.declared.limits.TheConstants.{CHANNEL_PLACES}
use Rattle.std.specs.Prelude.{◌≡◌, ℕ, ◌<◌, true, List, Option, slice_index}
use Rattle.step_deeds.specs.declared.deed.Wakeup.{Wakeup}
use Rattle.sync_types.specs.Events.{AreLinked, ArePaired, Pair}
use Rattle.step_deeds.specs.Holds.{are_partners}

-- each two that name each other are a pair of the list
abbrev pub PairsAllPartners : List Pair → List (Option Wakeup) → Type 0
PairsAllPartners ps goes = (a b : ℕ) → are_partners goes a b ≡ true → ArePaired ps a b

-- channels with one number are joined
abbrev pub AreAllLinked : List Pair → List ℕ → Type 0
AreAllLinked ps group = (c d : ℕ) → c < CHANNEL_PLACES → d < CHANNEL_PLACES → slice_index group c ≡ slice_index group d → AreLinked ps c d
