-- The first race, from step to step.
use Rattle.std.proofs.Common.{◌≡◌, ℕ, suc, inl, inr, List, Option, Some, None, refl, arith}
use Rattle.std.proofs.lemmas.Bool.{cases_lt}
use Rattle.order_clocks.specs.Pairs.{IsLeastWith}
use Rattle.order_clocks.specs.Races.{IsRace, IsFirst}
use Rattle.sync_types.specs.Boards.{Board}
use Rattle.sync_types.specs.Turns.{Move}
use Rattle.sync_types.specs.declared.runs.Race.{Race}

-- the step after those without a race
pub first_more : (b : Board) (ms : List Move) (i : ℕ) (new : Option Race) → IsFirst b ms i None → IsLeastWith (IsRace b ms i) None new → IsFirst b ms (suc i) new
first_more b ms i None none known = λ j race within is. elim (cases_lt j i) [
  | inl early ↦ none j race early is
  | inr late ↦
      let here : j ≡ i = omega arith in
      let w = known.least race (inl (rw here at is)) in
      let bad : None ≡ Some w.0 = w.1.0 in
      absurd (cc)
]
first_more b ms i (Some race) none known = (
  i,
  record {
    within = omega arith;
    race_there = elim (known.from race refl) [ inl is ↦ is | inr old ↦ let bad : None ≡ Some race = old in absurd (cc) ];
    none_before = λ j other early is. none j other early is;
    least = λ other is.
        let w = known.least other (inl is) in
        let same : race ≡ w.0 = cc in
        rw same w.1.1;
  },
)

-- a race stays the first
pub first_still : (b : Board) (ms : List Move) (i : ℕ) (race : Race) → IsFirst b ms i (Some race) → IsFirst b ms (suc i) (Some race)
first_still b ms i race first =
    let w = first.1 in
    let within = w.within in
    (first.0, record { within = omega arith; race_there = w.race_there; none_before = w.none_before; least = w.least })
