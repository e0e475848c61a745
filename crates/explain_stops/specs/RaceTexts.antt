-- Meaning. How the verdict RACE is said.
use Rattle.std.specs.Prelude.{ℕ, List, ◌++◌, codes}
use Rattle.job_types.specs.Job.{JobView}
use Rattle.explain_stops.specs.Races.{prize_of, races, remedy_of}
use Rattle.sync_types.specs.declared.runs.Race.{Race}
use Rattle.explain_places.specs.Lines.{block_text, channel_text}

-- a place of a race, behind its name
unfoldable pub place_text : List ℕ → JobView → List ℕ → ℕ × ℕ → List ℕ
place_text input job name place = name ++ (channel_text place.0 ++ (codes ", " ++ (block_text input job place.1 ++ codes "\n")))

-- what was raced for, and what would close the race
unfoldable pub advice_text : List ℕ → List ℕ → List ℕ
advice_text prize remedy = codes "What was raced for: " ++ (prize ++ (codes "\nWhat to do: " ++ (remedy ++ codes "\n")))

-- both places, and what the letter of the race says
unfoldable pub race_text : List ℕ → JobView → Race → List ℕ
race_text input job race = codes "RACE: nothing says which of two places comes first, and what follows may depend on it.\n"
    ++ (place_text input job (codes "First place:  ") race.first
    ++ (place_text input job (codes "Second place: ") race.second
    ++ advice_text (prize_of races race.case) (remedy_of races race.case)))
