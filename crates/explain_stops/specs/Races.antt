-- Meaning. What races are for and what would close them: rows of a table, by their letters.
use Rattle.std.specs.Prelude.{ℕ, ◌==◌, List, [], Option, None, Some, map}
use Rattle.std.specs.List.{find}
use Rattle.explain_stops.specs.declared.races.TheConstants.{RACES}

-- a row: a letter, what is raced for, and what would close the race
abbrev pub Row : Type 0
Row = ℕ × List ℕ × List ℕ

-- the rows of the races
unfoldable pub races : List Row
races = map (λ row. (row.0, row.1.now, row.2.now)) RACES

-- the row of a letter
abbrev pub row_of : List Row → ℕ → Option Row
row_of rows letter = find (λ row. row.0 == letter) rows

abbrev pub prize_in : Option Row → List ℕ
prize_in None = []
prize_in (Some row) = row.1

abbrev pub remedy_in : Option Row → List ℕ
remedy_in None = []
remedy_in (Some row) = row.2

-- what is raced for; nothing where there is no such race
unfoldable pub prize_of : List Row → ℕ → List ℕ
prize_of rows letter = prize_in (row_of rows letter)

-- what would close it
unfoldable pub remedy_of : List Row → ℕ → List ℕ
remedy_of rows letter = remedy_in (row_of rows letter)
