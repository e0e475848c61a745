-- Meaning. What refusals and alarms are called, when they come and what to do: rows of a table, by their codes.
use Rattle.std.specs.Prelude.{ℕ, ◌==◌, List, [], Option, None, Some, map}
use Rattle.std.specs.List.{find}
use Rattle.explain_advice.specs.declared.tables.TheConstants.{REFUSALS, ALARMS}

-- a row: a code, what it is called, when it comes and what to do
abbrev pub Row : Type 0
Row = ℕ × List ℕ × List ℕ × List ℕ

-- the rows of the refusals
unfoldable pub refusals : List Row
refusals = map (λ row. (row.0, row.1.now, row.2.now, row.3.now)) REFUSALS

-- the rows of the alarms
unfoldable pub alarms : List Row
alarms = map (λ row. (row.0, row.1.now, row.2.now, row.3.now)) ALARMS

-- the row of a code
abbrev pub row_of : List Row → ℕ → Option Row
row_of rows code = find (λ row. row.0 == code) rows

abbrev pub name_in : Option Row → List ℕ
name_in None = []
name_in (Some row) = row.1

abbrev pub cause_in : Option Row → List ℕ
cause_in None = []
cause_in (Some row) = row.2

abbrev pub advice_in : Option Row → List ℕ
advice_in None = []
advice_in (Some row) = row.3

-- what the row of a code says that it is called; nothing where there is none
unfoldable pub name_of : List Row → ℕ → List ℕ
name_of rows code = name_in (row_of rows code)

-- when it comes
unfoldable pub cause_of : List Row → ℕ → List ℕ
cause_of rows code = cause_in (row_of rows code)

-- what to do
unfoldable pub advice_of : List Row → ℕ → List ℕ
advice_of rows code = advice_in (row_of rows code)
