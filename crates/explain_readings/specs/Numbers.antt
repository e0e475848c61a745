-- Meaning. Numbers and readings as texts.
use Rattle.std.specs.Prelude.{ℕ, ℤ, pos, negsuc, suc, ◌/◌, ◌%◌, ◌==◌, if◌then◌else◌, List, [], ◌∷◌, ◌++◌, codes}
use Rattle.std.specs.Fmt.{decimal}
use Rattle.std.specs.List.{flat_map}
use Rattle.explain_readings.specs.declared.readings.Reading.{Reading}

-- the next digit of a part that is less than ten of these units; nothing where nothing is left
unfoldable pub digit_text : ℕ → ℕ → List ℕ
digit_text unit part = if part == 0 then [] else decimal (part / unit)

-- the first three decimals of so many millionths, and the last three, without zeros at their end
unfoldable pub first_text : ℕ → List ℕ
first_text part = digit_text 100000 part ++ (digit_text 10000 (part % 100000) ++ digit_text 1000 (part % 10000))

unfoldable pub last_text : ℕ → List ℕ
last_text part = digit_text 100 (part % 1000) ++ (digit_text 10 (part % 100) ++ digit_text 1 (part % 10))

-- so many millionths, less than 1, after a point; nothing where there are none
unfoldable pub fraction_text : ℕ → List ℕ
fraction_text part = if part == 0 then [] else codes "." ++ (first_text part ++ last_text part)

-- so many millionths as a decimal number without zeros at its end
unfoldable pub size_text : ℕ → List ℕ
size_text size = decimal (size / 1000000) ++ fraction_text (size % 1000000)

-- the same with a sign, where it is negative
unfoldable pub value_text : ℤ → List ℕ
value_text (pos size) = size_text size
value_text (negsuc less) = codes "-" ++ size_text (suc less)

-- a parameter and its value
unfoldable pub reading_text : Reading → List ℕ
reading_text reading = codes "R" ++ (decimal reading.number ++ (codes " = " ++ value_text reading.value))

-- a parameter more
unfoldable pub further_text : Reading → List ℕ
further_text reading = codes ", " ++ reading_text reading

-- parameters, one after another
unfoldable pub readings_text : List Reading → List ℕ
readings_text [] = []
readings_text (reading ∷ readings) = reading_text reading ++ flat_map further_text readings
