-- Meaning. Lengths as texts.
use Rattle.std.specs.Prelude.{ℕ, ℤ, pos, negsuc, suc, ◌/◌, ◌%◌, List, ◌++◌, codes}
use Rattle.std.specs.Fmt.{decimal}

-- so many micrometres, as millimetres with three decimals
unfoldable pub size_text : ℕ → List ℕ
size_text size = decimal (size / 1000) ++ (codes "." ++ (decimal (size / 100 % 10) ++ (decimal (size / 10 % 10) ++ decimal (size % 10))))

-- the same with a sign, where it is negative
unfoldable pub millimetres_text : ℤ → List ℕ
millimetres_text (pos size) = size_text size
millimetres_text (negsuc less) = codes "-" ++ size_text (suc less)
