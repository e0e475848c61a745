-- Meaning. How the verdict UNDECIDED is said: of each two zones how many pairs of boxes are to be compared.
use Rattle.std.specs.Prelude.{◌≡◌, ℕ, List, ◌++◌, codes}
use Rattle.std.specs.Fmt.{decimal}
use Rattle.std.specs.List.{flat_map}
use Rattle.clash_check.specs.PairNumbers.{AreByCount}
use Rattle.clash_check.specs.declared.numbers.PairNumber.{PairNumber}

-- how many of two zones
unfoldable pub number_text : PairNumber → List ℕ
number_text row = codes "  zone " ++ (decimal row.zones.0 ++ (codes " and zone " ++ (decimal row.zones.1 ++ (codes ": " ++ (decimal row.count ++ codes "\n")))))

-- of each two, and what to do
unfoldable pub numbers_text : List PairNumber → List ℕ
numbers_text rows = codes "Of each two zones, the most first:\n" ++ (flat_map number_text rows
    ++ codes "What to do: a line BUDGET with this count, up to 100000000; or marks that put the programs in an order, so that fewer blocks can come at one time.\n")

-- these numbers, the most first
pub record IsUndecidedText (numbers : List PairNumber) (text : List ℕ) : Type 0 where
  pub rows : List PairNumber
  pub by_count : AreByCount numbers rows
  pub told : text ≡ numbers_text rows
