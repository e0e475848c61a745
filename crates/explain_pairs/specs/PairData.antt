-- Meaning. Two zones as data.
use Rattle.std.specs.Prelude.{ℕ, ℤ, List, Option, None, Some, codes}
use Rattle.explain_pairs.specs.PairTexts.{apart_of}
use Rattle.explain_pairs.specs.declared.data.PairData.{PairData}
use Rattle.explain_pairs.specs.declared.pairs.Absent.{Absent}
use Rattle.explain_pairs.specs.declared.pairs.Absent.TheVariants.{First, Second, Both}
use Rattle.explain_pairs.specs.declared.pairs.Comparison.{Comparison}
use Rattle.explain_pairs.specs.declared.pairs.PairKind.{PairKind}
use Rattle.explain_pairs.specs.declared.pairs.PairKind.TheVariants.{OneGroup, NeverOn, Compared, OneChannel, Coordinated}
use Rattle.explain_pairs.specs.declared.pairs.ZonePair.{ZonePair}

-- which are never on, in a word
abbrev pub absent_word : Absent → List ℕ
absent_word First = codes "FIRST NEVER ON"
absent_word Second = codes "SECOND NEVER ON"
absent_word Both = codes "BOTH NEVER ON"

-- what is told of two zones, in a word
abbrev pub kind_word : PairKind → List ℕ
kind_word OneGroup = codes "ONE GROUP"
kind_word (NeverOn absent) = absent_word absent
kind_word (Compared found) = codes "COMPARED"
kind_word (OneChannel channel) = codes "ONE CHANNEL"
kind_word Coordinated = codes "COORDINATION"

-- how many pairs are compared, and how near they come, where some are
abbrev pub found_in : PairKind → Option Comparison
found_in OneGroup = None
found_in (NeverOn absent) = None
found_in (Compared found) = Some found
found_in (OneChannel channel) = None
found_in Coordinated = None

abbrev pub count_in : Option Comparison → ℕ
count_in None = 0
count_in (Some found) = found.count

abbrev pub nearest_in : Option Comparison → Option ℤ
nearest_in None = None
nearest_in (Some found) = Some (apart_of found.reach)

-- the numbers of two zones as data: the zones, how many pairs are compared, and how near they come
pub record PairNumbers : Type 0 where
  pub zones : ℕ × ℕ
  pub count : ℕ
  pub nearest : Option ℤ

abbrev pub numbers_of : ZonePair → PairNumbers
numbers_of row = record { zones = row.zones; count = count_in (found_in row.kind); nearest = nearest_in (found_in row.kind) }

abbrev pub numbers_in : PairData → PairNumbers
numbers_in «data» = record { zones = «data».zones; count = «data».count; nearest = «data».nearest }
