-- Meaning. Names in upper case.
use Rattle.std.specs.Prelude.{ℕ, List, map, take}
use Rattle.std.specs.Char.{to_ascii_uppercase}
use Rattle.nc_expressions.specs.declared.limits.TheConstants.{NAME_LIMIT}

abbrev pub upper : List ℕ → List ℕ
upper text = map to_ascii_uppercase text

-- a name keeps so many bytes at most as names may have; none that stands in a block is longer
abbrev pub name_of : List ℕ → List ℕ
name_of text = upper (take NAME_LIMIT text)
