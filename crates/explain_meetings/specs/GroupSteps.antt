-- Steps. The groups so far, each with its names.
use Rattle.std.specs.Prelude.{◌≡◌, ℕ, ◌<◌, ◌+◌, ◌&&◌, Bool, false, All, List, [], ◌∷◌, slice_get, take, Some}
use Rattle.std.specs.List.{Any, count_by}
use Rattle.explain_meetings.specs.Groups.{capped, have_names, kind_number, same_name}
use Rattle.explain_meetings.specs.Puts.{AreApart, put_in}
use Rattle.explain_meetings.specs.declared.groups.Key.{Key}
use Rattle.explain_meetings.specs.declared.groups.NameKey.{NameKey}
use Rattle.explain_meetings.specs.declared.groups.Named.{Named}
use Rattle.sync_types.specs.declared.verdicts.PlaceName.{PlaceName}
use Rattle.explain_places.specs.declared.place.Meeting.{Meeting}

-- of the same names
abbrev pub have_same : Named → Named → Bool
have_same one other = same_name one.left other.left && same_name one.right other.right

-- what is compared of the names
abbrev pub name_key : PlaceName → NameKey
name_key name = record { line = name.line; zone = name.zone; channel = name.channel; kind = kind_number name.kind }

abbrev pub key_of : Named → Key
key_of row = record { left = name_key row.left; right = name_key row.right }

-- the two counts added
abbrev pub counted : Named → Named → Named
counted row more = record { left = row.left; right = row.right; group = record { first = row.group.first; count = capped (row.group.count + more.group.count) } }

abbrev pub put_named : List Named → Named → List Named
put_named rows more = put_in have_same counted rows more

-- a pair at a place as a group
unfoldable pub named_at : ℕ → Meeting → Named
named_at place met = record { left = met.left.name; right = met.right.name; group = record { first = place; count = 1 } }

-- what is so of a row of a group of some pairs
pub record IsNamed (met : List Meeting) (row : Named) : Type 0 where
  pub one : Meeting
  pub there : slice_get met row.group.first ≡ Some one
  pub left : one.left.name ≡ row.left
  pub right : one.right.name ≡ row.right
  pub first : All (λ other. have_names row.left row.right other ≡ false) (take row.group.first met)
  pub count : row.group.count ≡ capped (count_by (have_names row.left row.right) met)

abbrev pub names_in : Named → PlaceName × PlaceName
names_in row = (row.left, row.right)

abbrev pub names_of : Meeting → PlaceName × PlaceName
names_of met = (met.left.name, met.right.name)

abbrev pub DoRowsAscend : List Named → Type 0
DoRowsAscend [] = Unit {0}
DoRowsAscend (row ∷ rows) = All (λ later. row.group.first < later.group.first) rows × DoRowsAscend rows

-- of all rows
pub record AreNamed (met : List Meeting) (rows : List Named) : Type 0 where
  pub each : All (IsNamed met) rows
  pub all : All (λ pair. Any (λ row. names_in row ≡ names_of pair) rows) met
  pub once : AreApart names_in rows
  pub ascend : DoRowsAscend rows
