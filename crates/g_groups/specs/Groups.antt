-- Meaning. The groups of words: which words a group has, and how long a word holds.
use Rattle.std.specs.Prelude.{ℕ, zero, suc, ◌+◌, ◌-◌, ◌≡◌, ◌==◌, Bool, true, false, not, ◌&&◌, IsTrue, if◌then◌else◌, List, [], ◌∷◌, ◌++◌, slice_get, Some, codes}
use Rattle.std.specs.List.{list_any}
use Rattle.g_groups.specs.declared.numbers.TheConstants.{RAPID_GROUP, MOTION_GROUP, DWELL_GROUP, AREA_GROUP, PLANE_GROUP, RADIUS_GROUP, OFFSET_GROUP, BLOCK_GROUP, PATH_GROUP, STOP_GROUP, STOP_WIDTH_GROUP, UNIT_GROUP, DIMENSION_GROUP, FEED_GROUP, APPROACH_GROUP, CORNER_GROUP, ACCELERATION_GROUP, FEED_FORWARD_GROUP, AREA_SWITCH_GROUP, DIAMETER_GROUP, RTLION, DIAMOF}

-- a word as it is written: G with a number, or a name
pub data Spelling : Type 0 where
  g : ℕ → Spelling
  name : List ℕ → Spelling

-- how long a word holds
pub data Holding : Type 0 where
  modal : ℕ → Holding  -- until the next word of its group; at the start the word of this code holds
  in_block : Holding  -- in its own block alone
  none : Holding  -- its group has no value

pub record Group : Type 0 where
  pub number : ℕ
  pub holding : Holding
  pub words : List Spelling

-- the code of the word at a place of its group, counted from 1: the number after G, or the place of a name
abbrev pub code_of : ℕ → Spelling → ℕ
code_of place (g number) = number
code_of place (name text) = place

-- the codes of words that stand from a place on
abbrev pub codes_from : ℕ → List Spelling → List ℕ
codes_from place [] = []
codes_from place (word ∷ words) = code_of place word ∷ codes_from (place + 1) words

-- so many words G with numbers in a row
abbrev pub g_row : ℕ → ℕ → List Spelling
g_row first zero = []
g_row first (suc more) = g first ∷ g_row (first + 1) more

abbrev pub group : ℕ → Holding → List Spelling → Group
group number holding words = record { number = number; holding = holding; words = words }

-- the table of groups
abbrev pub groups : List Group
groups =
    group RAPID_GROUP (modal RTLION) (name (codes "RTLION") ∷ name (codes "RTLIOF") ∷ [])
    ∷ group MOTION_GROUP (modal 1) (g 0 ∷ g 1 ∷ g 2 ∷ g 3 ∷ g 33 ∷ [])
    ∷ group DWELL_GROUP none (g 4 ∷ [])
    ∷ group AREA_GROUP none (g 25 ∷ g 26 ∷ [])
    ∷ group PLANE_GROUP (modal 18) (g 17 ∷ g 18 ∷ g 19 ∷ [])
    ∷ group RADIUS_GROUP (modal 40) (g 40 ∷ g 41 ∷ g 42 ∷ [])
    ∷ group OFFSET_GROUP (modal 500) (g 500 ∷ g_row 54 4 ++ g_row 505 95)
    ∷ group BLOCK_GROUP in_block (g 53 ∷ g 153 ∷ name (codes "SUPA") ∷ [])
    ∷ group PATH_GROUP (modal 60) (g 60 ∷ g 64 ∷ g_row 641 5)
    ∷ group STOP_GROUP none (g 9 ∷ [])
    ∷ group STOP_WIDTH_GROUP none (g_row 601 3)
    ∷ group UNIT_GROUP (modal 71) (g 71 ∷ g 710 ∷ [])
    ∷ group DIMENSION_GROUP (modal 90) (g 90 ∷ g 91 ∷ [])
    ∷ group FEED_GROUP none (g_row 94 4)
    ∷ group APPROACH_GROUP none (name (codes "NORM") ∷ name (codes "KONT") ∷ [])
    ∷ group CORNER_GROUP none (g 450 ∷ g 451 ∷ [])
    ∷ group ACCELERATION_GROUP none (name (codes "BRISK") ∷ name (codes "SOFT") ∷ [])
    ∷ group FEED_FORWARD_GROUP none (name (codes "FFWON") ∷ name (codes "FFWOF") ∷ [])
    ∷ group AREA_SWITCH_GROUP none (name (codes "WALIMON") ∷ name (codes "WALIMOF") ∷ [])
    ∷ group DIAMETER_GROUP (modal DIAMOF) (name (codes "DIAMON") ∷ name (codes "DIAMOF") ∷ name (codes "DIAM90") ∷ [])
    ∷ []

-- how long the words of a group hold
abbrev pub holding_in : List Group → ℕ → Holding
holding_in [] number = none
holding_in (row ∷ rows) number = if row.number == number then row.holding else holding_in rows number

unfoldable pub holding_of : ℕ → Holding
holding_of number = holding_in groups number

abbrev pub has_value : Holding → Bool
has_value (modal start) = true
has_value in_block = true
has_value none = false

-- the group is in the table, and a word of it holds for some time
abbrev pub HasModalValue : ℕ → Type 0
HasModalValue number = IsTrue (has_value (holding_of number))

-- the word that holds at the start is one of the group's
abbrev pub has_start : Group → Holding → Bool
has_start row (modal start) = list_any (λ code. code == start) (codes_from 1 row.words)
has_start row in_block = true
has_start row none = true

-- no number stands twice
abbrev pub are_apart : List ℕ → Bool
are_apart [] = true
are_apart (number ∷ numbers) = not (list_any (λ other. other == number) numbers) && are_apart numbers

-- the words of a group
abbrev pub words_in : List Group → ℕ → List Spelling
words_in [] number = []
words_in (row ∷ rows) number = if row.number == number then row.words else words_in rows number

-- the word of this code in its group is this name
abbrev pub IsNamed : ℕ → ℕ → List ℕ → Type 0
IsNamed number code text = slice_get (words_in groups number) (code - 1) ≡ Some (name text)
