-- Meaning. Where the reading of an expression stops.
use Rattle.std.specs.Prelude.{ℕ, ◌-◌, List, [], ◌∷◌, length, drop}
use Rattle.nc_expressions.specs.declared.symbols.Symbol.{Symbol}
use Rattle.nc_expressions.specs.declared.levels.Level.TheVariants.{Plain}
use Rattle.nc_expressions.specs.Limits.{all_limits}
use Rattle.nc_expressions.specs.Machine.{Next, On, Ends, Refuse, State, Wants, step}

abbrev pub stop_here : Next → List Symbol → (State → List Symbol) → List Symbol
stop_here (On state) symbols following = following state
stop_here (Ends t) symbols following = symbols
stop_here (Refuse code) symbols following = symbols

-- what is not taken: from the first symbol on at which the expression ends or is refused
unfoldable pub not_taken : List Symbol → State → List Symbol
not_taken [] state = []
not_taken (s ∷ ss) state = stop_here (step all_limits state s) (s ∷ ss) (not_taken ss)

-- the place where the reading stops that has come to a place
unfoldable pub stop_from : List Symbol → ℕ → State → ℕ
stop_from symbols at state = length symbols - length (not_taken (drop at symbols) state)

-- the place where the reading of the expression at a place stops
abbrev pub stop_at : List Symbol → ℕ → ℕ
stop_at symbols at = stop_from symbols at (Wants [] Plain)
