-- Meaning. Searches for an end, an ELSE or a beginning, by counting what opens and closes on the way.
use Rattle.std.specs.Prelude.{ℕ, zero, suc, List, [], ◌∷◌, Option, Some, None}
use Rattle.nc_control_flow.specs.declared.parts.Part.{Part}
use Rattle.nc_control_flow.specs.declared.parts.Part.TheVariants.{Opens, Branches, Closes, Neither}
use Rattle.nc_control_flow.specs.declared.parts.Sought.{Sought}
use Rattle.nc_control_flow.specs.declared.parts.Sought.TheVariants.{End, Branch, Opener}

-- how a search sees a part: one for the end passes over an ELSE, and backwards an end opens
abbrev pub part_in_search : Sought → Part → Part
part_in_search End Branches = Neither
part_in_search End part = part
part_in_search Branch part = part
part_in_search Opener Opens = Closes
part_in_search Opener Closes = Opens
part_in_search Opener part = Neither

-- one part is met, while so many structures were opened on the way and have to end first
abbrev pub count : Part → ℕ → ℕ → (ℕ → Option ℕ) → Option ℕ
count Closes place zero onward = Some place
count Closes place (suc more) onward = onward more
count Branches place zero onward = Some place
count Branches place (suc more) onward = onward (suc more)
count Opens place more onward = onward (suc more)
count Neither place more onward = onward more

-- the place of the first part that ends the structure round these
abbrev pub matching : Sought → ℕ → List (ℕ × Part) → Option ℕ
matching sought more [] = None
matching sought more (e ∷ es) = count (part_in_search sought e.1) e.0 more (λ others. matching sought others es)
