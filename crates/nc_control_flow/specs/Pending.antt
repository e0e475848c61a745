-- Steps. What a search finds, for each number of structures that have to end first: the k-th entry for k.
use Rattle.std.specs.Prelude.{ℕ, List, [], ◌∷◌, drop}
use Rattle.nc_control_flow.specs.declared.parts.Part.{Part}
use Rattle.nc_control_flow.specs.declared.parts.Part.TheVariants.{Opens, Branches, Closes, Neither}
use Rattle.nc_control_flow.specs.declared.parts.Sought.{Sought}
use Rattle.nc_control_flow.specs.Matching.{part_in_search}

-- with one more part in front, at a place
abbrev pub places_with_part : Part → ℕ → List ℕ → List ℕ
places_with_part Closes place places = place ∷ places
places_with_part Branches place places = place ∷ drop 1 places
places_with_part Opens place places = drop 1 places
places_with_part Neither place places = places

abbrev pub pending_places : Sought → List (ℕ × Part) → List ℕ
pending_places sought [] = []
pending_places sought (e ∷ es) = places_with_part (part_in_search sought e.1) e.0 (pending_places sought es)
