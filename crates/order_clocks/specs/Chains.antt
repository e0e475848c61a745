-- Meaning. Lists of neighbours.
use Rattle.std.specs.Prelude.{◌≡◌, ◌⊎◌, List, [], ◌∷◌}

-- the list leads from a to b: each follows the one before it
abbrev pub IsPath : {E : Type 0} → (E → E → Type 0) → E → List E → E → Type 0
IsPath Next a [] b = Next a b
IsPath Next a (e ∷ es) b = Next a e × IsPath Next e es b

-- a list of at least two leads from a to b, each a neighbour of the one before it
abbrev pub Leads : {E : Type 0} → (E → E → Type 0) → E → E → Type 0
Leads {E} Next a b = (between : List E) × IsPath Next a between b

abbrev pub IsIn : {A : Type 0} → A → List A → Type 0
IsIn a [] = ⊥
IsIn a (x ∷ xs) = (a ≡ x) ⊎ IsIn a xs
