-- Steps. Rows of which each is merged with an earlier one that is the same, if there is one.
use Rattle.std.specs.Prelude.{◌≡◌, Bool, if◌then◌else◌, All, List, [], ◌∷◌}

-- a row is merged with the first that is the same, or added at the end
abbrev pub put_in : {R : Type 0} → (R → R → Bool) → (R → R → R) → List R → R → List R
put_in same merge [] new = new ∷ []
put_in same merge (row ∷ rows) new = if same row new then merge row new ∷ rows else row ∷ put_in same merge rows new

-- no two rows have the same key
abbrev pub AreApart : {R K : Type 0} → (R → K) → List R → Type 0
AreApart key [] = Unit {0}
AreApart key (row ∷ rows) = All (λ other. key row ≡ key other → ⊥) rows × AreApart key rows
