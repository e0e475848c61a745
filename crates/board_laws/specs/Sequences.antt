-- Steps. Steps of any kind one after another, and runs that are whole.
use Rattle.std.specs.Prelude.{◌≡◌, ℕ, Bool, true, false, List, [], ◌∷◌}

abbrev pub end_of : {X : Type 0} → (X → ℕ → X) → X → List ℕ → X
end_of step x [] = x
end_of step x (p ∷ ps) = end_of step (step x p) ps

abbrev pub IsRun : {X : Type 0} → (X → ℕ → X) → (X → ℕ → Bool) → X → List ℕ → Type 0
IsRun step running x [] = Unit {0}
IsRun step running x (p ∷ ps) = (running x p ≡ true) × IsRun step running (step x p) ps

abbrev pub AreClean : {X : Type 0} → (X → ℕ → X) → (X → ℕ → Type 0) → X → List ℕ → Type 0
AreClean step Good x [] = Unit {0}
AreClean step Good x (p ∷ ps) = Good x p × AreClean step Good (step x p) ps

-- a clean run from x to z, where nobody runs
pub record IsWhole {X : Type 0} (step : X → ℕ → X) (running : X → ℕ → Bool) (Good : X → ℕ → Type 0) (x : X) (ps : List ℕ) (z : X) : Type 0 where
  pub run : IsRun step running x ps
  pub clean : AreClean step Good x ps
  pub over : (p : ℕ) → running z p ≡ false
  pub ends : end_of step x ps ≡ z
