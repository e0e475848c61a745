-- The row of a letter is found in a table as in the plain rows of it.
use Rattle.std.proofs.Common.{◌≡◌, ◌∙◌, ℕ, ◌==◌, Bool, true, false, cond, List, [], ◌∷◌, Some, map, refl, ap}
use Rattle.std.specs.Prelude.{Option}
use Rattle.std.specs.List.{find}
use Rattle.std.specs.Option.{option_map}
use Rattle.explain_stops.specs.Races.{Row, row_of}

pick : {T : Type 0} (plain : T → Row) (b : Bool) (x : T) (o : Option T) → cond b (Some (plain x)) (option_map plain o) ≡ option_map plain (cond b (Some x) o)
pick plain true x o = refl
pick plain false x o = refl

found : {T : Type 0} (xs : List T) (plain : T → Row) (test : T → Bool) (letter : ℕ) → ((x : T) → ((plain x).0 == letter) ≡ test x) → row_of (map plain xs) letter ≡ option_map plain (find test xs)
found [] plain test letter same = refl
found (x ∷ xs) plain test letter same =
    ap (λ b. cond b (Some (plain x)) (row_of (map plain xs) letter)) (same x)
    ∙ ap (λ o. cond (test x) (Some (plain x)) o) (found xs plain test letter same)
    ∙ pick plain (test x) x (find test xs)

pub told : {T : Type 0} (xs : List T) (plain : T → Row) (test : T → Bool) (letter : ℕ) (row : Option T) → ((x : T) → ((plain x).0 == letter) ≡ test x) → find test xs ≡ row → row_of (map plain xs) letter ≡ option_map plain row
told xs plain test letter row same e = found xs plain test letter same ∙ ap (option_map plain) e
