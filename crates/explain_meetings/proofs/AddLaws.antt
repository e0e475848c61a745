-- What is added to a list, element by element of another.
use Rattle.std.proofs.Common.{◌≡◌, ◌∙◌, List, [], ◌∷◌, ◌++◌, refl, sym, ap, append_assoc}
use Rattle.std.specs.List.{flat_map}

-- functions that give the same give the same one after another
pub flat_map_same : {X A : Type 0} (f g : X → List A) → ((x : X) → f x ≡ g x) → (xs : List X) → flat_map f xs ≡ flat_map g xs
flat_map_same f g same [] = refl
flat_map_same f g same (x ∷ xs) = ap (λ (first : List _). first ++ flat_map f xs) (same x) ∙ ap (λ (rest : List _). g x ++ rest) (flat_map_same f g same xs)

-- what is still to be added, in two parts
pub added_part : {A : Type 0} (list more part rest later start : List A) → more ≡ list ++ part → rest ≡ part ++ later → list ++ rest ≡ start → more ++ later ≡ start
added_part list more part rest later start added split so_far =
    ap (λ (items : List _). items ++ later) added ∙ append_assoc list part later ∙ ap (λ (items : List _). list ++ items) (sym split) ∙ so_far
