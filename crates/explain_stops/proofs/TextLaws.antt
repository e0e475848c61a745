-- Texts that are said one after another.
use Rattle.std.proofs.Common.{◌≡◌, ◌∙◌, ℕ, ◌+◌, ◌<◌, List, [], ◌∷◌, ◌++◌, ap, append_assoc, get_or, length, sym, take}
use Rattle.std.specs.List.{flat_map}
use Rattle.std.proofs.lemmas.Grind.{flat_map-append}
use Rattle.std.proofs.lemmas.List.{append-nil, take_more}

-- what is said of one more of a list
one_more : {A : Type 0} (f : A → List ℕ) (xs : List A) (i : ℕ) (d : A) → i < length xs → flat_map f (take (i + 1) xs) ≡ flat_map f (take i xs) ++ f (get_or xs i d)
one_more f xs i d within =
    ap (flat_map f) (take_more xs i d within)
    ∙ (flat_map-append f (take i xs) (get_or xs i d ∷ []) ∙ ap (λ (ys : List ℕ). flat_map f (take i xs) ++ ys) (append-nil (f (get_or xs i d))))

pub more_said : {A : Type 0} (f : A → List ℕ) (xs : List A) (i : ℕ) (d : A) (start old new : List ℕ) → i < length xs → old ≡ start ++ flat_map f (take i xs)
    → new ≡ old ++ f (get_or xs i d) → new ≡ start ++ flat_map f (take (i + 1) xs)
more_said f xs i d start old new within so_far more =
    more
    ∙ (ap (λ (ys : List ℕ). ys ++ f (get_or xs i d)) so_far
    ∙ (append_assoc start (flat_map f (take i xs)) (f (get_or xs i d)) ∙ ap (λ (ys : List ℕ). start ++ ys) (sym (one_more f xs i d within))))

-- two texts after another
pub then_said : (start old new a b : List ℕ) → old ≡ start ++ a → new ≡ old ++ b → new ≡ start ++ (a ++ b)
then_said start old new a b first second = second ∙ (ap (λ (ys : List ℕ). ys ++ b) first ∙ append_assoc start a b)

pub three_said : (s t u v a b c : List ℕ) → t ≡ s ++ a → u ≡ t ++ b → v ≡ u ++ c → v ≡ s ++ (a ++ (b ++ c))
three_said s t u v a b c one two three = then_said s t v a (b ++ c) one (then_said t u v b c two three)

pub four_said : (s t u v w a b c d : List ℕ) → t ≡ s ++ a → u ≡ t ++ b → v ≡ u ++ c → w ≡ v ++ d → w ≡ s ++ (a ++ (b ++ (c ++ d)))
four_said s t u v w a b c d one two three four = then_said s t w a (b ++ (c ++ d)) one (three_said t u v w b c d two three four)

pub five_said : (s t u v w x a b c d e : List ℕ) → t ≡ s ++ a → u ≡ t ++ b → v ≡ u ++ c → w ≡ v ++ d → x ≡ w ++ e
    → x ≡ s ++ (a ++ (b ++ (c ++ (d ++ e))))
five_said s t u v w x a b c d e one two three four five = then_said s t x a (b ++ (c ++ (d ++ e))) one (four_said t u v w x b c d e two three four five)
